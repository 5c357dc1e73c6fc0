use Rattle.sampler.specs.Texels.{mix_byte}
use Rattle.sampler.proofs.mix_byte.Goals as goal

pub returns : goal.returns
unfolding mix_byte
returns c = c.rounded_byte.ensures
