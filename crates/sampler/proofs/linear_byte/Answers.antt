use Rattle.sampler.specs.Texels.{linear_byte}
use Rattle.sampler.proofs.linear_byte.Goals as goal

pub returns : goal.returns
unfolding linear_byte
returns c = c.rounded_byte.ensures
