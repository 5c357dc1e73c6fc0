use Rattle.fragment.specs.Fragment.{fog_factor_of}
use Rattle.fragment.proofs.fog_factor.Goals as goal

pub returns : goal.returns
unfolding fog_factor_of
returns c = rw (c.clamp.ensures, c.linear_fog.ensures)
