use mathlib.Core.Path.{◌∙◌}
use Rattle.coords.specs.Coords.{axis_of}
use Rattle.sampler.specs.Samples.{linear_in}
use Rattle.sampler.proofs.LevelTexels.linear.Goals as goal

pub returns : goal.returns
unfolding linear_in axis_of
returns c = c.linear_texel.ensures ∙ rw (c.texel-c00.ensures, c.texel-c10.ensures, c.texel-c01.ensures, c.texel-c11.ensures, c.axis-x.ensures, c.axis-y.ensures)
