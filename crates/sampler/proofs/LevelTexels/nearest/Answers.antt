use mathlib.Core.Path.{◌∙◌}
use Rattle.sampler.specs.Samples.{nearest_in}
use Rattle.sampler.proofs.LevelTexels.nearest.Goals as goal

pub returns : goal.returns
unfolding nearest_in
returns c = c.texel.ensures ∙ rw (c.coord.ensures, c.coord-2.ensures)
