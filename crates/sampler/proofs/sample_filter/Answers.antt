use mathlib.Core.Path.{◌∙◌}
use Rattle.sampler.proofs.Parts.{level_image, nearest_is, linear_is}
use Rattle.sampler.proofs.sample_filter.Goals as goal

pub invariant_of-level-in-Nearest : goal.invariant_of-level-in-Nearest
invariant_of-level-in-Nearest c = record { image = rw c.level_texels.ensures (level_image _ c.args.m c.requires.0 c.requires.1 c.requires.2) }

pub invariant_of-level-in-Linear : goal.invariant_of-level-in-Linear
invariant_of-level-in-Linear c = record { image = rw c.level_texels.ensures (level_image _ c.args.m c.requires.0 c.requires.1 c.requires.2) }

pub returns-in-Nearest : goal.returns-in-Nearest
returns-in-Nearest c = c.nearest.ensures ∙ rw (c.level_texels.ensures, c.in-Nearest.is) (nearest_is _ c.args.m _ _ _ _ c.requires.0 c.requires.1 c.requires.2)

pub returns-in-Linear : goal.returns-in-Linear
returns-in-Linear c = c.linear.ensures ∙ rw (c.level_texels.ensures, c.in-Linear.is) (linear_is _ c.args.m _ _ _ _ c.requires.0 c.requires.1 c.requires.2)
