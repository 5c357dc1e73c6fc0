use mathlib.Core.Path.{refl, ◌∙◌}
use Rattle.lists.proofs.Choice.{yes, no}
use Rattle.sampler.proofs.Records.{no_width, no_height, both_sides}
use Rattle.stages.specs.Stages.{stage_color}
use Rattle.stages.proofs.stage_color.Goals.{then-first-eq0-via-then-first-eq0, then-first-eq0-via-else-first-eq0+then-first-eq0-2}
use Rattle.stages.proofs.stage_color.Goals as goal

pub returns-then-first-eq0 : goal.returns-then-first-eq0
unfolding stage_color
returns-then-first-eq0 c = elim c.then-first-eq0.branch [
  | then-first-eq0-via-then-first-eq0 w ↦ no _ (no_width c.args.texture.now w.if-first-eq0.true) refl
  | then-first-eq0-via-else-first-eq0+then-first-eq0-2 w ↦ no _ (no_height c.args.texture.now w.if-first-eq0-2.true) refl
]

pub returns : goal.returns
unfolding stage_color
returns c = yes _ (both_sides c.args.texture.now c.if-first-eq0.false c.if-first-eq0-2.false) (c.apply_tex_env.ensures ∙ rw (c.texel_color.ensures, c.sample_with_gradients-sampled.ensures))
