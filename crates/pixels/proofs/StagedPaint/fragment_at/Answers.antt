use mathlib.Core.Path.{◌≡◌, ◌∙◌, sym}
use lib.ListN.{length}
use Rattle.pixels.proofs.Fragments.{unreached, reached, reached_at}
use Rattle.floats.specs.Num.{◌⊘◌, one32}
use Rattle.stages.specs.Stages.{stages_color}
use Rattle.pixels.specs.Way.{Drawing, drawing, shaded_of, fog_depth_of}
use Rattle.pixels.specs.declared.Staged.{Staged}
use Rattle.pixels.proofs.StagedPaint.fragment_at.Goals.{then-self-eq1, else-self-eq1}
use Rattle.pixels.proofs.StagedPaint.fragment_at.Goals as goal

abbrev drawn : Staged → Drawing
drawn s = drawing s.state s.stages.stages.now (length s.stages.stages.now) s.stages.textures.now

pub returns-in_err-z : goal.returns-in_err-z
returns-in_err-z c = rw c.from_residual.ensures (unreached _ (drawn c.args.self.now) c.args.t c.args.w c.args.stored (sym c.reached.ensures ∙ c.in_err-z.was))

pub returns : goal.returns
unfolding shaded_of fog_depth_of
returns c =
    let s = c.args.self.now in
    let e = sym c.reached.ensures ∙ c.in_ok-z.was in
    let h = reached_at s.stages.store.now (drawn s) c.args.t c.args.w c.args.stored e in
    let shaded : c.if-self-eq1.color ≡ stages_color s.stages.store.now s.stages.stages.now (length s.stages.stages.now) s.stages.textures.now c.args.t c.args.w (one32 ⊘ c.in_ok-z.iw) c.color_between-color.result =
    elim c.if-self-eq1.branch [ then-self-eq1 w ↦ w.color-is ∙ w.first-color.ensures | else-self-eq1 w ↦ w.color-is ∙ w.color-color.ensures ] in
    c.finish.ensures ∙ rw (shaded, c.fog_depth_at-fog_depth.ensures, c.color_between-color.ensures, c.shares_of-p.ensures, h.1, h.0) (reached s.stages.store.now (drawn s) c.args.t c.args.w c.args.stored e)
