use mathlib.Core.Path.{sym, ◌∙◌}
use native.Mathlib.Omega.{arith}
use Rattle.scissor.proofs.Boxes.{box_inside, rows_fit}
use Rattle.scissor.proofs.Outcome.{target_is}
use Rattle.draw.proofs.draw_checked.Goals as goal

pub invariant_of-target : goal.invariant_of-target
invariant_of-target g c =
    let t = target_is c.args.width c.args.height _ _ c.requires in
    let b = box_inside c.args.width c.args.height c.state-state.result.scissor (sym c.in-Some.is ∙ c.scissor_bounds.ensures) in
    record { fit = (omega (arith, t.2, t.3), t.0, b.1, omega (arith, b.3, t.1), rows_fit c.args.width c.args.height b.3 t.3) }
