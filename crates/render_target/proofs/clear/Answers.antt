use Prim.Native.Nat.{◌*◌, ◌≤◌}
use mathlib.Core.Path.{refl, sym, ◌∙◌}
use native.Mathlib.Omega.{arith}
use native.Mathlib.Nat.{mul-le-mul_left}
use lib.ListN.{length, get_or}
use Rattle.std.proofs.Common.{rules}
use Rattle.scissor.proofs.Boxes.{box_inside, rows_fit}
use Rattle.render_target.proofs.Cleared.{cleared_none, rows_clear}
use Rattle.render_target.proofs.clear.Goals as goal

pub fill_box-requires : goal.fill_box-requires
fill_box-requires g c =
    let b = box_inside c.args.width c.args.height c.args.scissor (sym c.in-Some.is ∙ c.scissor_bounds.ensures) in
    let room : c.in-Some.b.y1 * c.args.width * g.row.K ≤ length c.args.items.now = omega (arith, mul-le-mul_left g.row.K (rows_fit c.args.width c.args.height b.3 refl), c.requires) in
    (search rules, (c.requires.0, b.0, b.1, b.2, room))

pub returns-in-Some : goal.returns-in-Some
returns-in-Some g c = λ z.
    let b = box_inside c.args.width c.args.height c.args.scissor (sym c.in-Some.is ∙ c.scissor_bounds.ensures) in
    c.fill_box.ensures z ∙ rows_clear g.row.K (λ i. get_or c.args.value i z) z _ _ _ _ _ _ _ _ c.requires.0 b.1 b.2 (sym c.in-Some.is ∙ c.scissor_bounds.ensures)

pub returns-in_default : goal.returns-in_default
returns-in_default g c = λ z.
    cleared_none g.row.K (λ i. get_or c.args.value i z) z _ _ _ _ (sym c.in_default.is ∙ c.scissor_bounds.ensures)
