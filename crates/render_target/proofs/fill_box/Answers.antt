use mathlib.Core.Path.{◌≡◌, ◌∙◌}
use native.Mathlib.Omega.{arith}
use Rattle.render_target.specs.Clear.{element_at}
use Rattle.render_target.proofs.Cleared.{whole_rows}
use Rattle.render_target.proofs.fill_box.Goals as goal

pub returns-then-b-width : goal.returns-then-b-width
returns-then-b-width g c = λ z.
    let left : c.args.b.x0 ≡ 0 = omega (arith, c.if-b-width.true, c.requires) in
    let right : c.args.b.x1 ≡ c.args.width = omega (arith, c.if-b-width.true, c.requires) in
    rw (left, right) (c.fill.ensures z ∙ whole_rows g.row.K (element_at g.row.K c.args.value z) z _ _ _ _ c.requires.0 c.requires.3)
