use Prim.Native.Nat.{◌+◌, ◌*◌, ◌≤◌}
use mathlib.Core.Path.{refl}
use native.Mathlib.Omega.{arith}
use native.Mathlib.Nat.{mul-le-mul_right}
use lib.ListN.{length}
use Rattle.std.proofs.Common.{rules, le_trans}
use Rattle.render_target.proofs.Rowwise.{row_more, rows_end, row_within, row_room}
use Rattle.render_target.proofs.fill_rows.Goals as goal

pub loop-y-init : goal.loop-y-init
loop-y-init g c = λ z. record { rest = refl; long = refl }

pub overflow_mul-row : goal.overflow_mul-row
overflow_mul-row g c = omega (arith, row_room c.args.width g.row.K c.requires.0 c.loop-y-test.true, c.requires)

pub overflow_add-row : goal.overflow_add-row
overflow_add-row g c = omega (arith, row_room c.args.width g.row.K c.requires.0 c.loop-y-test.true, c.requires)

pub overflow_add-row-in-loop-y : goal.overflow_add-row-in-loop-y
overflow_add-row-in-loop-y g c = omega (arith, row_room c.args.width g.row.K c.requires.0 c.loop-y-test.true, c.requires)

pub fill-requires : goal.fill-requires
fill-requires g c =
    let end : c.loop-y.y * c.args.width + c.args.b.x1 ≤ c.args.b.y1 * c.args.width = omega (arith, row_within c.args.width c.loop-y-test.true, c.requires) in
    let room : (c.loop-y.y * c.args.width + c.args.b.x1) * g.row.K ≤ length c.loop-y.items = omega (arith, mul-le-mul_right g.row.K end, c.loop-y.auto.items, c.requires) in
    (search rules, (omega (arith, c.requires), le_trans (mul-le-mul_right g.row.K (omega (arith, c.requires))) room))

pub loop-y-preserved : goal.loop-y-preserved
loop-y-preserved g c = λ z. row_more (c.loop-y.invariant z) c.loop-y-test.true (c.fill.ensures z)

pub returns : goal.returns
returns g c = λ z. rows_end (c.loop-y.invariant z) c.loop-y-test.false
