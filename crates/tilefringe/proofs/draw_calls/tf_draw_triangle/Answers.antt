use mathlib.Core.Path.{◌∙◌}
use native.Mathlib.Omega.{arith}
use Rattle.std.proofs.lemmas.Bool.Decides.{nat_tests}
use Rattle.tilefringe.proofs.Drawn.{plain_call}
use Rattle.tilefringe.proofs.draw_calls.tf_draw_triangle.Goals as goal

pub returns-then-is_empty : goal.returns-then-is_empty
returns-then-is_empty c =
    rw c.call_number.ensures
    (c.draw_plain.ensures
    ∙ plain_call c.args.width c.args.height c.args.units.now c.args.settings.now c.args.vertices.now c.args.colors.now c.args.depths.now c.args.store.now c.args.stages.now (grind (arith, nat_tests)))
