use lib.ListN.{length}
use Rattle.render_target.specs.Clear.{rows_of, element_at}
use Rattle.render_target.proofs.Rowwise.{Rowing}
use Rattle.render_target.proofs.fill_rows.Given as goal

abbrev pub invariant-loop-y : goal.invariant-loop-y
invariant-loop-y g l =
    (z : g.row.T.Denot) → Rowing g.row.K (element_at g.row.K l.value z) z l.width l.b.x0 l.b.x1 l.b.y1 (rows_of g.row.K (element_at g.row.K l.value z) z l.width l.b.x0 l.b.y0 l.b.x1 l.b.y1 l.initial.items) (length l.initial.items) l.items l.y
