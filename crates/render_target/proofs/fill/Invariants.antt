use Prim.Native.Nat.{◌+◌, ◌*◌}
use mathlib.Core.Path.{◌≡◌}
use Rattle.render_target.specs.Clear.{span_of, element_at}
use Rattle.render_target.proofs.fill.Given as goal

abbrev pub invariant-loop-pixel : goal.invariant-loop-pixel
invariant-loop-pixel g l =
    (z : g.row.T.Denot) → l.items ≡ span_of (element_at g.row.K l.value z) z (l.from * g.row.K) (l.pixel * g.row.K) l.initial.items

abbrev pub invariant-loop-i : goal.invariant-loop-i
invariant-loop-i g l =
    (z : g.row.T.Denot) → l.items ≡ span_of (element_at g.row.K l.value z) z (l.from * g.row.K) (l.pixel * g.row.K + l.i) l.fn.items
