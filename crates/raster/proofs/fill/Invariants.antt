use mathlib.Core.Path.{◌≡◌}
use Prim.Native.Nat.{◌+◌, ◌*◌, ◌-◌, ◌≤◌}
use Rattle.pixels.specs.Targets.{drawn_on}
use Rattle.raster.specs.Fill.{row_of, fill_of}
use Rattle.raster.proofs.Fills.{Filling}
use Rattle.raster.proofs.fill.Given as goal

abbrev pub invariant-loop-py : goal.invariant-loop-py
invariant-loop-py g l =
    Filling (row_of (g.P.Paint.store l.paint) (g.P.Paint.drawing l.paint) l.t l.initial.target.width l.pixels.x0 l.pixels.x1) l.pixels.y1 (fill_of (g.P.Paint.store l.paint) (g.P.Paint.drawing l.paint) l.t l.initial.target.width l.pixels (drawn_on l.initial.target))
    l.initial.target l.target l.py
    × (l.target.written + 4096 * l.pixels.y0 ≤ l.initial.target.written + 4096 * l.py)
    × (l.target.written ≤ l.initial.target.written + 4096 * l.pixels.y1)
    × (l.py-end ≡ l.pixels.y1)

abbrev pub decreases-loop-py : goal.decreases-loop-py
decreases-loop-py g l = l.pixels.y1 - l.py
