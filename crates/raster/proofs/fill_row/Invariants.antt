use Prim.Native.Nat.{◌+◌, ◌-◌, ◌≤◌}
use Rattle.pixels.specs.Way.{pixel_of}
use Rattle.pixels.specs.Targets.{drawn_on}
use Rattle.raster.specs.Fill.{row_of}
use Rattle.raster.proofs.Fills.{Filling}
use Rattle.raster.proofs.fill_row.Given as goal

abbrev pub invariant-loop-px : goal.invariant-loop-px
invariant-loop-px g l =
    Filling (pixel_of (g.P.Paint.store l.paint) (g.P.Paint.drawing l.paint) l.t l.initial.target.width l.py) l.x1 (row_of (g.P.Paint.store l.paint) (g.P.Paint.drawing l.paint) l.t l.initial.target.width l.x0 l.x1 l.py (drawn_on l.initial.target))
    l.initial.target l.target l.px
    × (l.target.written + l.x0 ≤ l.initial.target.written + l.px)
    × (l.target.written ≤ l.initial.target.written + l.x1)

abbrev pub decreases-loop-px : goal.decreases-loop-px
decreases-loop-px g l = l.x1 - l.px
