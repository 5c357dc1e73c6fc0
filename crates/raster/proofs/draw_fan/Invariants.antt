use mathlib.Core.Path.{◌≡◌}
use mathlib.Core.List.{[], ◌∷◌}
use Prim.Native.Nat.{◌+◌, ◌*◌, ◌≤◌}
use lib.ListN.{length}
use Rattle.std.specs.Slice.Iter.{windows_rest, windows_size}
use Rattle.std.specs.Slice.ArrayWindows.{array_windows_parts}
use Rattle.pixels.specs.Targets.{drawn_on, Same}
use Rattle.clip.specs.Clip.{clipped}
use Rattle.clip.specs.Fan.{fan_at, fan_of, draw_each}
use Rattle.raster.specs.Fill.{raster_of}
use Rattle.raster.proofs.draw_fan.Given as goal

abbrev pub invariant-loop-pair : goal.invariant-loop-pair
invariant-loop-pair g l =
    let step = raster_of (g.D.Paint.store l.paint) (g.D.Paint.drawing l.paint) l.view l.initial.target.within l.initial.target.width in
    let left = windows_rest (array_windows_parts l.pair-iterator) in
    let t = l.fn.t in
    (draw_each step (fan_at l.a left) (drawn_on l.target) ≡ draw_each step (fan_of (clipped (t.a ∷ t.b ∷ t.c ∷ []))) (drawn_on l.initial.target))
    × Same l.initial.target l.target
    × (windows_size (array_windows_parts l.pair-iterator) ≡ 2)
    × (l.target.written + 16777216 * length left ≤ 16777216 * 41)
