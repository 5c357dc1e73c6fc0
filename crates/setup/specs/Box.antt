-- The pixels that a triangle can cover: raster.rs, raster_clipped, the bounding box cut to the scissor's.
use Rattle.std.specs.Prelude.{ℕ, max, min, Float, Option}
use Rattle.std.specs.Float.Ieee as Ieee
use Rattle.std.specs.Float.{binary32}
use Rattle.floats.specs.Num.{min_of, max_of, inf32}
use Rattle.rounding.specs.Rounding.{floor_of, ceil_of, next_of}
use Rattle.scissor.specs.Scissor.{from_zero, box_of}
use Rattle.screen.specs.declared.ScreenVertex.{ScreenVertex}
use Rattle.scissor.specs.declared.PixelBox.{PixelBox}

-- raster.rs, raster_clipped: fold(f32::INFINITY, min), fold(f32::NEG_INFINITY, max)
unfoldable pub least_of : Float → Float → Float → Float
least_of a b c = min_of (min_of (min_of inf32 a) b) c

unfoldable pub greatest_of : Float → Float → Float → Float
greatest_of a b c = max_of (max_of (max_of (Ieee.of_bits binary32 0xff80_0000) a) b) c

-- the floor of the least, as an i32, cut to a box that starts at lo, which is never below zero
unfoldable pub start_of : Float → ℕ → ℕ
start_of m lo = max (from_zero (Ieee.to_signed 31 (floor_of m))) lo

-- the ceiling of the greatest, as an i32, and one more (document 01, Corners: it saturates), cut to a box that ends at hi
unfoldable pub end_of : Float → ℕ → ℕ
end_of m hi = min (from_zero (next_of 31 (Ieee.to_signed 31 (ceil_of m)))) hi

unfoldable pub covered_of : ScreenVertex → ScreenVertex → ScreenVertex → PixelBox → Option PixelBox
covered_of a b c within =
    box_of (start_of (least_of a.x b.x c.x) within.x0) (start_of (least_of a.y b.y c.y) within.y0)
    (end_of (greatest_of a.x b.x c.x) within.x1) (end_of (greatest_of a.y b.y c.y) within.y1)
