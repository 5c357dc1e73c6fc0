-- Which pixels of a target lie in a scissor box, and the box cut to the target.
-- Columns count from the left and rows from the top; a scissor's numbers count rows from the bottom.
use Rattle.std.specs.Prelude.{ℕ, ◌-◌, ◌/◌, ◌%◌, min, Bool, false, cond, ◌&&◌, leb, ltb, ℤ, pos, negsuc, ◌+ℤ◌, Option, Some, None}
use Rattle.std.specs.Int.Signed.{le_z, lt_z}
use Rattle.scissor.specs.declared.PixelBox.{PixelBox}
use Rattle.settings.specs.declared.ScissorBox.{ScissorBox}

-- OpenGL ES 1.1, Scissor Test, on one axis: left ≤ x < left + width
abbrev pub within : ℤ → ℤ → ℕ → Bool
within from len k = le_z from (pos k) && lt_z (pos k) (from +ℤ len)

-- OpenGL ES 1.1, Scissor Test: whether the pixel at a column and row of a target lies in the box. Without a box, every pixel of the target does.
unfoldable pub in_box : ℕ → ℕ → Option ScissorBox → ℕ → ℕ → Bool
in_box width height None column row = ltb column width && ltb row height
in_box width height (Some b) column row =
    (ltb column width && ltb row height) && (within b.x b.width column && within b.y b.height (height - 1 - row))

-- the same of pixel p, which is in column p % width and row p / width
abbrev pub pixel_in : ℕ → ℕ → Option ScissorBox → ℕ → Bool
pixel_in width height s p = in_box width height s (p % width) (p / width)

-- a number, or 0 below zero
abbrev pub from_zero : ℤ → ℕ
from_zero (pos n) = n
from_zero (negsuc n) = 0

abbrev pub box_of : ℕ → ℕ → ℕ → ℕ → Option PixelBox
box_of x0 y0 x1 y1 = cond (ltb x0 x1 && ltb y0 y1) (Some (record { x0 = x0; y0 = y0; x1 = x1; y1 = y1 })) None

unfoldable pub cut_of : ℕ → ℕ → ℤ → ℤ → ℤ → ℤ → Option PixelBox
cut_of width height x y across up = box_of (from_zero x) (height - from_zero (y +ℤ up)) (min (from_zero (x +ℤ across)) width) (height - from_zero y)

-- raster.rs, scissor_bounds: columns x0 to x1 and rows y0 to y1 from the top, the ends left out. An absent box is the target, even an empty one.
unfoldable pub bounds_of : ℕ → ℕ → Option ScissorBox → Option PixelBox
bounds_of width height None = Some (record { x0 = 0; y0 = 0; x1 = width; y1 = height })
bounds_of width height (Some b) = cut_of width height b.x b.y b.width b.height

-- whether a pixel lies within bounds
abbrev pub in_bounds : Option PixelBox → ℕ → ℕ → Bool
in_bounds None column row = false
in_bounds (Some box) column row = (leb box.x0 column && ltb column box.x1) && (leb box.y0 row && ltb row box.y1)
