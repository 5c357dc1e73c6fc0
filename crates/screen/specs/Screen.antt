-- A corner on the screen: raster.rs, raster_clipped; OpenGL ES 1.1, Coordinate Transformations and Controlling the Viewport.
-- Each float operation stands once, in the order the Rust writes it.
use Rattle.std.specs.Prelude.{ℕ, Bool, false, cond, pos, int_le, int_lt, Float, Option, Some, None}
use Rattle.std.specs.Float.Ieee as Ieee
use Rattle.std.specs.Float.{binary32}
use Rattle.floats.specs.Num.{◌⊕◌, ◌⊖◌, ◌⊗◌, ◌⊘◌, zero32, half32, one32, of_nat32, abs_of, finite_of, clamp_of}
use Rattle.settings.specs.declared.Viewport.{Viewport}
use Rattle.settings.specs.declared.DepthRange.{DepthRange}
use Rattle.vertices.specs.declared.Vertex.{Vertex}
use Rattle.vertices.specs.Vertex.{coord}
use Rattle.screen.specs.declared.View.{View}
use Rattle.screen.specs.declared.ScreenVertex.{ScreenVertex}

-- ---- the tests of a corner

-- Document 01, Corners: w is below 1e-9 in magnitude, or not finite
unfoldable pub w_fits : Float → Bool
w_fits w = cond (Ieee.lt (abs_of w) (Ieee.of_bits binary32 0x3089_705f)) false (finite_of w)

-- raster.rs, raster_clipped: the divided corner is finite
unfoldable pub ndc_fits : Float → Float → Float → Bool
ndc_fits x y z = cond (finite_of x) (cond (finite_of y) (finite_of z) false) false

-- 1 / w, and the position's number i divided by w
abbrev pub inverse_w : Vertex → Float
inverse_w v = one32 ⊘ coord 3 v

abbrev pub ndc_of : ℕ → Vertex → Float
ndc_of i v = coord i v ⊗ inverse_w v

-- whether a corner passes both
unfoldable pub divides : Vertex → Bool
divides v = cond (w_fits (coord 3 v)) (ndc_fits (ndc_of 0 v) (ndc_of 1 v) (ndc_of 2 v)) false

-- ---- its place

-- Document 01, Draw: a width or height of zero or less draws nothing
unfoldable pub viewport_draws : Viewport → Bool
viewport_draws v = cond (int_le v.width (pos 0)) false (int_lt (pos 0) v.height)

-- the viewport's numbers and the target's height, as floats
unfoldable pub view_of : Viewport → ℕ → View
view_of v height =
    record {
      x = Ieee.of_int binary32 v.x;
      y = Ieee.of_int binary32 v.y;
      width = Ieee.of_int binary32 v.width;
      height = Ieee.of_int binary32 v.height;
      rows = of_nat32 height;
    }

-- -1 to 1 becomes 0 to 1
abbrev pub unit_of : Float → Float
unit_of ndc = ndc ⊗ half32 ⊕ half32

unfoldable pub x_of : View → Float → Float
x_of v ndc = v.x ⊕ unit_of ndc ⊗ v.width

-- the viewport's y counts from the bottom, the target's rows from the top
unfoldable pub y_of : View → Float → Float
y_of v ndc = v.rows ⊖ (v.y ⊕ unit_of ndc ⊗ v.height)

unfoldable pub z_of : DepthRange → Float → Float
z_of r ndc = clamp_of (r.near ⊕ (r.far ⊖ r.near) ⊗ unit_of ndc) zero32 one32

unfoldable pub screen_of : View → DepthRange → Vertex → ScreenVertex
screen_of v r p = record { x = x_of v (ndc_of 0 p); y = y_of v (ndc_of 1 p); z = z_of r (ndc_of 2 p); inv_w = inverse_w p }

-- a corner that passes its tests, on the screen
unfoldable pub corner_of : View → DepthRange → Vertex → Option ScreenVertex
corner_of v r p = cond (divides p) (Some (screen_of v r p)) None
