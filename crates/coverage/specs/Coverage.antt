-- A pixel's weights, whether a triangle covers it, and what lies between the corners there: raster.rs, raster_clipped.
-- Each product and sum is rounded once, in the order the Rust writes it.
use Rattle.std.specs.Prelude.{ℕ, Bool, true, false, cond, List, get_or, Float}
use Rattle.std.specs.Float.Ieee as Ieee
use Rattle.std.specs.Float.{binary32, nan}
use Rattle.floats.specs.Num.{◌⊕◌, ◌⊖◌, ◌⊗◌, zero32, half32, one32, of_nat32, finite_of}
use Rattle.screen.specs.declared.ScreenVertex.{ScreenVertex}
use Rattle.setup.specs.declared.Raster.{Raster}
use Rattle.settings.specs.declared.Rgba.{Rgba}
use Rattle.gradients.specs.declared.PerCorner.{PerCorner}
use Rattle.gradients.specs.Gradients.{per_corner, sum_of}

-- the centre of column or row n
abbrev pub centre_of : ℕ → Float
centre_of n = of_nat32 n ⊕ half32

-- the edge function of the edge from p to q at (sx, sy), over the area
unfoldable pub edge_of : ScreenVertex → ScreenVertex → Float → Float → Float → Float
edge_of p q sx sy r = ((q.x ⊖ p.x) ⊗ (sy ⊖ p.y) ⊖ (q.y ⊖ p.y) ⊗ (sx ⊖ p.x)) ⊗ r

-- w0, w1 and w2 = 1 - w0 - w1
unfoldable pub weights_of : Raster → ℕ → ℕ → PerCorner Float
weights_of t px py =
    let w0 = edge_of t.corners.b t.corners.c (centre_of px) (centre_of py) t.inv_area in
    let w1 = edge_of t.corners.c t.corners.a (centre_of px) (centre_of py) t.inv_area in
    per_corner w0 w1 (one32 ⊖ w0 ⊖ w1)

-- EDGE_EPS: -1e-6
abbrev pub edge_eps : Float
edge_eps = Ieee.of_bits binary32 0xb586_37bd

-- Document 01, Corners: a pixel is skipped if a weight is below -1e-6
unfoldable pub covered_by : PerCorner Float → Bool
covered_by w = cond (Ieee.lt w.a edge_eps) false (cond (Ieee.lt w.b edge_eps) false (cond (Ieee.lt w.c edge_eps) false true))

-- depth interpolates linearly in window space
unfoldable pub depth_at : Raster → PerCorner Float → Float
depth_at t w = sum_of w (per_corner t.corners.a.z t.corners.b.z t.corners.c.z)

-- the interpolated 1/w
unfoldable pub inv_w_at : Raster → PerCorner Float → Float
inv_w_at t w = sum_of w (per_corner t.corners.a.inv_w t.corners.b.inv_w t.corners.c.inv_w)

-- raster.rs, raster_clipped: iw <= 0.0 || !iw.is_finite() skips the pixel
unfoldable pub usable : Float → Bool
usable iw = cond (Ieee.le iw zero32) false (finite_of iw)

-- p0, p1 and p2: the weights for what is interpolated with perspective
unfoldable pub shares_of : Raster → PerCorner Float → Float → PerCorner Float
shares_of t w rec = per_corner (w.a ⊗ t.corners.a.inv_w ⊗ rec) (w.b ⊗ t.corners.b.inv_w ⊗ rec) (w.c ⊗ t.corners.c.inv_w ⊗ rec)

-- number i of the three corners' lists
abbrev pub corners_at : ℕ → List Float → List Float → List Float → PerCorner Float
corners_at i a b c = per_corner (get_or a i nan) (get_or b i nan) (get_or c i nan)

-- OpenGL ES 1.1, Flatshading: the last corner's colour, or the colour between the three
unfoldable pub color_of : Bool → PerCorner Float → List Float → List Float → List Float → Rgba
color_of smooth p a b c =
    cond smooth
    (record { r = sum_of p (corners_at 0 a b c); g = sum_of p (corners_at 1 a b c); b = sum_of p (corners_at 2 a b c); a = sum_of p (corners_at 3 a b c) })
    (record { r = get_or c 0 nan; g = get_or c 1 nan; b = get_or c 2 nan; a = get_or c 3 nan })
