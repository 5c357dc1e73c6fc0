-- Numbers between the corners of a triangle, each product and sum in the order the Rust writes it.
use Rattle.std.specs.Prelude.{Float}
use Rattle.floats.specs.Num.{◌⊕◌, ◌⊖◌, ◌⊗◌}
use Rattle.gradients.specs.declared.PerCorner.{PerCorner}
use Rattle.gradients.specs.declared.TriangleDerivatives.{TriangleDerivatives}
use Rattle.gradients.specs.declared.Attribute.{Attribute}

abbrev pub per_corner : Float → Float → Float → PerCorner Float
per_corner a b c = record { a = a; b = b; c = c }

-- raster.rs, raster_clipped: w0 * v0 + w1 * v1 + w2 * v2
unfoldable pub sum_of : PerCorner Float → PerCorner Float → Float
sum_of w v = w.a ⊗ v.a ⊕ w.b ⊗ v.b ⊕ w.c ⊗ v.c

-- raster.rs, perspective_attribute_with_gradients: weights[0] * inv_w[0] * values[0] + ..
unfoldable pub perspective_sum : PerCorner Float → PerCorner Float → PerCorner Float → Float
perspective_sum w q v = w.a ⊗ q.a ⊗ v.a ⊕ w.b ⊗ q.b ⊗ v.b ⊕ w.c ⊗ q.c ⊗ v.c

-- raster.rs, raster_clipped, barycentric_dx and barycentric_dy: how the weights change from a pixel to the next
unfoldable pub slopes_x : PerCorner Float → Float → PerCorner Float
slopes_x y r = per_corner ((y.b ⊖ y.c) ⊗ r) ((y.c ⊖ y.a) ⊗ r) ((y.a ⊖ y.b) ⊗ r)

unfoldable pub slopes_y : PerCorner Float → Float → PerCorner Float
slopes_y x r = per_corner ((x.c ⊖ x.b) ⊗ r) ((x.a ⊖ x.c) ⊗ r) ((x.b ⊖ x.a) ⊗ r)

-- raster.rs, raster_clipped, derivatives: of the corners' x and y, their 1/w and 1/area
unfoldable pub derivatives_of : PerCorner Float → PerCorner Float → PerCorner Float → Float → TriangleDerivatives
derivatives_of x y q r =
    record {
      inv_w = q;
      barycentric_dx = slopes_x y r;
      barycentric_dy = slopes_y x r;
      dqdx = sum_of (slopes_x y r) q;
      dqdy = sum_of (slopes_y x r) q;
    }

-- raster.rs, perspective_attribute_with_gradients: (numerator_dx - value * dqdx) * reciprocal_q
unfoldable pub slope_of : Float → Float → Float → Float → Float
slope_of n v d r = (n ⊖ v ⊗ d) ⊗ r

-- the attribute's value: the sum times 1 / q
unfoldable pub value_of : PerCorner Float → PerCorner Float → Float → PerCorner Float → Float
value_of values weights r q = perspective_sum weights q values ⊗ r

-- raster.rs, perspective_attribute_with_gradients
unfoldable pub attribute_of : PerCorner Float → PerCorner Float → Float → TriangleDerivatives → Attribute
attribute_of values weights r d =
    record {
      value = value_of values weights r d.inv_w;
      dx = slope_of (perspective_sum d.barycentric_dx d.inv_w values) (value_of values weights r d.inv_w) d.dqdx r;
      dy = slope_of (perspective_sum d.barycentric_dy d.inv_w values) (value_of values weights r d.inv_w) d.dqdy r;
    }
