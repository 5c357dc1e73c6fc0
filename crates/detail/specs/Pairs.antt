-- q of the level of detail: the square of the longer of two steps, in texels of level 0.
use Rattle.std.specs.Prelude.{ℕ, Bool, true, false, cond, Float}
use Rattle.std.specs.Float.Ieee as Ieee
use Rattle.std.specs.Float.{nan, inf, fin, binary64}
use Rattle.floats.specs.Num.{◌⊗◌, of_nat32, max_of}

unfoldable pub infinite : Float → Bool
infinite nan = false
infinite (inf s) = true
infinite (fin s m e) = false

-- Document 01, Level of detail: each pair's squares are added in f64; an infinite member makes the pair infinite, else a NaN member makes it NaN
unfoldable pub pair_of : Float → Float → Float
pair_of a b =
    cond (infinite a) (inf false)
    (cond (infinite b) (inf false)
    (cond (Ieee.is_nan a) nan
    (cond (Ieee.is_nan b) nan
    (Ieee.add binary64 (Ieee.mul binary64 a a) (Ieee.mul binary64 b b)))))

-- Document 01, Level of detail: the four products are f32, and the larger sum is q. A pair that is NaN loses to the other.
-- texture.rs, sample_with_gradients: rho_x.max(rho_y), squared
unfoldable pub q_of : ℕ → ℕ → Float → Float → Float → Float → Float
q_of width height dsdx dtdx dsdy dtdy =
    max_of (pair_of (dsdx ⊗ of_nat32 width) (dtdx ⊗ of_nat32 height)) (pair_of (dsdy ⊗ of_nat32 width) (dtdy ⊗ of_nat32 height))
