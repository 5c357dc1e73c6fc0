-- Texel indices along one side of a level, from a texture coordinate.
use Rattle.std.specs.Prelude.{ℕ, ◌-◌, ◌%◌, min, ◌≡◌, Bool, true, false, cond, ℤ, pos, negsuc, Float}
use Rattle.std.specs.Float.Ieee as Ieee
use Rattle.std.specs.Float.{binary32}
use Rattle.floats.specs.Num.{◌⊖◌, ◌⊗◌, zero32, half32, of_nat32}
use Rattle.rounding.specs.Rounding.{floor_of, next_of}
use Rattle.levels.specs.declared.Wrap.{Wrap}
use Rattle.levels.specs.declared.Wrap.TheVariants.{Repeat, ClampToEdge}
use Rattle.coords.specs.declared.Axis.{Axis}

-- Rust, i64::rem_euclid: n, or -1 - n, less or more a multiple of the side
unfoldable pub rem_of : ℤ → ℕ → ℕ
rem_of (pos n) size = n % size
rem_of (negsuc n) size = size - 1 - n % size

-- Rust, i64::clamp: from 0 to size - 1
unfoldable pub edge_of : ℤ → ℕ → ℕ
edge_of (pos n) size = min n (size - 1)
edge_of (negsuc n) size = 0

-- the floor of x as an i64, z, and as a float, v
pub record Floored (x : Float) (z : ℤ) (v : Float) : Type 0 where
  pub whole : z ≡ Ieee.to_signed 63 (floor_of x)
  pub low : v ≡ floor_of x

-- above 0 and below 2 ^ 22
pub record Few (x : Float) : Type 0 where
  pub above : Ieee.lt zero32 x ≡ true
  pub below : Ieee.lt x (Ieee.of_bits binary32 0x4a80_0000) ≡ true

-- no zero, and between -2 ^ 22 and 2 ^ 22
unfoldable pub small_of : Float → Bool
small_of x =
    cond (Ieee.lt zero32 x) (Ieee.lt x (Ieee.of_bits binary32 0x4a80_0000)) (cond (Ieee.lt x zero32) (Ieee.lt (Ieee.neg x) (Ieee.of_bits binary32 0x4a80_0000)) false)

-- texture.rs, wrap_texel
unfoldable pub wrap_texel : Wrap → ℤ → ℕ → ℕ
wrap_texel Repeat v size = rem_of v size
wrap_texel ClampToEdge v size = edge_of v size

-- texture.rs, wrap_coord, ClampToEdge, of the floor c of the scaled coordinate: a NaN is 0
unfoldable pub edge_coord : Float → ℕ → ℕ
edge_coord c size = cond (Ieee.lt c zero32) 0 (cond (Ieee.le (of_nat32 size) c) (size - 1) (Ieee.to_unsigned 32 c))

-- texture.rs, wrap_coord: the index that a nearest sample takes. Document 01, Corners: floors saturate at the i64 ends.
unfoldable pub wrap_coord : Wrap → Float → ℕ → ℕ
wrap_coord Repeat v size = rem_of (Ieee.to_signed 63 (floor_of (v ⊗ of_nat32 size))) size
wrap_coord ClampToEdge v size = edge_coord (floor_of (v ⊗ of_nat32 size)) size

-- texture.rs, sample_linear_level: fx = s * width as f32 - 0.5
unfoldable pub centred : Float → ℕ → Float
centred v size = v ⊗ of_nat32 size ⊖ half32

-- texture.rs, sample_linear_level: x0, as an i64
unfoldable pub low_of : Float → ℕ → ℤ
low_of v size = Ieee.to_signed 63 (floor_of (centred v size))

-- texture.rs, sample_linear_level: the indices of the texels x0 and x0 + 1. Document 01, Corners: the neighbour's + 1 saturates.
unfoldable pub first_of : Wrap → Float → ℕ → ℕ
first_of w v size = wrap_texel w (low_of v size) size

unfoldable pub second_of : Wrap → Float → ℕ → ℕ
second_of w v size = wrap_texel w (next_of 63 (low_of v size)) size

-- texture.rs, sample_linear_level: wx, the weight of the second texel. It is NaN where the coordinate is NaN or infinite.
unfoldable pub weight_of : Float → ℕ → Float
weight_of v size = centred v size ⊖ floor_of (centred v size)

unfoldable pub axis_of : Wrap → Float → ℕ → Axis
axis_of w v size = record { first = first_of w v size; second = second_of w v size; weight = weight_of v size }

-- the same from fx
unfoldable pub axis_at : Wrap → Float → ℕ → Axis
axis_at w x size =
    record {
      first = wrap_texel w (Ieee.to_signed 63 (floor_of x)) size;
      second = wrap_texel w (next_of 63 (Ieee.to_signed 63 (floor_of x))) size;
      weight = x ⊖ floor_of x;
    }
