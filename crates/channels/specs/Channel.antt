-- A colour channel as a byte and as a float from 0 to 1.
use Rattle.std.specs.Prelude.{ℕ, cond, Float}
use Rattle.std.specs.Float.Ieee as Ieee
use Rattle.floats.specs.Num.{◌⊕◌, ◌⊗◌, ◌⊘◌, zero32, half32, one32, full32, of_nat32, clamp_of}
use Rattle.rounding.specs.Rounding.{round_of}

-- raster.rs, to_unit
unfoldable pub unit_of : ℕ → Float
unit_of v = of_nat32 v ⊘ full32

-- raster.rs, to_byte
unfoldable pub byte_of : Float → ℕ
byte_of v = Ieee.to_unsigned 8 (clamp_of v zero32 one32 ⊗ full32 ⊕ half32)

-- texture.rs, sample_linear_level, the last step: x.round().clamp(0.0, 255.0) as u8
unfoldable pub round_byte_of : Float → ℕ
round_byte_of x = Ieee.to_unsigned 8 (clamp_of (round_of x) zero32 full32)

-- x within 0 and top, a NaN 0: what a byte needs of a clamped float
unfoldable pub held_of : Float → Float → Float
held_of x top = cond (Ieee.lt zero32 x) (cond (Ieee.lt x top) x top) zero32
