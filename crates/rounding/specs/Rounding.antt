-- Rust's floor, ceil and round of an f32, and one more than a signed whole number.
use Rattle.std.specs.Prelude.{ℕ, zero, suc, ◌+◌, ◌-◌, ◌*◌, ◌/◌, ◌^◌, ◌<◌, min, Bool, true, false, cond, ℤ, pos, negsuc, Float}
use Rattle.std.specs.Float.Ieee as Ieee
use Rattle.std.specs.Float.{nan, inf, fin, binary32}
use Rattle.std.specs.Float.Ieee.{up, down}

-- a / b, rounded up, and to the nearest with a half up
abbrev pub up_div : ℕ → ℕ → ℕ
up_div a b = (a + (b - 1)) / b

abbrev pub half_div : ℕ → ℕ → ℕ
half_div a b = (a * 2 + b) / (b * 2)

-- x with the magnitude that a division for its sign makes of its own. The sign stays, a zero's too, and so do an infinity and a NaN.
unfoldable pub whole_by : (Bool → ℕ → ℕ → ℕ) → Float → Float
whole_by f nan = nan
whole_by f (inf s) = inf s
whole_by f (fin s m e) = Ieee.round binary32 s (f s (m * up e) (down e)) 1

-- Rust, f32::floor: the largest whole number up to x
unfoldable pub floor_of : Float → Float
floor_of = whole_by (λ s. cond s up_div ◌/◌)

-- Rust, f32::ceil: the least whole number from x on. -0.5 gives -0.
unfoldable pub ceil_of : Float → Float
ceil_of = whole_by (λ s. cond s ◌/◌ up_div)

-- Rust, f32::round: the nearest whole number, a half away from zero
unfoldable pub round_of : Float → Float
round_of = whole_by (λ s. half_div)

-- document 01, Corners: one more, up to the largest number of h bits and a sign
unfoldable pub next_of : ℕ → ℤ → ℤ
next_of h (pos n) = pos (min (n + 1) (2 ^ h - 1))
next_of h (negsuc zero) = pos 0
next_of h (negsuc (suc n)) = negsuc n

-- from 0 up to 2 ^ w: its whole part has w bits
abbrev pub Part : ℕ → Float → Type 0
Part w nan = ⊥
Part w (inf s) = ⊥
Part w (fin true m e) = ⊥
Part w (fin false m e) = m * up e < 2 ^ w * down e
