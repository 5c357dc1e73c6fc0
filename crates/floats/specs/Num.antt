-- f32 arithmetic as the definitions write it, and the operations of Rust's f32 that Rattle has no operator for.
-- A float literal is written by its bits.
use Rattle.std.specs.Prelude.{ℕ, ◌*◌, Bool, true, false, cond, pos, nat_le, Float}
use Rattle.std.specs.Float.Ieee as Ieee
use Rattle.std.specs.Float.{nan, inf, fin, binary32}
use Rattle.std.specs.Float.Ieee.{up, down}

-- a sum, difference, product or quotient, rounded once
infixl 20 ◌⊕◌
infixl 20 ◌⊖◌
infixl 30 ◌⊗◌
infixl 30 ◌⊘◌
abbrev pub ◌⊕◌ : Float → Float → Float
◌⊕◌ = Ieee.add binary32

abbrev pub ◌⊖◌ : Float → Float → Float
◌⊖◌ = Ieee.sub binary32

abbrev pub ◌⊗◌ : Float → Float → Float
◌⊗◌ = Ieee.mul binary32

abbrev pub ◌⊘◌ : Float → Float → Float
◌⊘◌ = Ieee.div binary32

-- 0, 1/2, 1, 255 and the infinity
abbrev pub zero32 : Float
zero32 = Ieee.of_bits binary32 0

abbrev pub half32 : Float
half32 = Ieee.of_bits binary32 0x3f00_0000

abbrev pub one32 : Float
one32 = Ieee.of_bits binary32 0x3f80_0000

abbrev pub full32 : Float
full32 = Ieee.of_bits binary32 0x437f_0000

abbrev pub inf32 : Float
inf32 = Ieee.of_bits binary32 0x7f80_0000

-- a whole number as an f32
abbrev pub of_nat32 : ℕ → Float
of_nat32 n = Ieee.of_int binary32 (pos n)

-- Rust, f32::min: the smaller; the other number where one is a NaN. Here the first of two zeros.
unfoldable pub min_of : Float → Float → Float
min_of a b = cond (Ieee.ne a a) b (cond (Ieee.lt b a) b a)

-- Rust, f32::max
unfoldable pub max_of : Float → Float → Float
max_of a b = cond (Ieee.ne a a) b (cond (Ieee.lt a b) b a)

-- Rust, f32::clamp: a NaN stays, and so does -0
unfoldable pub clamp_of : Float → Float → Float → Float
clamp_of x lo hi = cond (Ieee.lt x lo) lo (cond (Ieee.lt hi x) hi x)

-- Rust, f32::abs: without its sign
unfoldable pub abs_of : Float → Float
abs_of nan = nan
abs_of (inf s) = inf false
abs_of (fin s m e) = fin false m e

-- Rust, f32::is_finite
unfoldable pub finite_of : Float → Bool
finite_of nan = false
finite_of (inf s) = false
finite_of (fin s m e) = true

-- Document 01, the rule of 4: finite, and at most 1,048,576 in magnitude. A magnitude is m * up e / down e.
unfoldable pub bounded_of : Float → Bool
bounded_of nan = false
bounded_of (inf s) = false
bounded_of (fin s m e) = nat_le (m * up e) (1048576 * down e)
