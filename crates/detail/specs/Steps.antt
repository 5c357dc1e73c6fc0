-- The level of detail in steps of a 256th of a level. A finite q of 0 or more is the fraction num q / den q.
use Rattle.std.specs.Prelude.{◌≡◌, ℕ, suc, ◌+◌, ◌-◌, ◌*◌, ◌/◌, ◌%◌, ◌^◌, ◌<◌, ◌≤◌, min, true, T, List, slice_index_or, Float}
use Rattle.std.specs.Float.{nan, inf, fin, binary64}
use Rattle.std.specs.Float.Ieee.{size, lt, fits}
use Rattle.std.specs.Float.Ieee.Positive.{num, den, positive}

-- Document 01, Forms: m is the first f64 above 0 whose 128th power reaches 2 ^ i
pub record Entry (i : ℕ) (m : Float) : Type 0 where
  pub number : T (positive m)
  pub reaches : 2 ^ i * den m ^ 128 ≤ num m ^ 128
  pub first : (q : Float) → T (fits binary64 q) → T (positive q) → lt q m ≡ true → num q ^ 128 < 2 ^ i * den q ^ 128

-- the table of 128 thresholds
pub record Thresholds (t : List Float) : Type 0 where
  pub entry : (i : ℕ) → i < 128 → Entry i (slice_index_or t i nan)

-- 2 ^ n ≤ q ^ 128
abbrev pub Reached : Float → ℕ → Type 0
Reached q n = 2 ^ n * den q ^ 128 ≤ num q ^ 128

-- n is the largest whole number with 2 ^ n ≤ q ^ 128
pub record Largest (q : Float) (n : ℕ) : Type 0 where
  pub reached : Reached q n
  pub next_not : num q ^ 128 < 2 ^ suc n * den q ^ 128

-- Document 01, Level of detail: the largest whole number n with 2 ^ n ≤ q ^ 128, for a finite q of 1 or more.
-- It is one less than the number of binary digits of q ^ 128 rounded down; the law `steps_largest` says that it is `Largest`.
unfoldable pub steps_of : Float → ℕ
steps_of q = size (num q ^ 128 / den q ^ 128) - 1

-- Document 01, Level of detail: n cut to 256 times the top level; an infinite q means the top level
unfoldable pub cut_of : Float → ℕ → ℕ
cut_of nan top = 0
cut_of (inf s) top = 256 * top
cut_of (fin s m e) top = min (steps_of (fin s m e)) (256 * top)

-- Document 01, Level of detail: the nearest level
abbrev pub nearest_level : ℕ → ℕ
nearest_level n = (n + 128) / 256

-- Document 01, Level of detail: between levels, the lower one and the 256ths of the way to the next
abbrev pub lower_level : ℕ → ℕ
lower_level n = n / 256

abbrev pub way_up : ℕ → ℕ
way_up n = n % 256
