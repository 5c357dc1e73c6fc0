-- A float cut to an unsigned number of w bits, by the comparisons that the code makes. Assumes nothing.
use Rattle.std.proofs.Common.{◌≡◌, ℕ, ◌*◌, ◌/◌, ◌^◌, ◌<◌, ◌≤◌, true, false, ℤ, pos, div-lt_iff_lt-mul, le-div_iff_mul-le, arith, ltb-false, ltb-true}
use lib.Ieee.{Float, fin, up, down, lt}
use lib.Ieee.Fits.{down_pos}

-- 2 ^ w, and -1
abbrev pub two_to : ℕ → Float
two_to w = fin false 1 (pos w)

abbrev pub minus_one : Float
minus_one = fin true 1 (pos 0)

-- what a comparison of a fraction with 2 ^ w says of its whole part
module _ (w m : ℕ) (d : ℤ) where
  pub under : lt (fin false m d) (two_to w) ≡ true → m * up d / down d < 2 ^ w
  unfolding lt
  under e = (div-lt_iff_lt-mul (down_pos d)).1 (omega (arith, ltb-true (m * up d * 1) (1 * 2 ^ w * down d) e))

  pub over : lt (fin false m d) (two_to w) ≡ false → 2 ^ w ≤ m * up d / down d
  unfolding lt
  over e = (le-div_iff_mul-le (down_pos d)).1 (omega (arith, ltb-false (m * up d * 1) (1 * 2 ^ w * down d) e))
