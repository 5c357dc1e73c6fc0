-- Std's round is that of Rounding. Assumes nothing.
use Rattle.std.proofs.Common.{◌≡◌, ℕ, ◌*◌, ◌/◌, true, false, refl, ap, ap₂, arith}
use Rattle.std.specs.Float.{ratio_round_half_up, round_with, float_round}
use lib.Ieee.{Float, nan, inf, fin, up, down, round, binary32}
use Rattle.rounding.specs.Rounding.{half_div, whole_by, round_of}

half_same : (a d : ℕ) → ratio_round_half_up a d ≡ half_div a d
half_same a d = ap₂ ◌/◌ (omega arith) (omega arith)

pub round_is : (x : Float) → float_round binary32 x ≡ round_of x
unfolding round_with round_of whole_by
round_is nan = refl
round_is (inf s) = refl
round_is (fin false m e) = ap (λ (z : ℕ). round binary32 false z 1) (half_same (m * up e) (down e))
round_is (fin true m e) = ap (λ (z : ℕ). round binary32 true z 1) (half_same (m * up e) (down e))
