-- The nearest whole number, a half away from zero, by the whole part of 2x, which is exact. Assumes nothing.
use Rattle.std.proofs.Common.{◌≡◌, ℕ, suc, ◌+◌, ◌-◌, ◌*◌, ◌/◌, ◌%◌, ◌^◌, ◌<◌, ◌≤◌, Bool, false, ◌&&◌, T, eqb, ltb, leb, ℤ, pos, negsuc, sym, ap, ◌∙◌, subst, le_trans, le_of_eq, lt_of_lt_of_le, le_of_suc-le-suc, mul-le-mul_right, mul_assoc, lt_of_mul-lt-mul_right, mul-lt-mul_of_pos_right, one-mul, lt_of_not-le, mul-one, mul_right_comm, not-le_of_lt, arith, lit≤, leb→le, pow_pos, pow-add}
use lib.Pow.{pow-lt}
use lib.Ieee.{Float, fin, up, down, mul, fits, binary32}
use lib.Ieee.Fits.{down_pos, and_l, and_r}
use lib.Ieee.Exact.{HasValue, round_exact}
use native.Mathlib.Nat.{add-div_right, div-div-eq-div-mul}
use Rattle.floats.proofs.Cut.{two_to}
use Rattle.rounding.specs.Rounding.{half_div}
use Rattle.rounding.proofs.Kept.{digits}

abbrev pub two : Float
two = two_to 1

-- ---- twice x is exact
up_by : (e : ℤ) → down e ≤ 2 ^ 149 → (j : ℕ) × (up e * 2 ^ 150 ≡ 2 ^ j * down e)
up_by (pos k) h = (k + 150, sym (pow-add 2 k 150) ∙ sym (mul-one (2 ^ (k + 150))))
up_by (negsuc k) h =
    let l : suc k ≤ 149 = le_of_suc-le-suc (lt_of_not-le (λ (g : 150 ≤ suc k). not-le_of_lt (pow-lt {i = 149} {j = suc k} g) h)) in
    (150 - suc k, one-mul (2 ^ 150) ∙ ap (λ (z : ℕ). 2 ^ z) (sym (add_back 150 (suc k) (omega arith))) ∙ pow-add 2 (150 - suc k) (suc k))
  where
    add_back : (a b : ℕ) → b ≤ a → a - b + b ≡ a
    add_back a b h = omega arith

low_exponent : (s : Bool) (m : ℕ) (e : ℤ) → T (fits binary32 (fin s (suc m) e)) → down e ≤ 2 ^ 149
unfolding fits
low_exponent s m e f =
    let A = eqb (suc m % 2) 1 in
    let B = ltb (suc m) (2 ^ 24) in
    let C = leb (down e) (2 ^ 149) in
    let D = ltb (suc m * up e) (2 ^ 128 * down e) in
    leb→le (down e) (2 ^ 149) (and_r (A && B) C (and_l (A && B && C) D f))

few_digits : (a d : ℕ) → a < 2 ^ 23 * d → a * 2 < 2 ^ 24 * (d * 1)
few_digits a d h = omega arith

pub double : (m : ℕ) (e : ℤ) → T (fits binary32 (fin false (suc m) e)) → suc m * up e < 2 ^ 23 * down e → HasValue (mul binary32 (fin false (suc m) e) two) false (suc m * up e * 2) (down e * 1)
unfolding mul
double m e f h =
    let u = up_by e (low_exponent false m e f) in
    let j = u.0 in
    let w : suc m * up e * 2 * 2 ^ 149 ≡ suc m * 2 ^ j * (down e * 1) =
    mul_assoc (suc m * up e) 2 (2 ^ 149) ∙ mul_assoc (suc m) (up e) (2 ^ 150) ∙ ap (λ (z : ℕ). suc m * z) u.1 ∙ sym (mul_assoc (suc m) (2 ^ j) (down e)) ∙ ap (λ (z : ℕ). suc m * 2 ^ j * z) (sym (mul-one (down e))) in
    round_exact binary32 false (suc m * up e * 2) (down e * 1) (suc m) j (omega (arith, down_pos e)) (digits false m e f)
    (lt_of_mul-lt-mul_right (down e * 1)
    (subst (λ (z : ℕ). z < 2 ^ (149 + 128) * (down e * 1)) w
    (lt_of_lt_of_le (mul-lt-mul_of_pos_right (few_digits (suc m * up e) (down e) h) (pow_pos 149))
    (le_trans (le_of_eq (mul_right_comm (2 ^ 24) (down e * 1) (2 ^ 149))) (mul-le-mul_right (down e * 1) (lit≤ tt))))))
    w

-- ---- (⌊2a / d⌋ + 1) / 2 is a / d and a half, rounded down
pub half : (a d : ℕ) → 0 < d → (a * 2 / (d * 1) + 1) / 2 ≡ half_div a d
half a d h =
    ap (λ (z : ℕ). (a * 2 / z + 1) / 2) (mul-one d) ∙ ap (λ (z : ℕ). z / 2) (sym (add-div_right (a * 2) h)) ∙ div-div-eq-div-mul (a * 2 + d) d 2
