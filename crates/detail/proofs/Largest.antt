-- The largest n with 2 ^ n ≤ q ^ 128: it is `steps_of`, and it follows from that of q's significand. Assumes nothing.
use Rattle.std.proofs.lemmas.Nat.{mul-pow}
use Rattle.std.proofs.Common.{◌≡◌, ℕ, suc, ◌+◌, ◌-◌, ◌*◌, ◌/◌, ◌^◌, ◌<◌, ◌≤◌, false, sym, refl, ap, ◌∙◌, subst, subst₂, lt_of_lt_of_le, mul-le-mul_right, mul_assoc, div-lt_iff_lt-mul, add-mul, lt_of_mul-lt-mul_right, mul-lt-mul_of_pos_right, lt_of_not-le, le-div_iff_mul-le, mul-one, mul_right_comm, not-le_of_lt, le_of_mul-le-mul_right, arith, pow_pos, pow_mono, pow-add}
use native.Mathlib.Nat.{eq_of_mul-eq-mul_right, one-le-pow, pow-le-pow_left}
use lib.Ieee.{Float, size}
use lib.Ieee.Digits.{size-lt, size-le, size_reaches}
use lib.Ieee.Exact.{HasValue}
use lib.Ieee.Positive.{num, den, den_pos, value→cross}
use Rattle.detail.specs.Steps.{Largest, steps_of}
use Rattle.std.proofs.lemmas.Nat.{mul-pow}
use Rattle.detail.proofs.Powers.{pow_pow}

-- ---- the largest n is the one
module _ (q : Float) (n : ℕ) (l : Largest q n) where
  den_pow : 0 < den q ^ 128
  den_pow = one-le-pow 128 (den q) (den_pos q)

  at_least : 2 ^ n ≤ num q ^ 128 / den q ^ 128
  at_least = (le-div_iff_mul-le den_pow).1 l.reached

  at_most : num q ^ 128 / den q ^ 128 < 2 ^ suc n
  at_most = (div-lt_iff_lt-mul den_pow).1 l.next_not

  more : n < size (num q ^ 128 / den q ^ 128)
  more = lt_of_not-le (λ (g : size (num q ^ 128 / den q ^ 128) ≤ n). not-le_of_lt (lt_of_lt_of_le (size-lt (num q ^ 128 / den q ^ 128)) (pow_mono g)) at_least)

  pub largest_is : n ≡ steps_of q
  unfolding steps_of
  largest_is = omega (arith, more, size-le (num q ^ 128 / den q ^ 128) (suc n) at_most)

-- ---- and it is the largest, for a q of 1 or more
pred_lt : (z : ℕ) → 0 < z → z - 1 < z
pred_lt z h = omega arith

suc_pred : (z : ℕ) → 0 < z → z ≡ suc (z - 1)
suc_pred z h = omega arith

pub steps_largest : (q : Float) → den q ≤ num q → Largest q (steps_of q)
unfolding steps_of
steps_largest q h =
    let w = num q ^ 128 / den q ^ 128 in
    let D : 0 < den q ^ 128 = one-le-pow 128 (den q) (den_pos q) in
    let one : 1 ≤ w = (le-div_iff_mul-le D).1 (omega (arith, pow-le-pow_left h 128)) in
    let some : 0 < size w = lt_of_not-le (λ (g : size w ≤ 0). not-le_of_lt (lt_of_lt_of_le (size-lt w) (pow_mono g)) one) in
    record {
      reached = (le-div_iff_mul-le D).0 (size_reaches w (size w - 1) (pred_lt (size w) some));
      next_not = (div-lt_iff_lt-mul D).0 (subst (λ (k : ℕ). w < 2 ^ k) (suc_pred (size w) some) (size-lt w));
    }

-- ---- P * D against Q is N * d against M, where Q * d is M * X * D and P is N * X
scale_le : (P Q D X M N d : ℕ) → 0 < d → P ≡ N * X → Q * d ≡ M * X * D → N * d ≤ M → P * D ≤ Q
scale_le P Q D X M N d D0 p q h =
    le_of_mul-le-mul_right
    (subst₂ ◌≤◌ (ap (λ (z : ℕ). z * D) (mul_right_comm N d X) ∙ mul_right_comm (N * X) d D ∙ ap (λ (z : ℕ). z * D * d) (sym p)) (sym q) (mul-le-mul_right D (mul-le-mul_right X h)))
    D0

scale_lt : (P Q D X M N d : ℕ) → 0 < X → 0 < D → P ≡ N * X → Q * d ≡ M * X * D → M < N * d → Q < P * D
scale_lt P Q D X M N d X0 D0 p q h =
    lt_of_mul-lt-mul_right d
    (subst₂ ◌<◌ (sym q) (ap (λ (z : ℕ). z * D) (mul_right_comm N d X) ∙ mul_right_comm (N * X) d D ∙ ap (λ (z : ℕ). z * D * d) (sym p)) (mul-lt-mul_of_pos_right (mul-lt-mul_of_pos_right h X0) D0))

-- ---- q is m times 2 ^ e
module _ (q m : Float) (e : ℕ) (times : num q * den m ≡ num m * 2 ^ e * den q) where
  cross : num q ^ 128 * den m ^ 128 ≡ num m ^ 128 * 2 ^ (e * 128) * den q ^ 128
  cross =
      sym (mul-pow (num q) (den m) 128) ∙ ap (λ (z : ℕ). z ^ 128) times ∙ mul-pow (num m * 2 ^ e) (den q) 128
      ∙ ap (λ (z : ℕ). z * den q ^ 128) (mul-pow (num m) (2 ^ e) 128 ∙ ap (λ (z : ℕ). num m ^ 128 * z) (pow_pow 2 e 128))

  power : (i n : ℕ) → n ≡ i + e * 128 → 2 ^ n ≡ 2 ^ i * 2 ^ (e * 128)
  power i n h = ap (λ (z : ℕ). 2 ^ z) h ∙ pow-add 2 i (e * 128)

  swap : (i : ℕ) → e * 128 + i ≡ i + e * 128
  swap i = omega arith

  next : (i : ℕ) → suc (e * 128 + i) ≡ suc i + e * 128
  next i = omega arith

  pub found : (i : ℕ) → Largest m i → Largest q (e * 128 + i)
  found i l = record {
    reached = scale_le (2 ^ (e * 128 + i)) (num q ^ 128) (den q ^ 128) (2 ^ (e * 128)) (num m ^ 128) (2 ^ i) (den m ^ 128) (one-le-pow 128 (den m) (den_pos m)) (power i (e * 128 + i) (swap i)) cross l.reached;
    next_not = scale_lt (2 ^ suc (e * 128 + i)) (num q ^ 128) (den q ^ 128) (2 ^ (e * 128)) (num m ^ 128) (2 ^ suc i) (den m ^ 128) (pow_pos (e * 128)) (one-le-pow 128 (den q) (den_pos q)) (power (suc i) (suc (e * 128 + i)) (next i)) cross l.next_not;
  }

-- ---- from the digits d: m is d / 2 ^ 52, q is d * 2 ^ e / 2 ^ 52
whole_digits : (v : Float) (d e x : ℕ) → x ≡ e + 1022 → HasValue v false (d * 2 ^ x) (2 ^ 1074) → num v * 2 ^ 52 ≡ d * 2 ^ e * den v
whole_digits v d e x ex h =
    eq_of_mul-eq-mul_right (2 ^ 1022) (pow_pos 1022) (num v * 2 ^ 52) (d * 2 ^ e * den v)
    (mul_assoc (num v) (2 ^ 52) (2 ^ 1022) ∙ ap (λ (z : ℕ). num v * z) (sym (pow-add 2 52 1022)) ∙ value→cross v (d * 2 ^ x) (2 ^ 1074) h
    ∙ ap (λ (z : ℕ). z * den v) (ap (λ (z : ℕ). d * 2 ^ z) ex ∙ ap (λ (z : ℕ). d * z) (pow-add 2 e 1022) ∙ sym (mul_assoc d (2 ^ e) (2 ^ 1022)))
    ∙ mul_right_comm (d * 2 ^ e) (2 ^ 1022) (den v))

pub times : (q m : Float) (d e x : ℕ) → x ≡ e + 1022 → HasValue q false (d * 2 ^ x) (2 ^ 1074) → HasValue m false (d * 2 ^ 1022) (2 ^ 1074) → num q * den m ≡ num m * 2 ^ e * den q
times q m d e x ex hq hm =
    let a = whole_digits q d e x ex hq in
    let b : num m * 2 ^ 52 ≡ d * den m = whole_digits m d 0 1022 refl hm ∙ ap (λ (z : ℕ). z * den m) (mul-one d) in
    eq_of_mul-eq-mul_right (2 ^ 52) (pow_pos 52) (num q * den m) (num m * 2 ^ e * den q)
    (mul_right_comm (num q) (den m) (2 ^ 52) ∙ ap (λ (z : ℕ). z * den m) a
    ∙ mul_right_comm (d * 2 ^ e) (den q) (den m) ∙ ap (λ (z : ℕ). z * den q) (mul_right_comm d (2 ^ e) (den m))
    ∙ ap (λ (z : ℕ). z * 2 ^ e * den q) (sym b) ∙ ap (λ (z : ℕ). z * den q) (mul_right_comm (num m) (2 ^ 52) (2 ^ e)) ∙ mul_right_comm (num m * 2 ^ e) (2 ^ 52) (den q))

pub from_one : (m : Float) (t : ℕ) → t < 2 ^ 52 → HasValue m false ((t + 2 ^ 52) * 2 ^ 1022) (2 ^ 1074) → (den m ≤ num m) × (num m < 2 * den m)
from_one m t h v =
    let b : num m * 2 ^ 52 ≡ (t + 2 ^ 52) * den m = whole_digits m (t + 2 ^ 52) 0 1022 refl v ∙ ap (λ (z : ℕ). z * den m) (mul-one (t + 2 ^ 52)) in
    let c : (t + 2 ^ 52) * den m ≡ t * den m + 2 ^ 52 * den m = add-mul t (2 ^ 52) (den m) in
    let d : t * den m < 2 ^ 52 * den m = mul-lt-mul_of_pos_right h (den_pos m) in
    (omega arith, omega arith)
