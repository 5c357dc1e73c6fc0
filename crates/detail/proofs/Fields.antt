-- A finite f64 above 1, read from its bits: the exponent's field is 1023 or more, and the value is the digits, with the leading one, times a power of two.
-- Assumes nothing.
use Rattle.std.proofs.Common.{◌≡◌, ℕ, zero, suc, ◌+◌, ◌-◌, ◌*◌, ◌/◌, ◌%◌, ◌^◌, ◌<◌, ◌≤◌, Bool, true, false, cond, not, T, eqb, leb, pos, sym, ap, ◌∙◌, subst, subst₂, lt_of_lt_of_le, le_of_suc-le-suc, le_of_lt, mod-lt, mod-eq_of_lt, mul_comm, add_comm, lt_of_mul-lt-mul_right, mul-lt-mul_of_pos_right, lt_of_not-le, mul-one, not-le_of_lt, arith, lit≤, ltb→lt, pow_pos, pow_mono, shl_lt, le-ltb, leb-false}
use borrow.Author.Tests.{lt-leb}
use lib.Ieee.{Float, nan, inf, fin, up, down, binary64, lt, odd, is_nan, fits, of_fields, of_bits, to_bits, nan_bits}
use lib.Ieee.Exact.{HasValue, odd_sign}
use lib.Ieee.Bits.{of_bits-to_bits, nan_bits_above}

abbrev pub one : Float
one = fin false 1 (pos 0)

pub no_nan : (q : Float) → T (lt one q) → T (not (is_nan q))
unfolding lt is_nan
no_nan nan h = h
no_nan (inf s) h = tt
no_nan (fin s m e) h = tt

-- a value a / c above 1
above_one_is : (v : Float) (s : Bool) (a c : ℕ) → 0 < c → HasValue v s a c → T (lt one v) → (s ≡ false) × (c < a)
unfolding lt
above_one_is nan s a c C h l = absurd h
above_one_is (inf t) s a c C h l = absurd h
above_one_is (fin true m e) s a c C h l = absurd l
above_one_is (fin false m e) s a c C h l =
    let d : down e < m * up e = omega (arith, ltb→lt (1 * 1 * down e) (m * up e * 1) l) in
    (sym h.0, lt_of_mul-lt-mul_right (down e) (subst₂ ◌<◌ (mul_comm (down e) c) h.1 (mul-lt-mul_of_pos_right d C)))

pub record Read (v : Float) (s : Bool) (x t : ℕ) : Type 0 where
  pub sign : s ≡ false
  pub high : 1023 ≤ x
  pub value : HasValue v false ((t + 2 ^ 52) * 2 ^ (x - 1)) (2 ^ 1074)

pred_suc : (x : ℕ) → x ≡ suc x - 1
pred_suc x = omega arith

too_low : (t : ℕ) → t < 2 ^ 52 → 2 ^ 1074 < t * 2 ^ 0 → ⊥
too_low t h l = not-le_of_lt (lt_of_lt_of_le h (pow_mono {i = 52} {j = 1074} (lit≤ tt))) (le_of_lt (subst (λ (z : ℕ). 2 ^ 1074 < z) (mul-one t) l))

reaches : (m x : ℕ) → m < 2 ^ 53 → 2 ^ 1074 < m * 2 ^ x → 1022 ≤ x
reaches m x h l = le_of_suc-le-suc (lt_of_not-le (λ (g : suc x ≤ 1022). not-le_of_lt (lt_of_lt_of_le (shl_lt 53 x h) (pow_mono {i = 53 + x} {j = 1074} (omega arith))) (le_of_lt l)))

abbrev lead : ℕ
lead = 2 ^ 52

from_top : (b : Bool) (s z : Bool) (t x : ℕ) (v : Float) → t < 2 ^ 52 → HasValue v s ((2 ^ 52 + t) * 2 ^ x) (2 ^ 1074)
    → T (lt one (cond b (cond z (inf s) nan) v)) → T (lt (cond b (cond z (inf s) nan) v) (inf false)) → Read (cond b (cond z (inf s) nan) v) s (suc x) t
unfolding lt
from_top true true true t x v H h l u = absurd l
from_top true false true t x v H h l u = absurd u
from_top true s false t x v H h l u = absurd l
from_top false s z t x v H h l u =
    let k = above_one_is v s ((2 ^ 52 + t) * 2 ^ x) (2 ^ 1074) (pow_pos 1074) h l in
    record {
      sign = k.0;
      high = omega (arith, reaches (2 ^ 52 + t) x (omega arith) k.1);
      value = subst₂ (λ (r : Bool) (a : ℕ). HasValue v r a (2 ^ 1074)) k.0 (ap (λ (y : ℕ). y * 2 ^ x) (add_comm (2 ^ 52) t) ∙ ap (λ (y : ℕ). (t + 2 ^ 52) * 2 ^ y) (pred_suc x)) h;
    }

from_fields : (s : Bool) (x t : ℕ) → t < 2 ^ 52 → T (lt one (of_fields binary64 s x t)) → T (lt (of_fields binary64 s x t) (inf false)) → Read (of_fields binary64 s x t) s x t
unfolding of_fields
from_fields s zero t H l u = absurd (too_low t H (above_one_is (odd 53 s t 0 1074) s (t * 2 ^ 0) (2 ^ 1074) (pow_pos 1074) (odd_sign 53 s t 0 1074) l).1)
from_fields s (suc x) t H l u = from_top (eqb (suc x) 2047) s (eqb t 0) t x (odd 53 s (2 ^ 52 + t) x 1074) H (odd_sign 53 s (2 ^ 52 + t) x 1074) l u

read_bits : (b : ℕ) → T (lt one (of_bits binary64 b)) → T (lt (of_bits binary64 b) (inf false)) → Read (of_bits binary64 b) (leb (2 ^ 63) b) (b % 2 ^ 63 / 2 ^ 52) (b % 2 ^ 52)
unfolding of_bits
read_bits b l u = from_fields (leb (2 ^ 63) b) (b % 2 ^ 63 / 2 ^ 52) (b % 2 ^ 52) (mod-lt b (pow_pos 52)) l u

below_top : (b : ℕ) → leb (2 ^ 63) b ≡ false → b % 2 ^ 63 / 2 ^ 52 ≡ b / 2 ^ 52
below_top b e = ap (λ (y : ℕ). y / 2 ^ 52) (mod-eq_of_lt (leb-false (2 ^ 63) b e))

-- at the bits of q
pub read : (q : Float) → T (fits binary64 q) → T (lt one q) → T (lt q (inf false)) → Read q false (to_bits binary64 q / 2 ^ 52) (to_bits binary64 q % 2 ^ 52)
read q f l u =
    let b = to_bits binary64 q in
    let e : of_bits binary64 b ≡ q = of_bits-to_bits binary64 q f in
    let r = read_bits b (subst (λ (v : Float). T (lt one v)) (sym e) l) (subst (λ (v : Float). T (lt v (inf false))) (sym e) u) in
    subst (λ (v : Float). Read v false (b / 2 ^ 52) (b % 2 ^ 52)) e
    (subst₂ (λ (s : Bool) (x : ℕ). Read (of_bits binary64 b) s x (b % 2 ^ 52)) r.sign (below_top b r.sign) r)

-- ---- the significand: the digits t with the exponent's field of 1
abbrev pub field_of_one : ℕ
field_of_one = 4607182418800017408

high_digit : (t : ℕ) → t < 2 ^ 52 → leb (2 ^ 63) (t + field_of_one) ≡ false
high_digit t h = lt-leb (2 ^ 63) (t + field_of_one) (omega arith)

field : (t : ℕ) → t < 2 ^ 52 → (t + field_of_one) % 2 ^ 63 / 2 ^ 52 ≡ 1023
field t h = omega arith

low_digits : (t : ℕ) → t < 2 ^ 52 → (t + field_of_one) % 2 ^ 52 ≡ t
low_digits t h = omega arith

fields : (t : ℕ) → t < 2 ^ 52 → of_bits binary64 (t + field_of_one) ≡ of_fields binary64 false 1023 t
unfolding of_bits
fields t h =
    ap (λ (s : Bool). of_fields binary64 s ((t + field_of_one) % 2 ^ 63 / 2 ^ 52) ((t + field_of_one) % 2 ^ 52)) (high_digit t h)
    ∙ ap (λ (x : ℕ). of_fields binary64 false x ((t + field_of_one) % 2 ^ 52)) (field t h)
    ∙ ap (λ (x : ℕ). of_fields binary64 false 1023 x) (low_digits t h)

at_one : (t : ℕ) → HasValue (of_fields binary64 false 1023 t) false ((2 ^ 52 + t) * 2 ^ 1022) (2 ^ 1074)
unfolding of_fields
at_one t = odd_sign 53 false (2 ^ 52 + t) 1022 1074

pub significand : (t : ℕ) → t < 2 ^ 52 → HasValue (of_bits binary64 (t + field_of_one)) false ((t + 2 ^ 52) * 2 ^ 1022) (2 ^ 1074)
significand t h =
    subst₂ (λ (v : Float) (d : ℕ). HasValue v false (d * 2 ^ 1022) (2 ^ 1074)) (sym (fields t h)) (add_comm (2 ^ 52) t) (at_one t)

pub significand_number : (t : ℕ) → t < 2 ^ 52 → T (not (nan_bits binary64 (t + field_of_one)))
significand_number t h = subst (λ (b : Bool). T (not b)) (sym (nan_bits_above binary64 (t + field_of_one) ∙ le-ltb (2047 * 2 ^ 52) ((t + field_of_one) % 2 ^ 63) (omega arith))) tt
