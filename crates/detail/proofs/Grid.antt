-- Every f64 of 1 or more is a multiple of 2 ^ -52, so a table's entry is the first f64 that reaches its power of two as soon as
-- the multiple before it does not. Assumes nothing.
use Rattle.std.proofs.lemmas.Nat.{mul-pow}
use Rattle.std.proofs.Common.{◌≡◌, ℕ, zero, suc, ◌+◌, ◌-◌, ◌*◌, ◌/◌, ◌%◌, ◌^◌, ◌<◌, ◌≤◌, Bool, true, false, ◌&&◌, T, eqb, ltb, leb, List, length, ℤ, pos, negsuc, sym, ap, ◌∙◌, subst, subst₂, le_trans, lt_of_lt_of_le, lt_of_le_of_lt, mul-le-mul_right, mul_assoc, lt_of_mul-lt-mul_right, mul-lt-mul_of_pos_right, one-mul, lt_of_not-le, le-div_iff_mul-le, mul-one, mul_right_comm, not-le_of_lt, arith, ltb→lt, leb→le, pow_pos, pow_mono, pow-add}
use native.Mathlib.Decide.{dec_lt}
use native.Mathlib.Nat.{pow-le-pow_left, pow-lt-pow_left, one-le-pow}
use lib.Ieee.{Float, nan, inf, fin, up, down, binary64, lt, fits}
use lib.Ieee.Fits.{and_l, and_r}
use lib.Ieee.Positive.{num, den, positive, den_pos}
use Rattle.detail.specs.Steps.{Entry, Thresholds}
use Rattle.std.proofs.lemmas.Nat.{mul-pow}
use Rattle.detail.proofs.Table.{every, at}
use Rattle.detail.proofs.Fractions.{below}

digits : (m : ℕ) (e : ℤ) → T (fits binary64 (fin false (suc m) e)) → suc m < 2 ^ 53
unfolding fits
digits m e f =
    let A = eqb (suc m % 2) 1 in
    let B = ltb (suc m) (2 ^ 53) in
    let C = leb (down e) (2 ^ 1074) in
    let D = ltb (suc m * up e) (2 ^ 1024 * down e) in
    ltb→lt (suc m) (2 ^ 53) (and_r A B (and_l (A && B) C (and_l (A && B && C) D f)))

few : (k m : ℕ) → m < 2 ^ 53 → 2 ^ k ≤ m → k ≤ 52
few k m h g = omega (arith, lt_of_not-le (λ (w : 53 ≤ k). not-le_of_lt h (le_trans (pow_mono w) g)))

record Multiple (q : Float) : Type 0 where
  y : ℕ
  is : num q * 2 ^ 52 ≡ y * den q

split : (k : ℕ) → k ≤ 52 → 2 ^ 52 ≡ 2 ^ (52 - k) * 2 ^ k
split k h = let e : 52 ≡ 52 - k + k = omega arith in ap (λ (z : ℕ). 2 ^ z) e ∙ pow-add 2 (52 - k) k

multiple : (q : Float) → T (fits binary64 q) → T (positive q) → den q ≤ num q → Multiple q
multiple nan f p h = absurd p
multiple (inf s) f p h = absurd p
multiple (fin true m e) f p h = absurd p
multiple (fin false zero e) f p h = absurd p
multiple (fin false (suc m) (pos k)) f p h = record { y = suc m * 2 ^ k * 2 ^ 52; is = sym (mul-one (suc m * 2 ^ k * 2 ^ 52)) }
multiple (fin false (suc m) (negsuc k)) f p h =
    let g : suc k ≤ 52 = few (suc k) (suc m) (digits m (negsuc k) f) (subst (λ (z : ℕ). 2 ^ suc k ≤ z) (mul-one (suc m)) h) in
    record {
      y = suc m * 2 ^ (52 - suc k);
      is = ap (λ (z : ℕ). z * 2 ^ 52) (mul-one (suc m)) ∙ ap (λ (z : ℕ). suc m * z) (split (suc k) g) ∙ sym (mul_assoc (suc m) (2 ^ (52 - suc k)) (2 ^ suc k));
    }

-- a product below another is at most one less
before : (y d n : ℕ) → 0 < d → y * d < n → y ≤ (n - 1) / d
before y d n D h = (le-div_iff_mul-le D).1 (omega arith)

-- q = y / 2 ^ 52 below m: the multiple before m decides
module _ (i : ℕ) (q m : Float) (y : ℕ) (is : num q * 2 ^ 52 ≡ y * den q) (lower : num q * den m < num m * den q) where
  y_below : y * den m < num m * 2 ^ 52
  y_below =
      lt_of_mul-lt-mul_right (den q)
      (subst₂ ◌<◌ (mul_right_comm (num q) (den m) (2 ^ 52) ∙ ap (λ (z : ℕ). z * den m) is ∙ mul_right_comm y (den q) (den m)) (mul_right_comm (num m) (den q) (2 ^ 52))
      (mul-lt-mul_of_pos_right lower (pow_pos 52)))

  y_power : ((num m * 2 ^ 52 - 1) / den m) ^ 128 < 2 ^ i * (2 ^ 52) ^ 128 → y ^ 128 < 2 ^ i * (2 ^ 52) ^ 128
  y_power h = lt_of_le_of_lt (pow-le-pow_left (before y (den m) (num m * 2 ^ 52) (den_pos m) y_below) 128) h

  above_one_is : ((num m * 2 ^ 52 - 1) / den m) ^ 128 < 2 ^ i * (2 ^ 52) ^ 128 → num q ^ 128 < 2 ^ i * den q ^ 128
  above_one_is h =
      lt_of_mul-lt-mul_right ((2 ^ 52) ^ 128)
      (subst₂ ◌<◌ (sym (mul-pow y (den q) 128) ∙ ap (λ (z : ℕ). z ^ 128) (sym is) ∙ mul-pow (num q) (2 ^ 52) 128) (mul_right_comm (2 ^ i) ((2 ^ 52) ^ 128) (den q ^ 128))
      (mul-lt-mul_of_pos_right (y_power h) (one-le-pow 128 (den q) (den_pos q))))

under_one : (i : ℕ) (q : Float) → num q < den q → num q ^ 128 < 2 ^ i * den q ^ 128
under_one i q h =
    lt_of_lt_of_le (pow-lt-pow_left h (λ e. omega arith))
    (subst (λ (z : ℕ). z ≤ 2 ^ i * den q ^ 128) (one-mul (den q ^ 128)) (mul-le-mul_right (den q ^ 128) (pow_pos i)))

either : (i : ℕ) (q m : Float) → T (fits binary64 q) → T (positive q) → num q * den m < num m * den q → ((num m * 2 ^ 52 - 1) / den m) ^ 128 < 2 ^ i * (2 ^ 52) ^ 128
    → Dec (num q < den q) → num q ^ 128 < 2 ^ i * den q ^ 128
either i q m f p l h (yes g) = under_one i q g
either i q m f p l h (no g) = let k = multiple q f p (omega arith) in above_one_is i q m k.y k.is l h

-- the test that antt computes for each entry
abbrev pub right : ℕ → Float → Bool
right i m = positive m && (leb (2 ^ i * den m ^ 128) (num m ^ 128) && ltb (((num m * 2 ^ 52 - 1) / den m) ^ 128) (2 ^ i * (2 ^ 52) ^ 128))

module _ (i : ℕ) (m : Float) (t : T (right i m)) where
  number : T (positive m)
  number = and_l (positive m) (leb (2 ^ i * den m ^ 128) (num m ^ 128) && ltb (((num m * 2 ^ 52 - 1) / den m) ^ 128) (2 ^ i * (2 ^ 52) ^ 128)) t

  rest : T (leb (2 ^ i * den m ^ 128) (num m ^ 128) && ltb (((num m * 2 ^ 52 - 1) / den m) ^ 128) (2 ^ i * (2 ^ 52) ^ 128))
  rest = and_r (positive m) (leb (2 ^ i * den m ^ 128) (num m ^ 128) && ltb (((num m * 2 ^ 52 - 1) / den m) ^ 128) (2 ^ i * (2 ^ 52) ^ 128)) t

  last : ((num m * 2 ^ 52 - 1) / den m) ^ 128 < 2 ^ i * (2 ^ 52) ^ 128
  last = ltb→lt (((num m * 2 ^ 52 - 1) / den m) ^ 128) (2 ^ i * (2 ^ 52) ^ 128) (and_r (leb (2 ^ i * den m ^ 128) (num m ^ 128)) (ltb (((num m * 2 ^ 52 - 1) / den m) ^ 128) (2 ^ i * (2 ^ 52) ^ 128)) rest)

  none_before : (q : Float) → T (fits binary64 q) → T (positive q) → lt q m ≡ true → num q ^ 128 < 2 ^ i * den q ^ 128
  none_before q f p h = either i q m f p (below q m p number h) last (dec_lt (num q) (den q))

  pub rule : Entry i m
  rule = record {
    number = number;
    reaches = leb→le (2 ^ i * den m ^ 128) (num m ^ 128) (and_l (leb (2 ^ i * den m ^ 128) (num m ^ 128)) (ltb (((num m * 2 ^ 52 - 1) / den m) ^ 128) (2 ^ i * (2 ^ 52) ^ 128)) rest);
    first = none_before;
  }

pub thresholds : (xs : List Float) → T (every right 0 xs) → length xs ≡ 128 → Thresholds xs
thresholds xs t l = record { entry = λ i h. rule i _ (at right nan xs t i (rw l h)) }
