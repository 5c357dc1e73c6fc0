-- y + 2 ^ 23 - 2 ^ 23 for a y from 0 up to 2 ^ 23: the sum has no place for a fraction, so this is y rounded to a whole number. Assumes nothing.
use Rattle.std.proofs.lemmas.Bool.{true≢false}
use Rattle.std.proofs.Common.{◌≡◌, ℕ, suc, ◌+◌, ◌-◌, ◌*◌, ◌/◌, ◌%◌, ◌^◌, ◌<◌, ◌≤◌, Bool, true, false, ltb, ℤ, sym, refl, ap, ◌∙◌, subst, le_trans, le_of_eq, lt_of_lt_of_le, lt_of_le_of_lt, mul-le-mul_right, zero-lt-suc, mul_assoc, mul_comm, div-lt_iff_lt-mul, add-mul, add_comm, le_antisymm, mul-lt-mul_of_pos_right, mul-pos, lt_of_not-le, le-div_iff_mul-le, mul-one, mul_right_comm, not-le_of_lt, div-one, arith, lit<, pow_pos, pow_mono, ltb-false, ltb-true, le-ltb, lt-ltb}
use Prim.Native.Nat.{compare}
use lib.Ieee.{Float, nan, inf, fin, up, down, lt, neg, add, sub, sum, size, nearest, round, binary32}
use lib.Ieee.Digits.{size-lt, size-le}
use lib.Ieee.Fits.{down_pos, nearest-le}
use lib.Ieee.Exact.{HasValue}
use lib.Ieee.Nearest.{closest, closest_same, nearest-ge}
use lib.Ieee.Order.{drop}
use lib.Ieee.Scale.{grid, overflow, round_val, round_same}
use native.Mathlib.Nat.{eq_of_mul-eq-mul_right, add-mul-div_right, mod-one}
use Rattle.floats.proofs.Cut.{two_to}

abbrev pub big : Float
big = two_to 23

-- ---- a number with 24 digits, in units of 2 ^ -149, has 173
pub sized : (n : ℕ) → 2 ^ 172 ≤ n → n < 2 ^ 173 → size n ≡ 173
sized n lo hi = le_antisymm (size-le n 173 hi) (lt_of_not-le (λ (g : size n ≤ 172). not-le_of_lt (lt_of_lt_of_le (size-lt n) (pow_mono g)) lo))

unscale : (x : Float) (n : ℕ) → HasValue x false (n * 2 ^ 149) (2 ^ 149) → HasValue x false n 1
unscale nan n h = h
unscale (inf s) n h = h
unscale (fin s m e) n h = (
  h.0,
  mul-one (m * up e) ∙ eq_of_mul-eq-mul_right (2 ^ 149) (pow_pos 149) (m * up e) (n * down e) (h.1 ∙ mul_right_comm n (2 ^ 149) (down e)),
)

-- ---- a fraction from 2 ^ 23 to 2 ^ 24 is rounded to a whole number
module _ (a d : ℕ) (D : 0 < d) (lo : 2 ^ 23 * d ≤ a) (hi : a < 2 ^ 24 * d) where
  drops : drop 24 (a * 2 ^ 149) d ≡ 149
  drops = ap (λ (z : ℕ). z - 24) (sized (a * 2 ^ 149 / d)
      ((le-div_iff_mul-le D).1 (le_trans (le_of_eq (mul_right_comm (2 ^ 23) (2 ^ 149) d)) (mul-le-mul_right (2 ^ 149) lo)))
      ((div-lt_iff_lt-mul D).1 (lt_of_lt_of_le (mul-lt-mul_of_pos_right hi (pow_pos 149)) (le_of_eq (mul_right_comm (2 ^ 24) d (2 ^ 149))))))

  grid_is : grid binary32 a d ≡ closest a d * 2 ^ 149
  grid_is =
      ap (λ (k : ℕ). closest (a * 2 ^ 149) (d * 2 ^ k) * 2 ^ k) drops
      ∙ ap (λ (z : ℕ). z * 2 ^ 149) (closest_same (a * 2 ^ 149) (d * 2 ^ 149) a d (mul-pos D (pow_pos 149)) D (mul_assoc a (2 ^ 149) d ∙ ap (λ (z : ℕ). a * z) (mul_comm (2 ^ 149) d)))

  closest_le : closest a d ≤ 2 ^ 24
  closest_le = le_trans (nearest-le (a / d) (compare (a % d * 2) d)) ((div-lt_iff_lt-mul D).1 hi)

  small : grid binary32 a d < overflow binary32
  small = subst (λ (z : ℕ). z < 2 ^ (149 + 128)) (sym grid_is) (lt_of_le_of_lt (mul-le-mul_right (2 ^ 149) closest_le) (lit< tt))

  rounded : HasValue (round binary32 false a d) false (closest a d) 1
  rounded = unscale (round binary32 false a d) (closest a d) (subst (λ (z : ℕ). HasValue (round binary32 false a d) false z (2 ^ 149)) grid_is (round_val binary32 a d small))

-- ---- the difference and the sum of two whole numbers
sub_mul : (n k d : ℕ) → k ≤ n → n * d - k * d ≡ (n - k) * d
sub_mul n k d h =
    let j : n ≡ k + (n - k) = omega arith in
    let e : n * d ≡ k * d + (n - k) * d = ap (λ (z : ℕ). z * d) j ∙ add-mul k (n - k) d in
    omega arith

-- n as a fraction over the product of two denominators
over_both : (m : ℕ) (e : ℤ) (n d : ℕ) → m * up e * 1 ≡ n * down e → m * up e * d ≡ n * (down e * d)
over_both m e n d h = ap (λ (z : ℕ). z * d) (sym (mul-one (m * up e)) ∙ h) ∙ mul_assoc n (down e) d

pub less : (x y : Float) (n k : ℕ) → HasValue x false n 1 → HasValue y false k 1 → k ≤ n → sub binary32 x y ≡ round binary32 false (n - k) 1
unfolding sub add neg sum
less nan y n k h g l = absurd h
less (inf s) y n k h g l = absurd h
less (fin true m e) y n k h g l = absurd (true≢false h.0)
less (fin false m e) nan n k h g l = absurd g
less (fin false m e) (inf s) n k h g l = absurd g
less (fin false m e) (fin true p d) n k h g l = absurd (true≢false g.0)
less (fin false m e) (fin false p d) n k h g l =
    let A = m * up e * down d in
    let B = p * up d * down e in
    let D = down e * down d in
    let a : A ≡ n * D = over_both m e n (down d) h.1 in
    let b : B ≡ k * D = over_both p d k (down e) g.1 ∙ ap (λ (z : ℕ). k * z) (mul_comm (down d) (down e)) in
    let z : ltb A B ≡ false = le-ltb A B (subst (λ (y : ℕ). B ≤ y) (sym a) (subst (λ (y : ℕ). y ≤ n * D) (sym b) (mul-le-mul_right D l))) in
    let q : A - B ≡ (n - k) * D = ap (λ (y : ℕ). y - B) a ∙ ap (λ (y : ℕ). n * D - y) b ∙ sub_mul n k D l in
    rw z (round_same binary32 false (A - B) D (n - k) 1 (mul-pos (down_pos e) (down_pos d)) (zero-lt-suc 0) (mul-one (A - B) ∙ q))

pub more : (x y : Float) (n k : ℕ) → HasValue x false n 1 → HasValue y false k 1 → add binary32 x y ≡ round binary32 false (n + k) 1
unfolding add sum
more nan y n k h g = absurd h
more (inf s) y n k h g = absurd h
more (fin true m e) y n k h g = absurd (true≢false h.0)
more (fin false m e) nan n k h g = absurd g
more (fin false m e) (inf s) n k h g = absurd g
more (fin false m e) (fin true p d) n k h g = absurd (true≢false g.0)
more (fin false m e) (fin false p d) n k h g =
    let A = m * up e * down d in
    let B = p * up d * down e in
    let D = down e * down d in
    let a : A ≡ n * D = over_both m e n (down d) h.1 in
    let b : B ≡ k * D = over_both p d k (down e) g.1 ∙ ap (λ (z : ℕ). k * z) (mul_comm (down d) (down e)) in
    let q : A + B ≡ (n + k) * D = ap (λ (y : ℕ). y + B) a ∙ ap (λ (y : ℕ). n * D + y) b ∙ sym (add-mul n k D) in
    round_same binary32 false (A + B) D (n + k) 1 (mul-pos (down_pos e) (down_pos d)) (zero-lt-suc 0) (mul-one (A + B) ∙ q)

-- ---- a whole number against a fraction
scaled : (a b d : ℕ) → 0 < d → ltb (a * d) (b * d) ≡ ltb a b
scaled a b d D = go (ltb a b) (ltb-true a b) (ltb-false a b)
  where
    go : (t : Bool) → (t ≡ true → a < b) → (t ≡ false → b ≤ a) → ltb (a * d) (b * d) ≡ t
    go true f g = lt-ltb (a * d) (b * d) (mul-lt-mul_of_pos_right (f refl) D)
    go false f g = le-ltb (a * d) (b * d) (mul-le-mul_right d (g refl))

module _ (m : ℕ) (e : ℤ) (n : ℕ) where
  side : (k : ℕ) (d : ℤ) → HasValue (fin false k d) false n 1 → k * up d * down e ≡ n * down e * down d
  side k d h = ap (λ (z : ℕ). z * down e) (sym (mul-one (k * up d)) ∙ h.1) ∙ mul_right_comm n (down d) (down e)

  pub above_is : (v : Float) → HasValue v false n 1 → lt (fin false m e) v ≡ ltb (m * up e) (n * down e)
  unfolding lt
  above_is nan h = absurd h
  above_is (inf s) h = absurd h
  above_is (fin true k d) h = absurd (true≢false h.0)
  above_is (fin false k d) h = ap (ltb (m * up e * down d)) (side k d h) ∙ scaled (m * up e) (n * down e) (down d) (down_pos d)

  pub below_is : (v : Float) → HasValue v false n 1 → lt v (fin false m e) ≡ ltb (n * down e) (m * up e)
  unfolding lt
  below_is nan h = absurd h
  below_is (inf s) h = absurd h
  below_is (fin true k d) h = absurd (true≢false h.0)
  below_is (fin false k d) h = ap (λ (z : ℕ). ltb z (m * up e * down d)) (side k d h) ∙ scaled (n * down e) (m * up e) (down d) (down_pos d)

-- ---- the sum of y and 2 ^ 23
exact : (a d : ℕ) → 0 < d → (n : ℕ) → a ≡ n * d → closest a d ≡ n
exact a d D n h = closest_same a d n 1 D (zero-lt-suc 0) (mul-one a ∙ h) ∙ ap (λ (z : ℕ). nearest z (compare (n % 1 * 2) 1)) (div-one n) ∙ ap (λ (z : ℕ). nearest n (compare (z * 2) 1)) (mod-one n)

sum_is : (m : ℕ) (e : ℤ) → add binary32 (fin false m e) big ≡ round binary32 false (m * up e * 1 + 2 ^ 23 * down e) (down e * 1)
unfolding add sum
sum_is m e = refl

-- it is 2 ^ 23 and the whole part of y or one more, and not one more where y is whole
pub record Summed (m : ℕ) (e : ℤ) (n : ℕ) : Type 0 where
  pub value : HasValue (add binary32 (fin false m e) big) false n 1
  pub low : 2 ^ 23 ≤ n
  pub high : n ≤ 2 ^ 24
  pub floor : 2 ^ 23 + m * up e / down e ≤ n
  pub next : n ≤ suc (2 ^ 23 + m * up e / down e)
  pub same : (k : ℕ) → m * up e ≡ k * down e → n ≡ 2 ^ 23 + k

abbrev pub summed_to : ℕ → ℤ → ℕ
summed_to m e = closest (m * up e * 1 + 2 ^ 23 * down e) (down e * 1)

pub summed : (m : ℕ) (e : ℤ) → m * up e < 2 ^ 23 * down e → Summed m e (summed_to m e)
summed m e h =
    let a = m * up e * 1 + 2 ^ 23 * down e in
    let d = down e * 1 in
    let D : 0 < d = omega (arith, down_pos e) in
    let q = m * up e / down e in
    let is : a / d ≡ 2 ^ 23 + q =
    ap (λ (z : ℕ). (z + 2 ^ 23 * down e) / (down e * 1)) (mul-one (m * up e)) ∙ ap (λ (z : ℕ). (m * up e + 2 ^ 23 * down e) / z) (mul-one (down e))
    ∙ add-mul-div_right (m * up e) (2 ^ 23) (down_pos e) ∙ add_comm q (2 ^ 23) in
    let n = closest a d in
    let lo : 2 ^ 23 + q ≤ n = subst (λ (z : ℕ). z ≤ n) is (nearest-ge (a / d) (compare (a % d * 2) d)) in
    record {
      value = subst (λ (x : Float). HasValue x false n 1) (sym (sum_is m e)) (rounded a d D (omega arith) (omega arith));
      low = omega arith;
      high = closest_le a d D (omega arith) (omega arith);
      floor = lo;
      next = subst (λ (z : ℕ). n ≤ suc z) is (nearest-le (a / d) (compare (a % d * 2) d));
      same = λ k g. exact a d D (2 ^ 23 + k) (ap (λ (z : ℕ). z + 2 ^ 23 * down e) (mul-one (m * up e) ∙ g) ∙ at_sum k (down e));
    }
  where
    at_sum : (k d : ℕ) → k * d + 2 ^ 23 * d ≡ (2 ^ 23 + k) * (d * 1)
    at_sum k d = omega (arith, add-mul (2 ^ 23) k d, ap (λ (z : ℕ). (2 ^ 23 + k) * z) (mul-one d))
