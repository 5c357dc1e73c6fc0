-- Comparisons of floats above 0 as comparisons of fractions, and of their powers. Assumes nothing.
use Rattle.std.proofs.lemmas.Nat.{mul-pow}
use Rattle.std.proofs.Common.{◌≡◌, ℕ, zero, suc, ◌+◌, ◌⊎◌, inl, inr, List, Option, Some, None, eq-or-lt_of_le, slice_index_or, ◌*◌, ◌^◌, ◌<◌, ◌≤◌, true, false, T, sym, refl, subst, subst₂, le_trans, mul-le-mul_right, one-mul, mul_right_comm, le_of_mul-le-mul_right, add-one, arith, ltb-false, ltb-true}
use Rattle.std.specs.Option.{MatchOption, unwrap_or}
use native.Mathlib.Nat.{pow-le-pow_left, pow-lt-pow_left, one-le-pow}
use lib.Ieee.{Float, nan, inf, fin, up, down, binary64, lt, fits}
use lib.Ieee.Positive.{num, den, positive, den_pos}
use Rattle.detail.specs.Steps.{Entry, Thresholds, Reached, Largest}
use Rattle.std.proofs.lemmas.Nat.{mul-pow}

pub below : (x y : Float) → T (positive x) → T (positive y) → lt x y ≡ true → num x * den y < num y * den x
unfolding lt
below nan y p q h = absurd p
below (inf s) y p q h = absurd p
below (fin true m e) y p q h = absurd p
below (fin false m e) nan p q h = absurd q
below (fin false m e) (inf t) p q h = absurd q
below (fin false m e) (fin true n d) p q h = absurd q
below (fin false m e) (fin false n d) p q h = ltb-true (m * up e * down d) (n * up d * down e) h

pub not_below : (x y : Float) → T (positive x) → T (positive y) → lt x y ≡ false → num y * den x ≤ num x * den y
unfolding lt
not_below nan y p q h = absurd p
not_below (inf s) y p q h = absurd p
not_below (fin true m e) y p q h = absurd p
not_below (fin false m e) nan p q h = absurd q
not_below (fin false m e) (inf t) p q h = absurd q
not_below (fin false m e) (fin true n d) p q h = absurd q
not_below (fin false m e) (fin false n d) p q h = ltb-false (m * up e * down d) (n * up d * down e) h

-- a / b ≤ c / d, and P ≤ (a / b) ^ 128: so P ≤ (c / d) ^ 128
raised : (P a b c d : ℕ) → 0 < b → a * d ≤ c * b → P * b ^ 128 ≤ a ^ 128 → P * d ^ 128 ≤ c ^ 128
raised P a b c d B h k =
    le_of_mul-le-mul_right
    (le_trans (subst₂ ◌≤◌ (mul_right_comm P (b ^ 128) (d ^ 128)) (sym (mul-pow a d 128)) (mul-le-mul_right (d ^ 128) k))
    (subst₂ ◌≤◌ refl (mul-pow c b 128) (pow-le-pow_left h 128)))
    (one-le-pow 128 b B)

-- what is not below an entry's threshold reaches its power of two
pub reach : (i : ℕ) (v m : Float) → Entry i v → T (positive m) → lt m v ≡ false → Reached m i
reach i v m r p h = raised (2 ^ i) (num v) (den v) (num m) (den m) (den_pos v) (not_below m v p r.number h) r.reaches

pub lowest : (m : Float) → den m ≤ num m → Reached m 0
lowest m h = subst₂ ◌≤◌ (sym (one-mul (den m ^ 128))) refl (pow-le-pow_left h 128)

pub highest : (m : Float) → num m < 2 * den m → Reached m 127 → Largest m 127
highest m h r = record { reached = r; next_not = subst₂ ◌<◌ refl (mul-pow 2 (den m) 128) (pow-lt-pow_left h (λ e. omega arith)) }

pub stop : (i : ℕ) (v m : Float) → Entry (i + 1) v → T (fits binary64 m) → T (positive m) → lt m v ≡ true → Reached m i → Largest m i
stop i v m r f p h k = record { reached = k; next_not = subst (λ (z : ℕ). num m ^ 128 < 2 ^ z * den m ^ 128) (add-one i) (r.first m f p h) }

-- ---- the first entry from a place that m is below: the one before it is the last that m reaches
module _ (t : List Float) (h : Thresholds t) (m : Float) (f : T (fits binary64 m)) (p : T (positive m)) (two : num m < 2 * den m) (start : ℕ) where
  abbrev Under : ℕ → Type 0
  Under i = lt m (slice_index_or t (i + 1) nan) ≡ true

  abbrev Past : ℕ → Type 0
  Past i = lt m (slice_index_or t (i + 1) nan) ≡ false

  climb : (i : ℕ) → i < 128 → start ≤ i → Reached m start → ((k : ℕ) → start ≤ k → k < i → Past k) → Reached m i
  climb i l g r n = go i l (eq-or-lt_of_le g) n
    where
      go : (i : ℕ) → i < 128 → (start ≡ i) ⊎ (suc start ≤ i) → ((k : ℕ) → start ≤ k → k < i → Past k) → Reached m i
      go i l (inl e) n = subst (Reached m) e r
      go zero l (inr e) n = absurd (omega arith)
      go (suc j) l (inr e) n = subst (Reached m) (add-one j) (reach (j + 1) _ m (h.entry (j + 1) (omega arith)) p (n j (omega arith) (omega arith)))

  pub first_above : start < 128 → Reached m start → (r : Option ℕ)
      → MatchOption r ((k : ℕ) → start ≤ k → k < 127 → Past k) (λ i. (start ≤ i) × (i < 127) × Under i × ((k : ℕ) → start ≤ k → k < i → Past k)) → (i : ℕ) → i ≡ unwrap_or r 127 → (i < 128) × Largest m i
  first_above s r None n i e = (omega arith, subst (Largest m) (sym e) (highest m two (climb 127 (omega arith) (omega arith) r n)))
  first_above s r (Some k) n i e =
      (omega (arith, n.1), subst (Largest m) (sym e) (stop k _ m (h.entry (k + 1) (omega (arith, n.1))) f p n.2 (climb k (omega (arith, n.1)) n.0 r n.3)))
