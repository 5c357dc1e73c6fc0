-- The largest whole number up to x, and the least from x on, by the whole number near x. Assumes nothing.
use Rattle.std.proofs.lemmas.Bool.{false≢true}
use Rattle.std.proofs.Common.{◌≡◌, ℕ, suc, ◌+◌, ◌-◌, ◌*◌, ◌/◌, ◌^◌, ◌<◌, ◌≤◌, Bool, true, false, cond, not, T, ltb, ◌⊎◌, ℤ, sym, refl, ap, ◌∙◌, subst, inl, inr, add-zero, mul-le-mul_right, lt-suc_self, suc-mul, div-lt_iff_lt-mul, add-mul, eq-or-lt_of_le, le-div_iff_mul-le, div-mul-le_self, arith, ltb-false, ltb-true}
use lib.Ieee.{Float, nan, inf, fin, up, down, lt, neg, add, sub, round, fits, binary32}
use lib.Ieee.Fits.{down_pos}
use lib.Ieee.Exact.{HasValue}
use lib.Ieee.Back.{round_whole}
use Rattle.floats.proofs.Cut.{two_to}
use Rattle.floats.proofs.Signs.{nought}
use Rattle.rounding.specs.Rounding.{up_div, whole_by, floor_of, ceil_of}
use Rattle.rounding.proofs.Near.{big, less, more, above_is, below_is, Summed, summed, summed_to}
use Rattle.rounding.proofs.Kept.{Exact, div_exact, up_exact, up_is, kept_above, kept_below, kept_zero, neg_round, neg_whole}

abbrev one : Float
one = two_to 0

abbrev near : Float → Float
near y = sub binary32 (add binary32 y big) big

pub under_big : (m : ℕ) (d : ℤ) → lt (fin false m d) big ≡ true → m * up d < 2 ^ 23 * down d
unfolding lt
under_big m d e = omega (arith, ltb-true (m * up d * 1) (1 * 2 ^ 23 * down d) e)

-- ---- the number near y: q, the whole part, or one more, and not one more where y is whole
module _ (m : ℕ) (e : ℤ) (h : lt (fin false m e) big ≡ true) where
  near_to : ℕ
  near_to = summed_to m e - 2 ^ 23

  made : Summed m e (summed_to m e)
  made = summed m e (under_big m e h)

  near_is : near (fin false m e) ≡ round binary32 false near_to 1
  unfolding near_to
  near_is = less (add binary32 (fin false m e) big) big (summed_to m e) (2 ^ 23) made.value (refl, refl) made.low

  near_few : near_to ≤ 2 ^ 23
  unfolding near_to
  near_few = omega (arith, made.high)

  near_value : HasValue (near (fin false m e)) false near_to 1
  near_value = subst (λ (v : Float). HasValue v false near_to 1) (sym near_is) (round_whole binary32 false near_to (omega (arith, near_few)))

  at_least : m * up e / down e ≤ near_to
  unfolding near_to
  at_least = omega (arith, made.floor)

  at_most : near_to ≤ suc (m * up e / down e)
  unfolding near_to
  at_most = omega (arith, made.next)

  at_whole : m * up e ≡ m * up e / down e * down e → near_to ≡ m * up e / down e
  unfolding near_to
  at_whole g = omega (arith, made.same (m * up e / down e) g)

  -- above y it is one more, and else the whole part
  down_is : (p : Float) → p ≡ cond (lt (fin false m e) (near (fin false m e))) one nought → sub binary32 (near (fin false m e)) p ≡ round binary32 false (m * up e / down e) 1
  down_is p h = ap (sub binary32 (near (fin false m e))) h ∙ go (lt (fin false m e) (near (fin false m e))) (sym (above_is m e near_to (near (fin false m e)) near_value))
    where
      go : (t : Bool) → ltb (m * up e) (near_to * down e) ≡ t → sub binary32 (near (fin false m e)) (cond t one nought) ≡ round binary32 false (m * up e / down e) 1
      go true g =
          let b : m * up e / down e < near_to = (div-lt_iff_lt-mul (down_pos e)).1 (ltb-true (m * up e) (near_to * down e) g) in
          less (near (fin false m e)) one near_to 1 near_value (refl, refl) (omega arith) ∙ ap (λ (z : ℕ). round binary32 false z 1) (omega (arith, at_most))
      go false g =
          let b : near_to ≤ m * up e / down e = (le-div_iff_mul-le (down_pos e)).1 (ltb-false (m * up e) (near_to * down e) g) in
          less (near (fin false m e)) nought near_to 0 near_value (refl, refl) (omega arith) ∙ ap (λ (z : ℕ). round binary32 false z 1) (omega (arith, at_least))

  -- below y it is the whole part, and y has a fraction; else it is one more, or y is whole
  up_is_near : (p : Float) → p ≡ cond (lt (near (fin false m e)) (fin false m e)) one nought → neg (add binary32 (near (fin false m e)) p) ≡ round binary32 true (up_div (m * up e) (down e)) 1
  up_is_near p h = ap (λ (z : Float). neg (add binary32 (near (fin false m e)) z)) h ∙ go (lt (near (fin false m e)) (fin false m e)) (sym (below_is m e near_to (near (fin false m e)) near_value))
    where
      made_of : (k : ℕ) → up_div (m * up e) (down e) ≡ k → neg (round binary32 false k 1) ≡ round binary32 true (up_div (m * up e) (down e)) 1
      made_of k g = neg_round binary32 false k 1 ∙ ap (λ (z : ℕ). round binary32 true z 1) (sym g)

      lack : (m * up e / down e * down e ≡ m * up e) ⊎ (m * up e / down e * down e < m * up e) → near_to * down e < m * up e + down e
      lack (inl g) = subst (λ (z : ℕ). z * down e < m * up e + down e) (sym (at_whole (sym g))) (omega (arith, down_pos e))
      lack (inr g) = let c : near_to * down e ≤ suc (m * up e / down e) * down e = mul-le-mul_right (down e) at_most in omega (arith, suc-mul (m * up e / down e) (down e))

      go : (t : Bool) → ltb (near_to * down e) (m * up e) ≡ t → neg (add binary32 (near (fin false m e)) (cond t one nought)) ≡ round binary32 true (up_div (m * up e) (down e)) 1
      go true g =
          let a : near_to * down e < m * up e = ltb-true (near_to * down e) (m * up e) g in
          let b : m * up e < suc (m * up e / down e) * down e = (div-lt_iff_lt-mul {x = m * up e} {y = suc (m * up e / down e)} (down_pos e)).0 (lt-suc_self (m * up e / down e)) in
          let c : suc (m * up e / down e) * down e ≤ (near_to + 1) * down e = mul-le-mul_right (down e) (omega (arith, at_least)) in
          ap neg (more (near (fin false m e)) one near_to 1 near_value (refl, refl)) ∙ made_of (near_to + 1) (up_is (m * up e) (down e) (near_to + 1) (down_pos e) (omega arith) (omega (arith, add-mul near_to 1 (down e))))
      go false g =
          ap neg (more (near (fin false m e)) nought near_to 0 near_value (refl, refl)) ∙ ap (λ (z : ℕ). neg (round binary32 false z 1)) (add-zero near_to)
          ∙ made_of near_to (up_is (m * up e) (down e) near_to (down_pos e) (ltb-false (near_to * down e) (m * up e) g) (lack (eq-or-lt_of_le (div-mul-le_self (m * up e) (down e)))))

-- ---- floor
abbrev floor_by : Bool → ℕ → ℕ → ℕ
floor_by s = cond s up_div ◌/◌

floor_exact : (s : Bool) → Exact (floor_by s)
floor_exact true = up_exact
floor_exact false = div_exact

module _ (x : Float) where
  pub floor_above : T (fits binary32 x) → lt nought x ≡ true → lt x big ≡ false → x ≡ floor_of x
  unfolding floor_of
  floor_above = kept_above floor_by floor_exact x

  pub floor_below : T (fits binary32 x) → lt x nought ≡ true → lt (neg x) big ≡ false → x ≡ floor_of x
  unfolding floor_of
  floor_below = kept_below floor_by floor_exact x

  pub floor_zero : T (fits binary32 x) → lt nought x ≡ false → lt x nought ≡ false → x ≡ floor_of x
  unfolding floor_of
  floor_zero = kept_zero floor_by floor_exact x

  pub ceil_is : neg (floor_of (neg x)) ≡ ceil_of x
  unfolding floor_of ceil_of
  ceil_is = neg_whole floor_by (λ s. cond s ◌/◌ up_div) same x
    where
      same : (s : Bool) (a d : ℕ) → floor_by (not s) a d ≡ cond s ◌/◌ up_div a d
      same true a d = refl
      same false a d = refl

pub above_near : (x p : Float) → lt nought x ≡ true → lt x big ≡ true → p ≡ cond (lt x (near x)) one nought → sub binary32 (near x) p ≡ floor_of x
unfolding lt floor_of whole_by
above_near nan p a b h = absurd (false≢true a)
above_near (inf true) p a b h = absurd (false≢true a)
above_near (inf false) p a b h = absurd (false≢true b)
above_near (fin true m d) p a b h = absurd (false≢true a)
above_near (fin false m d) p a b h = down_is m d b p h

pub below_near : (x p : Float) → lt x nought ≡ true → lt (neg x) big ≡ true → p ≡ cond (lt (near (neg x)) (neg x)) one nought → neg (add binary32 (near (neg x)) p) ≡ floor_of x
unfolding lt neg floor_of whole_by
below_near nan p a b h = absurd (false≢true a)
below_near (inf true) p a b h = absurd (false≢true b)
below_near (inf false) p a b h = absurd (false≢true a)
below_near (fin false m d) p a b h = absurd (omega (arith, ltb-true (m * up d * 1) (0 * 1 * down d) a))
below_near (fin true m d) p a b h = up_is_near m d b p h
