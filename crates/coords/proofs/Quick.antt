-- The floor of an f32 between -2 ^ 22 and 2 ^ 22 as a whole number and as a float, by the last bits of a sum with 2 ^ 23. Assumes nothing.
use Prim.Native.Nat.{ℕ, zero, suc, ◌+◌, ◌-◌, ◌*◌, ◌/◌, ◌^◌, ◌≤◌, ◌<◌, min}
use mathlib.Core.Path.{◌≡◌, refl, sym, ap, subst, ◌∙◌}
use mathlib.Core.Bool.{Bool, true, false, ◌&&◌}
use lib.Dec.{T, eqb}
use lib.IntN.{ℤ, pos, negsuc, neg_ℤ, ◌+ℤ◌, ◌-ℤ◌}
use mir.Syntax.{w64}
use mir.Val.{SFits, to_z, of_z}
use Rattle.std.proofs.lemmas.Bool.{true≢false, false≢true}
use Rattle.std.proofs.lemmas.Int.{ints, to_z-of_z}
use lib.Ieee.{Float, nan, inf, fin, up, down, lt, eq, neg, add, sub, round, of_bits, of_int, in_float, to_unsigned, to_signed, binary32}
use lib.Ieee.Fits.{down_pos}
use lib.Ieee.Exact.{HasValue}
use lib.Ieee.Back.{round_whole}
use native.Mathlib.Nat.{div-lt_iff_lt-mul, mul-one, mul_right_comm, mul-div_cancel, eq_of_mul-eq-mul_right, div-mul-le_self, lt-suc_self, suc-mul, zero-mul}
use native.Mathlib.Numerals.{add-one}
use native.Mathlib.Omega.{arith}
use borrow.Author.Tests.{ltb-true, eqb-true, eqb-false, le-leb, lt-ltb}
use Rattle.floats.proofs.Cut.{two_to}
use Rattle.levels.specs.declared.Wrap.{Wrap}
use Rattle.std.specs.Int.{saturate_signed}
use Rattle.rounding.specs.Rounding.{up_div, whole_by, floor_of, next_of, Part}
use Rattle.rounding.proofs.Next.{next_is}
use Rattle.rounding.proofs.Near.{big, less, Summed, summed, summed_to}
use Rattle.rounding.proofs.Kept.{up_is, up_exact, neg_round}
use Rattle.floats.specs.Num.{◌⊖◌, ◌⊗◌, half32, of_nat32}
use Rattle.coords.specs.Coords.{Few, Floored, wrap_texel, centred, low_of, first_of, second_of, weight_of, axis_of}
use Rattle.coords.proofs.Steps.{Before}

under : (m : ℕ) (e : ℤ) → lt (fin false m e) (two_to 22) ≡ true → m * up e < 2 ^ 22 * down e
unfolding lt
under m e h = omega (arith, ltb-true (m * up e * 1) (1 * 2 ^ 22 * down e) h)

pub few_part : (x : Float) → Few x → Part 22 x
unfolding lt of_bits
few_part nan f = absurd (true≢false (sym f.above))
few_part (inf true) f = absurd (true≢false (sym f.above))
few_part (inf false) f = absurd (true≢false (sym f.below))
few_part (fin true m e) f = absurd (true≢false (sym f.above))
few_part (fin false m e) f = under m e f.below

-- ---- a whole float as an i64
signed_above : (v : Float) (q : ℕ) → HasValue v false q 1 → q < 2 ^ 24 → pos q ≡ to_signed 63 v
unfolding to_signed
signed_above nan q h k = absurd h
signed_above (inf s) q h k = absurd h
signed_above (fin true m e) q h k = absurd (true≢false h.0)
signed_above (fin false m e) q h k =
    let d : m * up e / down e ≡ q = ap (λ (z : ℕ). z / down e) (sym (mul-one (m * up e)) ∙ h.1) ∙ mul-div_cancel q (down_pos e) in
    ap pos (omega arith)

negs : (n k : ℕ) → n ≡ suc k → negsuc k ≡ neg_ℤ (pos n)
negs zero k h = absurd (omega arith)
negs (suc n) k h = ap negsuc (omega arith)

signed_below : (v : Float) (k : ℕ) → HasValue v true (suc k) 1 → k < 2 ^ 24 → negsuc k ≡ to_signed 63 v
unfolding to_signed
signed_below nan k h l = absurd h
signed_below (inf s) k h l = absurd h
signed_below (fin false m e) k h l = absurd (true≢false (sym h.0))
signed_below (fin true m e) k h l =
    let d : m * up e / down e ≡ suc k = ap (λ (z : ℕ). z / down e) (sym (mul-one (m * up e)) ∙ h.1) ∙ mul-div_cancel (suc k) (down_pos e) in
    negs (min (m * up e / down e) (2 ^ 63)) k (omega arith)

-- ---- above 0
floor_few : (q : ℕ) → q < 2 ^ 22 → q ≤ 2 ^ 24
floor_few q h = omega arith

pub floored_above : (x : Float) (n : ℕ) → Few x → n ≡ to_unsigned 22 x → Floored x (pos n) (of_int binary32 (pos n))
unfolding lt of_bits floor_of whole_by to_unsigned of_int
floored_above nan n f e = absurd (true≢false (sym f.above))
floored_above (inf true) n f e = absurd (true≢false (sym f.above))
floored_above (inf false) n f e = absurd (true≢false (sym f.below))
floored_above (fin true m d) n f e = absurd (true≢false (sym f.above))
floored_above (fin false m d) n f e =
    let q = m * up d / down d in
    let h : q < 2 ^ 22 = (div-lt_iff_lt-mul (down_pos d)).1 (under m d f.below) in
    let s : n ≡ q = omega arith in
    record {
      whole = ap pos s ∙ signed_above (round binary32 false q 1) q (round_whole binary32 false q (floor_few q h)) (omega arith);
      low = ap (λ (k : ℕ). round binary32 false k 1) s;
    }

-- ---- below 0: y is -x, and near the whole number next to y
abbrev near : Float → Float
near y = sub binary32 (add binary32 y big) big

module _ (m : ℕ) (e : ℤ) (h : lt (fin false m e) (two_to 22) ≡ true) where
  small : m * up e < 2 ^ 23 * down e
  small = omega (arith, under m e h)

  made : Summed m e (summed_to m e)
  made = summed m e small

  k : ℕ
  k = summed_to m e - 2 ^ 23

  value : HasValue (near (fin false m e)) false k 1
  unfolding k
  value = subst (λ (v : Float). HasValue v false (summed_to m e - 2 ^ 23) 1) (sym (less (add binary32 (fin false m e) big) big (summed_to m e) (2 ^ 23) made.value (refl, refl) made.low)) (round_whole binary32 false (summed_to m e - 2 ^ 23) (omega (arith, made.high)))

  -- y equals the number near it exactly if it is that whole number
  same_value : (v : Float) (n : ℕ) → HasValue v false n 1 → eq (fin false m e) v ≡ true → m * up e ≡ n * down e
  unfolding eq
  same_value nan n p q = absurd p
  same_value (inf s) n p q = absurd p
  same_value (fin true j d) n p q = absurd (true≢false p.0)
  same_value (fin false j d) n p q =
      eq_of_mul-eq-mul_right (down d) (down_pos d) (m * up e) (n * down e)
      (eqb-true (m * up e * down d) (j * up d * down e) (first (eqb (m * up e * down d) (j * up d * down e)) q)
      ∙ ap (λ (z : ℕ). z * down e) (sym (mul-one (j * up d)) ∙ p.1) ∙ mul_right_comm n (down d) (down e))
    where
      first : (b : Bool) → (b && true) ≡ true → b ≡ true
      first true z = refl
      first false z = z

  other_value : (v : Float) (n : ℕ) → HasValue v false n 1 → eq (fin false m e) v ≡ false → m * up e ≡ n * down e → ⊥
  unfolding eq
  other_value nan n p q r = absurd p
  other_value (inf s) n p q r = absurd p
  other_value (fin true j d) n p q r = absurd (true≢false p.0)
  other_value (fin false j d) n p q r =
      eqb-false (m * up e * down d) (j * up d * down e) (first (eqb (m * up e * down d) (j * up d * down e)) q)
      (ap (λ (z : ℕ). z * down d) r ∙ mul_right_comm n (down e) (down d) ∙ ap (λ (z : ℕ). z * down e) (sym (sym (mul-one (j * up d)) ∙ p.1)))
    where
      first : (b : Bool) → (b && true) ≡ false → b ≡ false
      first true z = z
      first false z = refl

  q : ℕ
  q = m * up e / down e

  q_few : q < 2 ^ 22
  unfolding q
  q_few = (div-lt_iff_lt-mul (down_pos e)).1 (under m e h)

  at_whole : eq (fin false m e) (near (fin false m e)) ≡ true → up_div (m * up e) (down e) ≡ q
  unfolding q
  at_whole t =
      let w : m * up e ≡ k * down e = same_value (near (fin false m e)) k value t in
      up_exact (m * up e) (down e) k (down_pos e) w ∙ sym (ap (λ (z : ℕ). z / down e) w ∙ mul-div_cancel k (down_pos e))

  at_part : eq (fin false m e) (near (fin false m e)) ≡ false → up_div (m * up e) (down e) ≡ suc q
  unfolding q k
  at_part t =
      let c = m * up e / down e in
      let lo : c * down e ≤ m * up e = div-mul-le_self (m * up e) (down e) in
      let hi : m * up e < suc c * down e = (div-lt_iff_lt-mul {x = m * up e} {y = suc c} (down_pos e)).0 (lt-suc_self c) in
      let no : m * up e ≡ c * down e → ⊥ = λ w. other_value (near (fin false m e)) (summed_to m e - 2 ^ 23) value t (w ∙ ap (λ (z : ℕ). z * down e) (as_near c (made.same c w))) in
      let s : suc c * down e ≡ c * down e + down e = suc-mul c (down e) in
      up_is (m * up e) (down e) (suc c) (down_pos e) (omega arith) (omega (arith, strict (c * down e) (m * up e) lo no))
    where
      as_near : (c : ℕ) → summed_to m e ≡ 2 ^ 23 + c → c ≡ summed_to m e - 2 ^ 23
      as_near c w = omega arith

      strict : (a b : ℕ) → a ≤ b → (b ≡ a → ⊥) → a < b
      strict a b l n = omega arith

neg_neg : (x : Float) → neg (neg x) ≡ x
unfolding neg
neg_neg nan = refl
neg_neg (inf true) = refl
neg_neg (inf false) = refl
neg_neg (fin true m e) = refl
neg_neg (fin false m e) = refl

-- the floor of a number below 0, once its magnitude rounded up is known
floored_up : (m : ℕ) (e : ℤ) (r : ℕ) → r < 2 ^ 22 → up_div (m * up e) (down e) ≡ suc r → Floored (neg (fin false m e)) (negsuc r) (neg (of_int binary32 (pos (r + 1))))
unfolding neg floor_of whole_by of_int
floored_up m e r h u =
    let v : round binary32 true (up_div (m * up e) (down e)) 1 ≡ round binary32 true (suc r) 1 = ap (λ (z : ℕ). round binary32 true z 1) u in
    record {
      whole = signed_below (round binary32 true (suc r) 1) r (round_whole binary32 true (suc r) (few r h)) (omega arith) ∙ ap (λ (z : Float). to_signed 63 z) (sym v);
      low = neg_round binary32 false (r + 1) 1 ∙ ap (λ (z : ℕ). round binary32 true z 1) (add-one r) ∙ sym v;
    }
  where
    few : (r : ℕ) → r < 2 ^ 22 → suc r ≤ 2 ^ 24
    few r h = omega arith

pub below_part : (y : Float) (n : ℕ) → Few y → n ≡ to_unsigned 22 y → eq y (near y) ≡ false → (n < 2 ^ 22) × Floored (neg y) (negsuc n) (neg (of_int binary32 (pos (n + 1))))
unfolding lt of_bits to_unsigned q
below_part nan n f e t = absurd (true≢false (sym f.above))
below_part (inf true) n f e t = absurd (true≢false (sym f.above))
below_part (inf false) n f e t = absurd (true≢false (sym f.below))
below_part (fin true m d) n f e t = absurd (true≢false (sym f.above))
below_part (fin false m d) n f e t =
    let h : m * up d / down d < 2 ^ 22 = q_few m d f.below in
    let s : n ≡ m * up d / down d = omega arith in
    (omega arith, floored_up m d n (omega arith) (at_part m d f.below t ∙ ap suc (sym s)))

-- a positive whole number is at least 1
some_whole : (a c d : ℕ) → 0 < a → a ≤ c * d → 1 ≤ c
some_whole a zero d h l = absurd (omega (arith, zero-mul d))
some_whole a (suc c) d h l = omega arith

pub below_whole : (y : Float) (n : ℕ) → Few y → n ≡ to_unsigned 22 y → eq y (near y) ≡ true
    → (1 ≤ n) × (n - 1 < 2 ^ 22) × Floored (neg y) (negsuc (n - 1)) (neg (of_int binary32 (pos (n - 1 + 1))))
unfolding lt of_bits to_unsigned q
below_whole nan n f e t = absurd (true≢false (sym f.above))
below_whole (inf true) n f e t = absurd (true≢false (sym f.above))
below_whole (inf false) n f e t = absurd (true≢false (sym f.below))
below_whole (fin true m d) n f e t = absurd (true≢false (sym f.above))
below_whole (fin false m d) n f e t =
    let h : m * up d / down d < 2 ^ 22 = q_few m d f.below in
    let s : n ≡ m * up d / down d = omega arith in
    let p : 0 < m * up d = omega (arith, ltb-true (0 * 1 * down d) (m * up d * 1) f.above) in
    let u : up_div (m * up d) (down d) ≡ m * up d / down d = at_whole m d f.below t in
    let o : 1 ≤ m * up d / down d = some_whole (m * up d) (m * up d / down d) (down d) p (up_le (m * up d) (down d) (m * up d / down d) (down_pos d) u) in
    (omega arith, omega arith, floored_up m d (n - 1) (omega arith) (u ∙ omega arith))
  where
    up_le : (a d c : ℕ) → 0 < d → up_div a d ≡ c → a ≤ c * d
    up_le a d c D z =
        let l : a + (d - 1) < suc c * d = (div-lt_iff_lt-mul {x = a + (d - 1)} {y = suc c} D).0 (omega arith) in
        omega (arith, suc-mul c d)

-- ---- as the code has them, for an x below 0
pub floored_below : (x y : Float) (r : ℕ) → y ≡ neg x → Floored (neg y) (negsuc r) (neg (of_int binary32 (pos (r + 1)))) → Floored x (negsuc r) (neg (of_int binary32 (pos (r + 1))))
floored_below x y r e f = subst (λ (z : Float). Floored z (negsuc r) (neg (of_int binary32 (pos (r + 1))))) (ap neg e ∙ neg_neg x) f

pub small_float : (n : ℕ) → n ≤ 2 ^ 22 → T (in_float binary32 (pos n))
unfolding in_float
small_float n h = subst T (sym (le-leb n (2 ^ 24) (omega arith))) tt

-- x below 0 has -x above 0
pub minus_above : (x : Float) → lt x (of_bits binary32 0) ≡ true → lt (of_bits binary32 0) (neg x) ≡ true
unfolding lt neg of_bits
minus_above nan h = absurd (false≢true h)
minus_above (inf true) h = refl
minus_above (inf false) h = absurd (false≢true h)
minus_above (fin false m e) h = absurd (omega (arith, ltb-true (m * up e * 1) (0 * 1 * down e) h))
minus_above (fin true m e) h = lt-ltb (0 * 1 * down e) (m * up e * 1) (omega (arith, ltb-true 0 (m * up e * 1 + 0 * 1 * down e) h))

-- ---- a floor's whole number as the code has it: what fits an i64 stays
module _ (x v : Float) (r : ℤ) (f : SFits w64 r) where
  pub held_whole : (z : ℤ) → r ≡ z → Floored x z v → Floored x (to_z w64 (of_z w64 r)) v
  held_whole z e h = subst (λ (y : ℤ). Floored x y v) (sym (to_z-of_z w64 r f ∙ e)) h

  pub held_below : (n : ℕ) → n < 2 ^ 22 → r ≡ pos n → Floored x (negsuc n) v → Floored x (to_z w64 (of_z w64 (negsuc 0 -ℤ to_z w64 (of_z w64 r)))) v
  held_below n l e h =
      let d : negsuc 0 -ℤ pos n ≡ negsuc n = omega (arith, ints) in
      let k : to_z w64 (of_z w64 (negsuc 0 -ℤ to_z w64 (of_z w64 r))) ≡ negsuc n =
      ap (λ (y : ℤ). to_z w64 (of_z w64 y)) (ap (λ (y : ℤ). negsuc 0 -ℤ y) (to_z-of_z w64 r f ∙ e) ∙ d) ∙ to_z-of_z w64 (negsuc n) (record { sfits = omega arith }) in
      subst (λ (y : ℤ). Floored x y v) (sym k) h

-- ---- one more than a whole number that fits
module _ (z : ℤ) (f : SFits w64 z) where
  pub next_last : of_z w64 z ≡ 2 ^ 63 - 1 → z ≡ next_of 63 z
  unfolding next_of
  next_last e = let l : z ≡ pos (2 ^ 63 - 1) = sym (to_z-of_z w64 z f) ∙ ap (to_z w64) e in rw l

  pub next_fits : (n : ℤ) → SFits w64 n → n ≡ saturate_signed w64 (to_z w64 (of_z w64 z) +ℤ pos 1) → to_z w64 (of_z w64 n) ≡ next_of 63 z
  next_fits n g q = to_z-of_z w64 n g ∙ q ∙ ap (λ (y : ℤ). saturate_signed w64 (y +ℤ pos 1)) (to_z-of_z w64 z f) ∙ next_is w64 z f

pub before : (z : ℤ) → SFits w64 z → (of_z w64 z ≡ 2 ^ 63 - 1 → ⊥) → Before z
before (pos n) f h = omega (arith, f.sfits, λ (e : n ≡ 2 ^ 63 - 1). h (ap (λ (k : ℕ). of_z w64 (pos k)) e))
before (negsuc n) f h = 0

-- the axis from a floor
pub axis_is : (w : Wrap) (v l : Float) (size : ℕ) (z : ℤ) (low : Float) (a b : ℕ) → l ≡ of_nat32 size → Floored (v ⊗ l ⊖ half32) z low → SFits w64 z → a ≡ wrap_texel w (to_z w64 (of_z w64 z)) size
    → b ≡ wrap_texel w (next_of 63 (to_z w64 (of_z w64 z))) size → record { first = a; second = b; weight = v ⊗ l ⊖ half32 ⊖ low } ≡ axis_of w v size
unfolding axis_of first_of second_of weight_of low_of centred
axis_is w v l size z low a b e h f p q =
    let i : to_z w64 (of_z w64 z) ≡ to_signed 63 (floor_of (v ⊗ l ⊖ half32)) = to_z-of_z w64 z f ∙ h.whole in
    rw (p ∙ ap (λ (y : ℤ). wrap_texel w y size) i, q ∙ ap (λ (y : ℤ). wrap_texel w (next_of 63 y) size) i, h.low, e)
