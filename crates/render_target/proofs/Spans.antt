-- Elements of a list filled from the front, and what stands at each place afterwards. Assumes nothing.
use Prim.Native.Nat.{ℕ, ◌+◌, ◌*◌, ◌≤◌, ◌<◌}
use mathlib.Core.Path.{◌≡◌, refl, sym, ap, ◌∙◌}
use mathlib.Core.Bool.{Bool, true, false, cond, ◌&&◌}
use mathlib.Core.List.{List}
use native.Mathlib.Omega.{arith}
use lib.Dec.{leb, ltb}
use lib.ListN.{length, get_or, set, length-set}
use lib.Seq.{ext_get_or, get_or-set_same, get_or-set_other}
use native.Mathlib.Nat.{suc-mul, mul-le-mul_right}
use lib.Arith.{lt_of_le-ne, digits_mod}
use native.Mathlib.Decide.{ℕ_discrete}
use borrow.Author.Tests.{leb-true, ltb-true, le-leb, lt-ltb}
use Rattle.std.proofs.lemmas.Bool.{and_parts}
use Rattle.lists.specs.Lists.{tab}
use Rattle.lists.proofs.Tables.{length_tab, get_or_tab}
use Rattle.render_target.specs.Clear.{span_of, element_at}
use Rattle.scissor.proofs.Boxes.{same_truth}
use Rattle.std.proofs.lemmas.Bool.{and_parts}

-- a table over a list's places
module _ {A : Type 0} (f : ℕ → A) (z : A) (l : List A) where
  pub at_places : (i : ℕ) → i < length l → get_or (tab (length l) f) i z ≡ f i
  at_places i h = get_or_tab f (length l) i z h

  -- it is the list m where f gives each element of m
  pub table_is : (m : List A) → length m ≡ length l → ((i : ℕ) → i < length l → f i ≡ get_or m i z) → tab (length l) f ≡ m
  table_is m e g =
      ext_get_or z (tab (length l) f) m (length_tab f (length l) ∙ sym e)
      (λ i h. let k : i < length l = rw (length_tab f (length l)) at h in at_places i k ∙ g i k)

before_or_at : (e i : ℕ) → (i ≡ e → ⊥) → ltb i e ≡ ltb i (e + 1)
before_or_at e i p =
    same_truth (ltb i e) (ltb i (e + 1))
    (λ t. lt-ltb i (e + 1) (omega (arith, ltb-true i e t)))
    (λ t. lt-ltb i e (lt_of_le-ne (omega (arith, ltb-true i (e + 1) t)) p))

module _ {A : Type 0} (v : ℕ → A) (z : A) (l : List A) where
  pub length_span : (a e : ℕ) → length (span_of v z a e l) ≡ length l
  unfolding span_of
  length_span a e = length_tab _ (length l)

  pub span_at : (a e i : ℕ) → i < length l → get_or (span_of v z a e l) i z ≡ cond (leb a i && ltb i e) (v i) (get_or l i z)
  unfolding span_of
  span_at a e i h = at_places _ z l i h

  pub span_none : (a e : ℕ) → e ≤ a → l ≡ span_of v z a e l
  unfolding span_of
  span_none a e h = sym (table_is _ z l l refl (λ i k. out i (leb a i && ltb i e) refl))
    where
      out : (i : ℕ) (t : Bool) → (leb a i && ltb i e) ≡ t → cond t (v i) (get_or l i z) ≡ get_or l i z
      out i false p = refl
      out i true p = absurd (omega (arith, leb-true a i (and_parts (leb a i) (ltb i e) p).0, ltb-true i e (and_parts (leb a i) (ltb i e) p).1))

  -- one element more
  more_at : (a e i : ℕ) → a ≤ e → e < length l → i < length l → Dec (i ≡ e) → get_or (set (span_of v z a e l) e (v e)) i z ≡ get_or (span_of v z a (e + 1) l) i z
  more_at a e i h k j (yes p) =
      rw p
      (get_or-set_same (span_of v z a e l) e (v e) z (omega (arith, length_span a e))
      ∙ sym (span_at a (e + 1) e k ∙ rw (le-leb a e h, lt-ltb e (e + 1) (omega arith))))
  more_at a e i h k j (no p) =
      get_or-set_other (span_of v z a e l) e i (v e) z p ∙ span_at a e i j
      ∙ ap (λ (t : Bool). cond (leb a i && t) (v i) (get_or l i z)) (before_or_at e i p)
      ∙ sym (span_at a (e + 1) i j)

  pub span_more : (a e : ℕ) → a ≤ e → e < length l → set (span_of v z a e l) e (v e) ≡ span_of v z a (e + 1) l
  span_more a e h k =
      let long : length (set (span_of v z a e l) e (v e)) ≡ length l = length-set (span_of v z a e l) e (v e) ∙ length_span a e in
      ext_get_or z (set (span_of v z a e l) e (v e)) (span_of v z a (e + 1) l) (long ∙ sym (length_span a (e + 1)))
      (λ i j. more_at a e i h k (rw long at j) (ℕ_discrete i e))

-- element i of pixel p, of those before pixel e
pub within : (k : ℕ) {p e i : ℕ} → p < e → i < k → p * k + i < e * k
within k {p} h j = omega (arith, suc-mul p k, mul-le-mul_right k h)

-- that element more
pub element_more : {A : Type 0} (k : ℕ) (value : List A) (z : A) (l : List A) (a p i : ℕ) → i < k → a ≤ p → p * k + i < length l
    → set (span_of (element_at k value z) z (a * k) (p * k + i) l) (p * k + i) (get_or value i z) ≡ span_of (element_at k value z) z (a * k) (p * k + (i + 1)) l
element_more k value z l a p i h j n =
    let v = element_at k value z in
    let e : get_or value i z ≡ v (p * k + i) = ap (λ (x : ℕ). get_or value x z) (sym (digits_mod p h)) in
    let m : p * k + i + 1 ≡ p * k + (i + 1) = omega arith in
    rw e (span_more v z l (a * k) (p * k + i) (omega (arith, mul-le-mul_right k j)) n) ∙ ap (λ (x : ℕ). span_of v z (a * k) x l) m
