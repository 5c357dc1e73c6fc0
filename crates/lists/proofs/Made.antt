-- What array::from_fn makes of a closure that keeps its state is a table. Assumes nothing.
use mathlib.Core.Path.{◌≡◌, refl, sym, subst, ◌∙◌}
use mathlib.Core.List.{List}
use Prim.Native.Nat.{ℕ, zero, suc, ◌+◌, ◌≤◌, ◌<◌}
use native.Mathlib.Nat.{le_refl}
use native.Mathlib.Decide.{dec_lt}
use native.Mathlib.Omega.{arith}
use denote.Param.Members.{Mut}
use lib.ListN.{length, get_or, take}
use lib.Seq.{take-suc, take_all}
use Rattle.std.specs.Fn.{Called}
use Rattle.std.specs.Array.{IsFromFnResult, IsFromFnResultFrom}
use Rattle.lists.specs.Lists.{tab}

module _ {F B : Type 0} (g : Mut F (ℕ × Unit {0}) B) (f : F) (h : ℕ → B) (each : (i : ℕ) (q : F) (y : B) → Called g f (i, tt) y q → (q ≡ f) × (y ≡ h i)) where
  first_or_later : (ys : List B) (i n j : ℕ) (q : F) (y : B) → get_or ys i (h i) ≡ y → Called g f (i, tt) y q
      → (suc i ≤ j → j < suc i + n → get_or ys j (h j) ≡ h j) → i ≤ j → j < i + suc n → Dec (i < j) → get_or ys j (h j) ≡ h j
  first_or_later ys i n j q y e c r a b (yes k) = r (omega arith) (omega arith)
  first_or_later ys i n j q y e c r a b (no k) =
      let s : j ≡ i = omega arith in rw s (e ∙ (each i q y c).1)

  element : (ys : List B) (n i : ℕ) (p : F) → p ≡ f → IsFromFnResultFrom g p ys i n → (j : ℕ) → i ≤ j → j < i + n → get_or ys j (h j) ≡ h j
  element ys zero i p e m j a b = absurd (omega arith)
  element ys (suc n) i p e m j a b =
      let c = subst (λ x. Called g x (i, tt) m.1 m.0) e m.3 in
      first_or_later ys i n j m.0 m.1 (m.2.1 (h i)) c
      (λ u v. element ys n (i + 1) m.0 (each i m.0 m.1 c).0 m.4 j (omega arith) (omega arith)) a b (dec_lt i j)

  front : (ys : List B) (n : ℕ) → length ys ≡ n → ((j : ℕ) → j < n → get_or ys j (h j) ≡ h j) → (k : ℕ) → k ≤ n → take k ys ≡ tab k h
  unfolding tab
  front ys n e m zero l = refl
  front ys n e m (suc k) l = rw (take-suc ys k (h k) (omega arith), front ys n e m k (omega arith), m k (omega arith))

  pub tab_from_fn : (n : ℕ) (ys : List B) → IsFromFnResult g f ys n → ys ≡ tab n h
  tab_from_fn n ys r =
      sym (take_all n ys (rw r.long (le_refl n)))
      ∙ front ys n r.long (λ j l. element ys n 0 f refl r.each j (omega arith) (omega arith)) n (le_refl n)
