-- A loop that writes k elements a turn, from the front: after n turns the list is `flat n f ++ drop (n * k) d`. Assumes nothing.
use mathlib.Core.Path.{◌≡◌, sym, ◌∙◌}
use mathlib.Core.List.{List, ◌++◌, append-nil}
use Prim.Native.Nat.{ℕ, zero, suc, ◌+◌, ◌*◌, ◌≤◌, ◌<◌}
use native.Mathlib.Nat.{zero-mul, suc-mul, le_refl}
use native.Mathlib.Numerals.{add-one}
use native.Mathlib.Omega.{arith}
use lib.ListN.{length, take, drop, length-append, drop_of_length-le}
use lib.Seq.{paste, take_at, take_all, drop-append-add, drop-drop}
use Rattle.std.proofs.lemmas.Nat.{row_fits}
use Rattle.lists.specs.Lists.{flat}

module _ {A : Type 0} (k : ℕ) (f : ℕ → List A) (len : (n : ℕ) → length (f n) ≡ k) where
  pub length_flat : (n : ℕ) → length (flat n f) ≡ n * k
  unfolding flat
  length_flat zero = sym (zero-mul k)
  length_flat (suc n) = length-append (flat n f) (f n) ∙ rw (length_flat n, len n, suc-mul)

  pub flat_none : (d : List A) → d ≡ flat 0 f ++ drop (0 * k) d
  unfolding flat
  flat_none d = rw zero-mul

  pub flat_more : (n : ℕ) (d : List A) → paste (flat n f ++ drop (n * k) d) (n * k) (f n) k ≡ flat (n + 1) f ++ drop ((n + 1) * k) d
  unfolding flat
  flat_more n d =
      let p = flat n f in
      let t : take (n * k) (p ++ drop (n * k) d) ≡ p = take_at p (drop (n * k) d) (n * k) (length_flat n) in
      let u : take k (f n) ≡ f n = take_all k (f n) (rw (len n) (le_refl k)) in
      let v : drop (n * k + k) (p ++ drop (n * k) d) ≡ drop (n * k + k) d =
      rw (sym (length_flat n)) (drop-append-add p (drop (length p) d) k ∙ drop-drop k (length p) d) in
      rw (t, u, v, add-one, suc-mul)

  pub flat_all : (n : ℕ) (d : List A) → length d ≤ n * k → flat n f ++ drop (n * k) d ≡ flat n f
  flat_all n d h = rw (drop_of_length-le d h, append-nil)

-- the q-th of m rows of c has room for w from x on
-- Kept: row_fits of std is of a whole row, from which this follows for a part of one (8f)
pub row_in : (q m c x w : ℕ) → q < m → x + w ≤ c → q * c + x + w ≤ m * c
row_in q m c x w h i = omega (arith, row_fits q c m c h (le_refl c))
