-- A list taken as cells of k elements: what a copy over one cell leaves in each, a list known by its cells, and a run of copies that joins.
-- Assumes nothing.
use mathlib.Core.Path.{◌≡◌, sym, ap, ◌∙◌}
use mathlib.Core.List.{List, ◌++◌, append_assoc}
use Prim.Native.Nat.{ℕ, zero, suc, ◌+◌, ◌-◌, ◌*◌, ◌≤◌, ◌<◌}
use native.Mathlib.Nat.{zero-mul, suc-mul, mul-le-mul_right, le_refl}
use native.Mathlib.Numerals.{add-one}
use native.Mathlib.Decide.{dec_lt}
use native.Mathlib.Omega.{arith}
use lib.ListN.{length, take, drop, length-append, length-drop, take-append-drop}
use lib.Seq.{paste, paste-zero, take-paste, drop-paste, length-take-le, take_all, drop-drop, take-append-le, drop-append-le, drop_at}
use Rattle.lists.specs.Lists.{flat}
use Rattle.lists.proofs.Rows.{length_flat}
use Rattle.lists.proofs.Parts.{part_of_part}

module _ {A : Type 0} (k : ℕ) (d c : List A) (i : ℕ) (len : length c ≡ k) (fits : i * k + k ≤ length d) where
  pub cell_same : take k (drop (i * k) (paste d (i * k) c k)) ≡ c
  cell_same =
      let at : length (take (i * k) d) ≡ i * k = length-take-le (i * k) d (omega arith) in
      let whole : take k c ≡ c = take_all k c (omega arith) in
      let joined : paste d (i * k) c k ≡ take (i * k) d ++ (c ++ drop (i * k + k) d) =
      rw whole (append_assoc (take (i * k) d) c (drop (i * k + k) d)) in
      rw (joined, drop_at (take (i * k) d) (c ++ drop (i * k + k) d) (i * k) at)
      (take-append-le k c (drop (i * k + k) d) (omega arith) ∙ whole)

  pub cell_before : (j : ℕ) → j < i → take k (drop (j * k) (paste d (i * k) c k)) ≡ take k (drop (j * k) d)
  cell_before j h =
      let room : j * k + k ≤ i * k = omega (arith, suc-mul j k, mul-le-mul_right k h) in
      let front : length (take (i * k) d) ≡ i * k = length-take-le (i * k) d (omega arith) in
      let fst : j * k ≤ length (take (i * k) d) = omega arith in
      let rest : List A = take k c ++ drop (i * k + k) d in
      let big : k ≤ length (drop (j * k) (take (i * k) d)) = simp length-drop (omega arith) in
      let cut : drop (j * k) (take (i * k) d ++ rest) ≡ drop (j * k) (take (i * k) d) ++ rest =
      drop-append-le (j * k) (take (i * k) d) rest fst in
      rw (append_assoc (take (i * k) d) (take k c) (drop (i * k + k) d), cut, take-append-le k (drop (j * k) (take (i * k) d)) rest big)
      (sym (part_of_part d (j * k) k (i * k) (omega arith)))

  pub cell_after : (j : ℕ) → i < j → take k (drop (j * k) (paste d (i * k) c k)) ≡ take k (drop (j * k) d)
  cell_after j h =
      let room : i * k + k ≤ j * k = omega (arith, suc-mul i k, mul-le-mul_right k h) in
      let split : j * k ≡ i * k + k + (j * k - (i * k + k)) = omega arith in
      rw (split, ← drop-drop (j * k - (i * k + k)) (i * k + k) (paste d (i * k) c k), drop-paste d (i * k) c k (omega arith) (omega arith))
      (ap (take k) (drop-drop (j * k - (i * k + k)) (i * k + k) d))

  pub cell_other : (j : ℕ) → (j ≡ i → ⊥) → take k (drop (j * k) (paste d (i * k) c k)) ≡ take k (drop (j * k) d)
  cell_other j n = by_side (dec_lt j i)
    where
      by_side : Dec (j < i) → take k (drop (j * k) (paste d (i * k) c k)) ≡ take k (drop (j * k) d)
      by_side (yes h) = cell_before j h
      by_side (no h) = cell_after j (omega arith)

module _ {A : Type 0} (k : ℕ) (f : ℕ → List A) where
  -- a list is known by its cells
  pub flat_of_cells : (n : ℕ) (l : List A) → length l ≡ n * k → ((i : ℕ) → i < n → take k (drop (i * k) l) ≡ f i) → l ≡ flat n f
  unfolding flat
  flat_of_cells zero l e h = sym (take_all 0 l (rw (e, zero-mul) (le_refl 0)))
  flat_of_cells (suc n) l e h =
      let whole : length l ≡ n * k + k = e ∙ suc-mul n k in
      let front : length (take (n * k) l) ≡ n * k = length-take-le (n * k) l (omega arith) in
      let same : (i : ℕ) → i < n → take k (drop (i * k) (take (n * k) l)) ≡ f i =
      λ i p. sym (part_of_part l (i * k) k (n * k) (omega (arith, suc-mul i k, mul-le-mul_right k p))) ∙ h i (omega arith) in
      let last : drop (n * k) l ≡ f n = sym (take_all k (drop (n * k) l) (simp length-drop (omega arith))) ∙ h n (omega arith) in
      rw (← flat_of_cells n (take (n * k) l) front same, ← last) (sym (take-append-drop (n * k) l))

  module _ (len : (n : ℕ) → length (f n) ≡ k) (d : List A) (at : ℕ) where
    -- a row of cells that starts at `at`, written cell by cell
    pub row_none : d ≡ paste d at (flat 0 f) (0 * k)
    row_none = rw zero-mul (paste-zero d at (flat 0 f))

    pub row_more : (n : ℕ) → at + n * k + k ≤ length d
        → paste (paste d at (flat n f) (n * k)) (at + n * k) (f n) k ≡ paste d at (flat (n + 1) f) ((n + 1) * k)
    unfolding flat
    row_more n h =
        let m : length (flat n f) ≡ n * k = length_flat k f len n in
        let a : take (at + n * k) (paste d at (flat n f) (n * k)) ≡ take at d ++ take (n * k) (flat n f) =
        take-paste d at (flat n f) (n * k) (omega arith) (omega arith) in
        let b : drop (at + n * k + k) (paste d at (flat n f) (n * k)) ≡ drop (at + n * k + k) d =
        sym (drop-drop k (at + n * k) (paste d at (flat n f) (n * k)))
        ∙ ap (drop k) (drop-paste d at (flat n f) (n * k) (omega arith) (omega arith))
        ∙ drop-drop k (at + n * k) d in
        let u : take (n * k) (flat n f) ≡ flat n f = take_all (n * k) (flat n f) (omega arith) in
        let v : take k (f n) ≡ f n = take_all k (f n) (rw (len n) (le_refl k)) in
        let both : length (flat n f ++ f n) ≡ n * k + k = length-append (flat n f) (f n) ∙ rw (m, len n) in
        let z : take (n * k + k) (flat n f ++ f n) ≡ flat n f ++ f n = take_all (n * k + k) (flat n f ++ f n) (rw both (le_refl (n * k + k))) in
        let p : at + (n * k + k) ≡ at + n * k + k = omega arith in
        rw (a, b, u, v, add-one, suc-mul, z, p)
        (ap (λ l. l ++ drop (at + n * k + k) d) (append_assoc (take at d) (flat n f) (f n)))
