-- The parts of a joined list: what stands at the i-th, how a list of lists of lists joins, and equal parts. Assumes nothing.
use mathlib.Core.Path.{◌≡◌, refl, sym, ap, ◌∙◌}
use mathlib.Core.List.{List, ◌++◌, append-nil, append_assoc}
use Prim.Native.Nat.{ℕ, zero, suc, ◌+◌, ◌*◌, ◌≤◌, ◌<◌}
use native.Mathlib.Nat.{zero-mul, suc-mul, add-zero, add-suc, le_refl, mul-le-mul_right}
use native.Mathlib.Decide.{dec_lt}
use native.Mathlib.Omega.{arith}
use lib.ListN.{length, take, drop, length-drop, take-append-drop}
use lib.Seq.{take_all, take-append-le, drop_at, drop-append-le}
use Rattle.lists.specs.Lists.{flat}
use Rattle.lists.proofs.Rows.{length_flat}

module _ {A : Type 0} where
  -- a part that lies within the first b elements
  pub part_of_part : (l : List A) (a k b : ℕ) → a + k ≤ length (take b l) → take k (drop a l) ≡ take k (drop a (take b l))
  part_of_part l a k b h =
      let fits : a ≤ length (take b l) = omega arith in
      let room : k ≤ length (drop a (take b l)) = simp length-drop (omega arith) in
      ap (λ m. take k (drop a m)) (sym (take-append-drop b l))
      ∙ ap (λ m. take k m) (drop-append-le a (take b l) (drop b l) fits)
      ∙ take-append-le k (drop a (take b l)) (drop b l) room

  -- the first n lists alone count
  pub flat_ext : (f g : ℕ → List A) (n : ℕ) → ((i : ℕ) → i < n → f i ≡ g i) → flat n f ≡ flat n g
  unfolding flat
  flat_ext f g zero h = refl
  flat_ext f g (suc n) h = rw (flat_ext f g n (λ i k. h i (omega arith)), h n (omega arith))

  pub flat_add : (f : ℕ → List A) (m n : ℕ) → flat (m + n) f ≡ flat m f ++ flat n (λ i. f (m + i))
  unfolding flat
  flat_add f m zero = rw add-zero (sym (append-nil (flat m f)))
  flat_add f m (suc n) =
      rw (add-suc, flat_add f m n) (append_assoc (flat m f) (flat n (λ i. f (m + i))) (f (m + n)))

  -- n lists that join m each
  pub flat_flat : (f : ℕ → List A) (m n : ℕ) → flat n (λ i. flat m (λ j. f (i * m + j))) ≡ flat (n * m) f
  unfolding flat
  flat_flat f m zero = rw zero-mul refl
  flat_flat f m (suc n) = rw (flat_flat f m n, suc-mul) (sym (flat_add f (n * m) m))

module _ {A : Type 0} (k : ℕ) (f : ℕ → List A) (len : (n : ℕ) → length (f n) ≡ k) where
  last_or_before : (n i : ℕ) → (i < n → take k (drop (i * k) (flat n f)) ≡ f i) → i < suc n → Dec (i < n)
      → take k (drop (i * k) (flat n f ++ f n)) ≡ f i
  last_or_before n i ih h (yes p) =
      let room : i * k + k ≤ n * k = omega (arith, suc-mul i k, mul-le-mul_right k p) in
      let first : i * k ≤ length (flat n f) = rw (length_flat k f len n) (omega arith) in
      let whole : k ≤ length (drop (i * k) (flat n f)) = simp (length-drop, length_flat k f len n) (omega arith) in
      rw (drop-append-le (i * k) (flat n f) (f n), take-append-le k (drop (i * k) (flat n f)) (f n)) (ih p)
  last_or_before n i ih h (no p) =
      let e : i ≡ n = omega arith in
      rw (e, drop_at (flat n f) (f n) (n * k) (length_flat k f len n)) (take_all k (f n) (rw (len n) (le_refl k)))

  -- what stands at the i-th
  pub flat_part : (n i : ℕ) → i < n → take k (drop (i * k) (flat n f)) ≡ f i
  unfolding flat
  flat_part zero i h = absurd (omega arith)
  flat_part (suc n) i h = last_or_before n i (λ p. flat_part n i p) h (dec_lt i n)
