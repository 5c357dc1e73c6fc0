-- What stands where in lists of one length that are joined. Assumes nothing.
use mathlib.Core.Path.{◌≡◌, sym, ap, ◌∙◌}
use mathlib.Core.List.{List, ◌++◌}
use Prim.Native.Nat.{ℕ, zero, suc, ◌+◌, ◌*◌, ◌<◌}
use native.Mathlib.Nat.{suc-mul, mul-le-mul_right}
use native.Mathlib.Decide.{dec_lt}
use native.Mathlib.Omega.{arith}
use lib.ListN.{length, get_or, get_or-append}
use lib.Seq.{get_or-append-add}
use Rattle.lists.specs.Lists.{flat}
use Rattle.lists.proofs.Rows.{length_flat}

module _ {A : Type 0} (k : ℕ) (f : ℕ → List A) (len : (n : ℕ) → length (f n) ≡ k) (z : A) where
  last_or_before : (n i j : ℕ) → (i < n → get_or (flat n f) (i * k + j) z ≡ get_or (f i) j z) → i < suc n → j < k → Dec (i < n)
      → get_or (flat n f ++ f n) (i * k + j) z ≡ get_or (f i) j z
  last_or_before n i j r h q (yes o) =
      get_or-append (flat n f) (f n) z (i * k + j) (omega (arith, length_flat k f len n, suc-mul i k, mul-le-mul_right k o)) ∙ r o
  last_or_before n i j r h q (no o) =
      let e : i ≡ n = omega arith in
      rw e (ap (λ (p : ℕ). get_or (flat n f ++ f n) (p + j) z) (sym (length_flat k f len n)) ∙ get_or-append-add (flat n f) (f n) j z)

  pub get_or_flat : (n i j : ℕ) → i < n → j < k → get_or (flat n f) (i * k + j) z ≡ get_or (f i) j z
  unfolding flat
  get_or_flat zero i j h q = absurd (omega arith)
  get_or_flat (suc n) i j h q = last_or_before n i j (λ o. get_or_flat n i j o q) h q (dec_lt i n)
