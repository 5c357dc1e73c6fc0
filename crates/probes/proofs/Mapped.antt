-- A loop that stores f 0, f 1, .. in the places of a list of n, for every f. Assumes nothing.
use Prim.Native.Nat.{ℕ, ◌+◌, ◌<◌, ◌≤◌}
use mathlib.Core.Path.{◌≡◌, sym, ◌∙◌}
use mathlib.Core.List.{List, ◌++◌}
use native.Mathlib.Omega.{arith}
use lib.ListN.{length, set, drop, length-set}
use Rattle.lists.specs.Lists.{tab}
use Rattle.lists.proofs.Tables.{tab_none, tab_more, tab_all}

-- after i turns out is out₀ with its first i places filled
pub record Mapped {A : Type 0} (f : ℕ → A) (n : ℕ) (out₀ out : List A) (i : ℕ) : Type 0 where
  pub filled : out ≡ tab i f ++ drop i out₀
  pub within : i ≤ n
  pub sized : n ≡ length out₀
  pub kept : n ≡ length out

pub mapped_none : {A : Type 0} (f : ℕ → A) {n : ℕ} {out : List A} → n ≡ length out → Mapped f n out out 0
mapped_none f {n} {out} sized = record { filled = tab_none f out; within = omega arith; sized = sized; kept = sized }

module _ {A : Type 0} {f : ℕ → A} {n : ℕ} {out₀ out : List A} {i : ℕ} (m : Mapped f n out₀ out i) where
  pub mapped_more : {x : A} → i < n → x ≡ f i → Mapped f n out₀ (set out i x) (i + 1)
  mapped_more {x} h e = record {
    filled = rw (m.filled, e) (tab_more f i out₀ (omega (arith, m.sized)));
    within = omega arith;
    sized = m.sized;
    kept = m.kept ∙ sym (length-set out i x);
  }

  pub mapped_all : n ≤ i → out ≡ tab n f
  mapped_all h = let e : i ≡ n = omega (arith, m.within) in m.filled ∙ rw e (tab_all f n out₀ (omega (arith, m.sized)))
