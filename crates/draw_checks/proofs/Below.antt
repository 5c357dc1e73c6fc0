-- A test of 0, 1, .., n - 1. Assumes nothing.
use mathlib.Core.Bool.{Bool, true, false, cond, ◌&&◌}
use mathlib.Core.Path.{◌≡◌, refl, sym, ap, ◌∙◌}
use Prim.Native.Nat.{ℕ, zero, suc, ◌<◌, ◌≤◌}
use native.Mathlib.Numerals.{add-one}
use native.Mathlib.Nat.{le_refl}
use native.Mathlib.Decide.{dec_lt}
use native.Mathlib.Omega.{arith}
use mathlib.Core.List.{List}
use lib.ListN.{length, take, get_or}
use lib.Seq.{take_all}
use Rattle.std.specs.List.{list_all}
use Rattle.std.proofs.lemmas.List.{take_more}
use Rattle.std.proofs.lemmas.List.Folds.{list_all-append}
use Rattle.std.proofs.lemmas.Bool.{false≢true}
use Rattle.lists.proofs.Choice.{was_true}
use Rattle.draw_checks.specs.Checks.{all_below}

module _ (f : ℕ → Bool) where
  pub below_at : (n : ℕ) → all_below n f ≡ true → (i : ℕ) → i < n → f i ≡ true
  unfolding all_below
  below_at zero e i b = absurd (omega arith)
  below_at (suc n) e i b =
      let all = was_true (all_below n f) e false≢true in
      go all.1 (below_at n all.0 i) (dec_lt i n)
    where
      go : f n ≡ true → (i < n → f i ≡ true) → Dec (i < n) → f i ≡ true
      go h r (yes k) = r k
      go h r (no k) = let s : i ≡ n = omega arith in rw s h

either_both : (a b : Bool) → (a && (b && true)) ≡ cond a b false
either_both true true = refl
either_both true false = refl
either_both false b = refl

-- the first n elements of a list, each read by its index
pub below_take : {A : Type 0} (f : A → Bool) (xs : List A) (d : A) (n : ℕ) → n ≤ length xs → list_all f (take n xs) ≡ all_below n (λ i. f (get_or xs i d))
unfolding all_below
below_take f xs d zero h = refl
below_take f xs d (suc n) h =
    rw (← add-one n, take_more xs n d (omega arith), list_all-append)
    (rw (below_take f xs d n (omega arith)) (either_both _ _))

-- and all of them
pub below_all : {A : Type 0} (f : A → Bool) (xs : List A) (d : A) → list_all f xs ≡ all_below (length xs) (λ i. f (get_or xs i d))
below_all f xs d = ap (list_all f) (sym (take_all (length xs) xs (le_refl (length xs)))) ∙ below_take f xs d (length xs) (le_refl (length xs))
