-- What `all` and `any` say of the element at an index. Assumes nothing.
use mathlib.Core.Bool.{Bool, true, false}
use mathlib.Core.Path.{◌≡◌}
use mathlib.Core.List.{List, [], ◌∷◌}
use Prim.Native.Nat.{ℕ, zero, suc, ◌+◌, ◌<◌}
use native.Mathlib.Numerals.{add-one}
use lib.ListN.{length, get_or, drop}
use lib.Seq.{drop-cons}
use Rattle.std.proofs.lemmas.Bool.{and_parts, or_parts}
use Rattle.std.proofs.lemmas.List.Elements.{All-from_get_or}
use Rattle.std.proofs.lemmas.List.Folds.{list_any_none}
use Rattle.std.proofs.lemmas.List.Sums.{list_all-from_AllPass}
use Rattle.lists.specs.Lists.{any, all}

module _ {A : Type 0} (f : A → Bool) (d : A) where
  -- past the end the default stands
  -- Kept: All-get_or of std is of an index within the list; this is of every index, with the default past the end (8f)
  pub all_get_d : (l : List A) → all f l ≡ true → f d ≡ true → (i : ℕ) → f (get_or l i d) ≡ true
  all_get_d [] e z i = z
  all_get_d (x ∷ l) e z zero = (and_parts (f x) (all f l) e).0
  all_get_d (x ∷ l) e z (suc i) = all_get_d l (and_parts (f x) (all f l) e).1 z i

  -- Kept: std's, for an index and a default, as its uses in levels and texture have them (8f)
  pub get_or_all : (l : List A) → ((i : ℕ) → i < length l → f (get_or l i d) ≡ true) → all f l ≡ true
  get_or_all l h = list_all-from_AllPass f l (All-from_get_or (λ x. f x ≡ true) l d h)

  -- Kept: as all_get_d; std has no lemma of a list_any that is false (8f)
  pub any_get_or : (l : List A) → any f l ≡ false → f d ≡ false → (i : ℕ) → f (get_or l i d) ≡ false
  any_get_or [] e z i = z
  any_get_or (x ∷ l) e z zero = (or_parts (f x) (any f l) e).0
  any_get_or (x ∷ l) e z (suc i) = any_get_or l (or_parts (f x) (any f l) e).1 z i

  -- Kept: as get_or_all (8f)
  pub get_d_any : (l : List A) → ((i : ℕ) → i < length l → f (get_or l i d) ≡ false) → any f l ≡ false
  get_d_any l h = list_any_none f l (All-from_get_or (λ x. f x ≡ false) l d h)

-- what is left from an index on
-- Kept: list_all_more of std is of the elements before an index; docs/PORT.md named this one at the commit at which the design pass began, so that it has to stand (8f)
pub all_are_on : {A : Type 0} (f : A → Bool) (l : List A) (d : A) (i : ℕ) → i < length l → f (get_or l i d) ≡ true → all f (drop (i + 1) l) ≡ all f (drop i l)
all_are_on f l d i h e = rw (drop-cons l i d, e, add-one i)
