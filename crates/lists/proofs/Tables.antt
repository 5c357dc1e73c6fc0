-- A loop that fills a list from the front, one store a turn: after n turns the list is `tab n f ++ drop n d`. Assumes nothing.
use mathlib.Core.Path.{◌≡◌, refl, sym, ◌∙◌}
use mathlib.Core.List.{List, [], ◌∷◌, ◌++◌, append-nil}
use Prim.Native.Nat.{ℕ, zero, suc, ◌+◌, ◌≤◌, ◌<◌}
use native.Mathlib.Numerals.{add-one}
use native.Mathlib.Decide.{dec_lt}
use native.Mathlib.Omega.{arith}
use lib.ListN.{length, get_or, set, drop, length-append, drop_of_length-le, get_or-append}
use lib.Seq.{drop-cons, set_at, append_snoc, get_or_at}
use Rattle.lists.specs.Lists.{tab}

module _ {A : Type 0} (f : ℕ → A) where
  pub length_tab : (n : ℕ) → length (tab n f) ≡ n
  unfolding tab
  length_tab zero = refl
  length_tab (suc n) = length-append (tab n f) (f n ∷ []) ∙ rw (length_tab n, add-one)

  pub tab_none : (d : List A) → d ≡ tab 0 f ++ drop 0 d
  unfolding tab
  tab_none d = refl

  pub tab_more : (n : ℕ) (d : List A) → n < length d → set (tab n f ++ drop n d) n (f n) ≡ tab (n + 1) f ++ drop (n + 1) d
  unfolding tab
  tab_more n d h =
      rw (add-one, drop-cons d n (f n), set_at (tab n f) (get_or d n (f n)) (drop (suc n) d) (f n) n (length_tab n))
      (sym (append_snoc (tab n f) (f n) (drop (suc n) d)))

  pub tab_all : (n : ℕ) (d : List A) → length d ≤ n → tab n f ++ drop n d ≡ tab n f
  tab_all n d h = rw (drop_of_length-le d h, append-nil)

  last_or_before : (n i : ℕ) (z : A) → (i < n → get_or (tab n f) i z ≡ f i) → i < suc n → Dec (i < n) → get_or (tab n f ++ (f n ∷ [])) i z ≡ f i
  last_or_before n i z ih h (yes k) = rw (get_or-append (tab n f) (f n ∷ []) z i (rw (length_tab n) k)) (ih k)
  last_or_before n i z ih h (no k) = let e : i ≡ n = omega arith in rw e (get_or_at (tab n f) (f n) [] z n (length_tab n))

  -- what stands at i
  pub get_or_tab : (n i : ℕ) (z : A) → i < n → get_or (tab n f) i z ≡ f i
  unfolding tab
  get_or_tab zero i z h = absurd (omega arith)
  get_or_tab (suc n) i z h = last_or_before n i z (λ k. get_or_tab n i z k) h (dec_lt i n)

-- the first n elements alone count
pub tab_same : {A : Type 0} (n : ℕ) (f g : ℕ → A) → ((i : ℕ) → i < n → f i ≡ g i) → tab n f ≡ tab n g
unfolding tab
tab_same zero f g h = refl
tab_same (suc n) f g h = rw (tab_same n f g (λ i k. h i (omega arith)), h n (omega arith))
