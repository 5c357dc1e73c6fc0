-- Lists and runs that the definitions of this project are written with.
-- The `if` of a definition is the kit's `cond`: `cond test a b` is a where the test holds, else b.
use Rattle.std.specs.List.{list_any, list_all}
use Rattle.std.specs.Prelude.{Bool, List, [], ◌∷◌, ◌++◌, ℕ, zero, suc, ◌+◌, ◌-◌}

-- the table f 0, f 1, .., f (n - 1)
unfoldable pub tab : {A : Type 0} → ℕ → (ℕ → A) → List A
tab zero f = []
tab (suc n) f = tab n f ++ (f n ∷ [])

-- the lists f 0, f 1, .., f (n - 1), joined
unfoldable pub flat : {A : Type 0} → ℕ → (ℕ → List A) → List A
flat zero f = []
flat (suc n) f = flat n f ++ f n

-- n steps from s: step 0 first
unfoldable pub iter : {S : Type 0} → ℕ → (ℕ → S → S) → S → S
iter zero f s = s
iter (suc n) f s = f n (iter n f s)

-- n steps from s: step k first, then k + 1
unfoldable pub turns : {S : Type 0} → (ℕ → S → S) → ℕ → ℕ → S → S
turns f k zero s = s
turns f k (suc n) s = turns f (k + 1) n (f k s)

-- the steps k, k + 1, .., e - 1
unfoldable pub between : {S : Type 0} → (ℕ → S → S) → ℕ → ℕ → S → S
between f k e s = turns f k (e - k) s

-- whether f holds of an element; whether it holds of all
abbrev pub any : {A : Type 0} → (A → Bool) → List A → Bool
any = list_any

abbrev pub all : {A : Type 0} → (A → Bool) → List A → Bool
all = list_all
