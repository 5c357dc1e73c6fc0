-- Choices between two answers and two states, as every call makes them between done and refused. Assumes nothing.
use mathlib.Core.Path.{◌≡◌, refl, sym, ap}
use mathlib.Core.Bool.{Bool, true, false, cond}
use Prim.Native.Nat.{ℕ}
use lib.Dec.{eqb}
use borrow.Author.Tests.{eqb-true}
use Rattle.levels.specs.declared.Texture.{Texture}
use Rattle.guests.specs.Calls.{with_texture}
use Rattle.frames.specs.State.{State, Place, sizes, pixel, byte, texture, Same, places}

pub chosen : {A B : Type 0} (b : Bool) (x y : A) (u v : B) → (cond {A = A × B} b (x, u) (y, v)).0 ≡ cond b x y
chosen true x y u v = refl
chosen false x y u v = refl

pub left : {A B : Type 0} (b : Bool) (x y : A) (u v : B) → (cond {A = A × B} b (x, u) (y, v)).1 ≡ cond b u v
left true x y u v = refl
left false x y u v = refl

pub once : (x y : Bool) → cond x (cond x y false) false ≡ cond x y false
once true y = refl
once false y = refl

-- two checks in a row are one check, by the first number that is not 0
pub one_number : {A : Type 0} (r : ℕ → A) (x : A) (a b : ℕ)
    → cond (eqb a 0) (cond (eqb b 0) x (r b)) (r a) ≡ cond (eqb (cond (eqb a 0) b a) 0) x (r (cond (eqb a 0) b a))
one_number {A} r x a b = go (eqb a 0) refl
  where
    go : (y : Bool) → eqb a 0 ≡ y → cond y (cond (eqb b 0) x (r b)) (r a) ≡ cond (eqb (cond y b a) 0) x (r (cond y b a))
    go true e = refl
    go false e = rw e refl

-- the same state at every place
pub same : (s t : State Texture) → s ≡ t → (l : Place) → Same l s t
same s t e l = rw (← e) (places.same_refl l s)

-- a record put back where it stood
pub put_back : (s : State Texture) (n : ℕ) → with_texture s n (s.textures n) s.store ≡ s
put_back s n = λ i. record { width = s.width; height = s.height; colors = s.colors; depths = s.depths; store = s.store; textures = λ m. there m (eqb m n) refl i }
  where
    there : (m : ℕ) (b : Bool) → eqb m n ≡ b → cond b (s.textures n) (s.textures m) ≡ s.textures m
    there m true e = ap (λ k. s.textures k) (sym (eqb-true m n e))
    there m false e = refl

-- a check that looks at the arguments alone
abbrev pub Nothing : Place → Type 0
Nothing l = ⊥

-- a check that looks at the sizes alone
abbrev pub JustSizes : Place → Type 0
JustSizes sizes = Unit {0}
JustSizes (pixel p) = ⊥
JustSizes (byte a) = ⊥
JustSizes (texture n) = ⊥

-- the sizes and one texture
abbrev pub SizesAnd : ℕ → Place → Type 0
SizesAnd n sizes = Unit {0}
SizesAnd n (pixel p) = ⊥
SizesAnd n (byte a) = ⊥
SizesAnd n (texture m) = m ≡ n
