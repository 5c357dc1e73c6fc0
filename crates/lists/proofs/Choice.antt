-- Which side a `cond` takes, once its test is known, and what a `cond`'s value says of its test. Assumes nothing.
use mathlib.Core.Path.{◌≡◌, refl, sym, ◌∙◌}
use mathlib.Core.Bool.{Bool, true, false, cond, not}
use borrow.Author.Tests.{not-true, not-false}

-- the side that is left out is `_` at a use
-- Kept: cond-true of std has the cond on the left, and takes its test and both sides; here they are found at each use (8f)
pub yes : {A : Type 0} {r x : A} {b : Bool} (y : A) → b ≡ true → r ≡ x → r ≡ cond b x y
yes y h e = rw h e

-- Kept: as yes, of cond-false (8f)
pub no : {A : Type 0} {r y : A} {b : Bool} (x : A) → b ≡ false → r ≡ y → r ≡ cond b x y
no x h e = rw h e

-- the same where a call gave the test's value t and the code tests `!t`: it went on, or it left
pub stay : {A : Type 0} {r x : A} {t b : Bool} (y : A) → t ≡ b → not t ≡ false → r ≡ x → r ≡ cond b x y
stay {t = t} y e h q = yes y (sym e ∙ not-false t h) q

pub leave : {A : Type 0} {r y : A} {t b : Bool} (x : A) → t ≡ b → not t ≡ true → r ≡ y → r ≡ cond b x y
leave {t = t} x e h q = no x (sym e ∙ not-true t h) q

pub was_so : {t b : Bool} → t ≡ b → not t ≡ false → b ≡ true
was_so {t = t} e h = sym e ∙ not-false t h

pub was_not : {t b : Bool} → t ≡ b → not t ≡ true → b ≡ false
was_not {t = t} e h = sym e ∙ not-true t h

-- what a value of a `cond` that only one side can have says of the test
module _ {A : Type 0} {x y z : A} where
  pub was_false : (b : Bool) → cond b x y ≡ z → (x ≡ z → ⊥) → (b ≡ false) × (y ≡ z)
  was_false true e n = absurd (n e)
  was_false false e n = (refl, e)

  pub was_true : (b : Bool) → cond b x y ≡ z → (y ≡ z → ⊥) → (b ≡ true) × (x ≡ z)
  was_true true e n = (refl, e)
  was_true false e n = absurd (n e)

pub neither : (b : Bool) → cond b false false ≡ false
neither true = refl
neither false = refl
