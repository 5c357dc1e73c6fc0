-- A guest's bill is the cost of its own answers, added up; so is that of the guest alone. Assumes nothing.
use mathlib.Core.Path.{◌≡◌, refl, ap}
use mathlib.Core.Bool.{Bool, true, false, cond}
use mathlib.Core.List.{List, [], ◌∷◌}
use Prim.Native.Nat.{ℕ, ◌+◌}
use lib.Dec.{eqb}
use Rattle.isolation.specs.Machine.{Guest, Machine, Turns, next, answer, answers_of, bill_of, play}

abbrev pub total : {Answer : Type 0} → (Answer → ℕ) → List Answer → ℕ
total f [] = 0
total f (a ∷ l) = f a + total f l

module _ {State Answer Place Call : Type 0} (M : Machine State Answer Place Call) where
  pub bill_is : (g : Guest) (ms : Turns M) (s : State) → bill_of M g ms s ≡ total M.cost (answers_of M g ms s)
  unfolding bill_of answers_of
  bill_is g [] s = refl
  bill_is g (m ∷ ms) s = go (eqb m.who g) (bill_is g ms (next M m.call s))
    where
      go : (b : Bool) → bill_of M g ms (next M m.call s) ≡ total M.cost (answers_of M g ms (next M m.call s))
          → cond b (M.cost (answer M m.call s) + bill_of M g ms (next M m.call s)) (bill_of M g ms (next M m.call s))
          ≡ total M.cost (cond b (answer M m.call s ∷ answers_of M g ms (next M m.call s)) (answers_of M g ms (next M m.call s)))
      go true e = ap (λ k. M.cost (answer M m.call s) + k) e
      go false e = e

  pub bill_alone : (cs : List Call) (s : State) → (play M cs s).bill ≡ total M.cost (play M cs s).answers
  unfolding play
  bill_alone [] s = refl
  bill_alone (c ∷ cs) s = ap (λ k. M.cost (answer M c s) + k) (bill_alone cs (next M c s))
