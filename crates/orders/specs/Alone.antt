-- Beyond document 01, "Demand 3 in full": the law behind plans, over any machine. Guests whose footprints, each guest alone, are apart may
-- come in any order.
use Rattle.std.specs.Prelude.{◌≡◌, ◌⊎◌, ◌≢◌, true, List, [], ◌∷◌}
use Rattle.settings.specs.declared.ScissorBox.{ScissorBox}
use Rattle.isolation.specs.Machine.{Guest, Local, Machine, Turns, next, run, answers_of, bill_of, play}
use Rattle.guests.specs.Calls.{Shared}
use Rattle.guest_draws.specs.EveryCall.{GuestCall}
use Rattle.orders.specs.Orders.{Interleaves, guest_machine}
use Rattle.orders.specs.Plans.{Plan, Ready}

module _ {State Answer Place Call : Type 0} (M : Machine State Answer Place Call) where
  -- at some call of the list, made one after the other from s with nobody else about, P holds of the call and the state that it finds
  abbrev pub AtSome : (Call → State → Type 0) → List Call → State → Type 0
  AtSome P [] s = ⊥
  AtSome P (c ∷ cs) s = P c s ⊎ AtSome P cs (next M c s)

  -- a guest with these calls, alone from s, reads the place; writes it
  abbrev pub ReadsAlone : List Call → State → Place → Type 0
  ReadsAlone cs s l = AtSome (λ c t. (M.act c).Reads t l) cs s

  abbrev pub WritesAlone : List Call → State → Place → Type 0
  WritesAlone cs s l = AtSome (λ c t. (M.act c).writes t l ≡ true) cs s

  -- what one guest writes alone no other reads or writes alone
  abbrev pub ApartAlone : (Guest → List Call) → State → Type 0
  ApartAlone lists s = (g h : Guest) → g ≢ h → (l : Place) → WritesAlone (lists g) s l → ReadsAlone (lists h) s l ⊎ WritesAlone (lists h) s l → ⊥

  -- then in every order each guest has what it has alone, and every order leaves the same at every place
  pub record AnyOrderAlone (lists : Guest → List Call) (s : State) : Type 0 where
    pub answers : (ms : Turns M) → Interleaves M lists ms → (g : Guest) → answers_of M g ms s ≡ (play M (lists g) s).answers
    pub bills : (ms : Turns M) → Interleaves M lists ms → (g : Guest) → bill_of M g ms s ≡ (play M (lists g) s).bill
    pub left : (ms ns : Turns M) → Interleaves M lists ms → Interleaves M lists ns → (l : Place) → M.places.Same l (run M ms s) (run M ns s)

  -- THE LAW, where every call keeps the two laws of a call
  abbrev pub ApartIsEnough : Type 0
  ApartIsEnough = ((c : Call) → Local M.places (M.act c)) → (lists : Guest → List Call) (s : State) → ApartAlone lists s → AnyOrderAlone lists s

-- for the calls of demand 3, with the whole state in the end
abbrev pub CallsApart : Type 0
CallsApart = (window : Guest → ScissorBox) (lists : Guest → List GuestCall) (s : Shared) → ApartAlone (guest_machine window) lists s
    → AnyOrderAlone (guest_machine window) lists s
    × ((ms ns : Turns (guest_machine window)) → Interleaves (guest_machine window) lists ms → Interleaves (guest_machine window) lists ns
    → run (guest_machine window) ms s ≡ run (guest_machine window) ns s)

-- what a plan allows is apart alone
abbrev pub PlanApart : Type 0
PlanApart = (plan : Plan) (lists : Guest → List GuestCall) (s : Shared) → Ready plan lists s → ApartAlone (guest_machine plan.window) lists s
