-- Beyond document 01, "Demand 3 in full": the same calls in another order. Two lists in which each guest makes the same calls, each guest's
-- in its own order, and what is then the same.
use Rattle.std.specs.Prelude.{◌≡◌, Bool, List, ℕ}
use Rattle.settings.specs.declared.ScissorBox.{ScissorBox}
use Rattle.isolation.specs.Machine.{Guest, Act, Machine, Turn, Turns, run, answers_of, bill_of, only}
use Rattle.frames.specs.State.{State, Place, Answer}
use Rattle.frames.specs.Windows.{machine, Premises}
use Rattle.guests.specs.Calls.{Shared}
use Rattle.guests.specs.Guests.{meaning, InBox, InWindow, bad_target}
use Rattle.guest_draws.specs.Draw.{drawing, scissor_of}
use Rattle.guest_draws.specs.EveryCall.{GuestCall}

module _ {State Answer Place Call : Type 0} (M : Machine State Answer Place Call) where
  -- The two lists have the same calls of each guest, in the guest's own order. How the guests' calls lie between each other is free.
  abbrev pub SameCalls : Turns M → Turns M → Type 0
  SameCalls ms ns = (g : Guest) → only M g ms ≡ only M g ns

  -- The list has these calls of each guest, in this order, and no others: one of the orders in which the guests' lists can come together.
  abbrev pub Interleaves : (Guest → List Call) → Turns M → Type 0
  Interleaves lists ms = (g : Guest) → only M g ms ≡ lists g

module _ {Texture Call : Type 0} (act : Call → Act (State Texture) Answer Place) (Box : ℕ → ℕ → Call → ℕ → Type 0)
    (Window : ℕ → ℕ → Guest → ℕ → Type 0) (Bad : ℕ → ℕ → ℕ → ℕ → Bool) where
  abbrev M : Machine (State Texture) Answer Place Call
  M = machine act Box Window Bad

  -- Both lists, from the start s, give every guest the same answers and bill, and leave the same frame: every colour byte and every
  -- depth, in all windows and in none. 01: a NaN is the same as a NaN.
  pub record SameFrame (ms ns : List (Turn Call)) (s : State Texture) : Type 0 where
    pub answers : (g : Guest) → answers_of M g ms s ≡ answers_of M g ns s
    pub bills : (g : Guest) → bill_of M g ms s ≡ bill_of M g ns s
    pub colors : (run M ms s).colors ≡ (run M ns s).colors
    pub depths : (run M ms s).depths ≡ (run M ns s).depths

  -- Two lists with the same calls of each guest, both of which meet the premises. Both, because the rule on bytes hangs on the order.
  abbrev pub AnyOrder : Type 0
  AnyOrder = (ms ns : List (Turn Call)) (s : State Texture) → SameCalls M ms ns
      → Premises act Box Window Bad ms s → Premises act Box Window Bad ns s → SameFrame ms ns s

-- The machine of demand 3: what a call does, reads and writes. Windows play no part in it.
abbrev pub guest_machine : (Guest → ScissorBox) → Machine Shared Answer Place GuestCall
guest_machine window = machine (meaning drawing scissor_of) (InBox drawing scissor_of) (InWindow window) bad_target

-- ANY ORDER, for the calls of demand 3
abbrev pub CallsInAnyOrder : (Guest → ScissorBox) → Type 0
CallsInAnyOrder window = AnyOrder (meaning drawing scissor_of) (InBox drawing scissor_of) (InWindow window) bad_target
