-- Guest after guest, each with all its calls, is one of the orders, and on a yes its run shows all. Assumes nothing.
use mathlib.Core.Path.{◌≡◌, refl, ap, ◌∙◌, subst}
use mathlib.Core.List.{List, [], ◌∷◌, ◌++◌, map, append-nil}
use Prim.Native.Nat.{zero, suc, ◌+◌, ◌<◌}
use native.Mathlib.Omega.{arith}
use lib.ListN.{get_or}
use borrow.Author.Tests.{eq-eqb, ne_eqb}
use Rattle.isolation.specs.Machine.{Guest, Turn, only}
use Rattle.guest_draws.specs.EveryCall.{GuestCall}
use Rattle.orders.specs.Orders.{guest_machine}
use Rattle.orders.specs.Tests.{Entry, no_guest, plan_of, turns_from, in_turn, InTurn, OneRun}
use Rattle.orders.proofs.Tests.{yes_any_order}

module _ (guests : List Entry) where
  abbrev own : Guest → List (Turn GuestCall) → List GuestCall
  own g ms = only (guest_machine (plan_of guests).window) g ms

  abbrev turns_of : Guest → List GuestCall → List (Turn GuestCall)
  turns_of k cs = map (λ c. record { who = k; call = c }) cs

  -- one guest's calls, before the others'
  same_guest : (g : Guest) (cs : List GuestCall) (ms : List (Turn GuestCall)) → own g (turns_of g cs ++ ms) ≡ cs ++ own g ms
  unfolding only
  same_guest g [] ms = refl
  same_guest g (c ∷ cs) ms = rw (eq-eqb g g refl) (ap (λ l. c ∷ l) (same_guest g cs ms))

  other_guest : (g k : Guest) → (k ≡ g → ⊥) → (cs : List GuestCall) (ms : List (Turn GuestCall)) → own g (turns_of k cs ++ ms) ≡ own g ms
  unfolding only
  other_guest g k n [] ms = refl
  other_guest g k n (c ∷ cs) ms = rw (ne_eqb k g n) (other_guest g k n cs ms)

  -- the guests from k on have none of an earlier guest's calls
  earlier : (l : List Entry) (g k : Guest) → g < k → own g (turns_from k l) ≡ []
  unfolding only turns_from
  earlier [] g k b = refl
  earlier (e ∷ l) g k b = other_guest g k (λ q. omega arith) e.calls (turns_from (k + 1) l) ∙ earlier l g (k + 1) (omega arith)

  at_place : (l : List Entry) (i g k : Guest) → g ≡ k + i → own g (turns_from k l) ≡ (get_or l i no_guest).calls
  unfolding only turns_from
  at_place [] i g k q = refl
  at_place (e ∷ l) zero g k q = subst (λ (j : Guest). own g (turns_of j e.calls ++ turns_from (k + 1) l) ≡ e.calls) (omega arith)
      (same_guest g e.calls (turns_from (k + 1) l) ∙ rw (earlier l g (k + 1) (omega arith), append-nil))
  at_place (e ∷ l) (suc i) g k q = other_guest g k (λ p. omega arith) e.calls (turns_from (k + 1) l) ∙ at_place l i g (k + 1) (omega arith)

-- the statement of specs/Tests.antt
pub in_turn_is : InTurn
in_turn_is guests g = at_place guests guests g g 0 (omega arith)

pub one_run : OneRun
one_run guests s e ms same = (yes_any_order guests s e).left ms (in_turn guests) same (in_turn_is guests)
