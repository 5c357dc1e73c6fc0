-- Where a rule is broken two orders leave different colours. Assumes nothing.
use mathlib.Core.Path.{◌≡◌, refl, sym, ap, ◌∙◌}
use mathlib.Core.Bool.{true}
use mathlib.Core.List.{List, [], ◌∷◌}
use Prim.Native.Nat.{ℕ, zero, suc, ◌≤◌}
use native.Mathlib.Omega.{arith}
use lib.Dec.{ltb}
use lib.ListN.{get_or}
use borrow.Author.Tests.{ltb-true, ne_eqb}
use Rattle.lists.specs.Lists.{all}
use Rattle.std.proofs.lemmas.Bool.{and_parts}
use Rattle.isolation.specs.Machine.{Guest, Turn, only}
use Rattle.guest_draws.specs.EveryCall.{GuestCall}
use Rattle.orders.specs.Orders.{SameCalls, guest_machine}
use Rattle.worked_guests.specs.Worked.{window}
use Rattle.worked_draws.proofs.Opened.{opened}
use Rattle.worked_orders.specs.Differ.{clears, defines, draws, wipes, empties, covers, PixelsMatter, TexturesMatter, BytesMatter}

-- the calls of a guest past the two are none
none_of : (g : Guest) (ms : List (Turn GuestCall)) → all (λ m. ltb m.who 2) ms ≡ true → 2 ≤ g → only (guest_machine window) g ms ≡ []
unfolding only
none_of g [] e h = refl
none_of g (m ∷ ms) e h =
    let a = and_parts (ltb m.who 2) (all (λ n. ltb n.who 2) ms) e in
    rw (ne_eqb m.who g (λ q. omega (arith, ltb-true m.who 2 a.0, q, h))) (none_of g ms a.1 h)

pub two : (ms ns : List (Turn GuestCall)) → only (guest_machine window) 0 ms ≡ only (guest_machine window) 0 ns → only (guest_machine window) 1 ms ≡ only (guest_machine window) 1 ns
    → all (λ m. ltb m.who 2) ms ≡ true → all (λ m. ltb m.who 2) ns ≡ true → SameCalls (guest_machine window) ms ns
two ms ns a b e f zero = a
two ms ns a b e f (suc zero) = b
two ms ns a b e f (suc (suc g)) = none_of (suc (suc g)) ms e (omega arith) ∙ sym (none_of (suc (suc g)) ns f (omega arith))

pub pixels_matter : PixelsMatter
unfolding opened
pixels_matter = (two (wipes ∷ clears ∷ defines ∷ draws ∷ []) (clears ∷ wipes ∷ defines ∷ draws ∷ []) refl refl refl refl, λ e. let z : ◌≡◌ {A = ℕ} 5 0 = ap (λ l. get_or l 0 0) e in omega arith)

pub textures_matter : TexturesMatter
unfolding opened
textures_matter = (two (empties ∷ clears ∷ defines ∷ draws ∷ []) (clears ∷ defines ∷ empties ∷ draws ∷ []) refl refl refl refl, λ e. let z : ◌≡◌ {A = ℕ} 5 255 = ap (λ l. get_or l 0 0) e in omega arith)

pub bytes_matter : BytesMatter
unfolding opened
bytes_matter = (two (covers ∷ clears ∷ defines ∷ draws ∷ []) (clears ∷ defines ∷ covers ∷ draws ∷ []) refl refl refl refl, λ e. let z : ◌≡◌ {A = ℕ} 5 9 = ap (λ l. get_or l 0 0) e in omega arith)
