-- The condition of specs/Plans.antt as a test that computes, from what each guest brings: its window, the texture names and the parts of
-- the store that are its own, and its calls. No order is in sight, and no call is made.
use Rattle.std.specs.Prelude.{◌≡◌, Bool, true, false, cond, ◌&&◌, List, [], ◌∷◌, ◌++◌, map, ℕ, ◌+◌, eqb, leb, pos, length, get_or}
use Rattle.std.specs.Prelude as Std
use Rattle.std.proofs.Math.Option.{Option, none, some}
use Rattle.lists.specs.Lists.{any, all}
use Rattle.settings.specs.declared.ScissorBox.{ScissorBox}
use Rattle.scissor.specs.declared.PixelBox.{PixelBox}
use Rattle.scissor.specs.Scissor.{bounds_of}
use Rattle.levels.specs.declared.MipLevel.{MipLevel}
use Rattle.levels.specs.Levels.{levels_of, size_of}
use Rattle.texture.specs.Define.{in_run}
use Rattle.draw_checks.specs.Checks.{all_below}
use Rattle.isolation.specs.Machine.{Guest, Turn, run}
use Rattle.frames.specs.State.{SameSizes}
use Rattle.guests.specs.Calls.{Shared}
use Rattle.guests.specs.Guests.{clear_color, clear_depth, draw, define_level, patch_level, set_parameter, new_record}
use Rattle.guest_draws.specs.Draw.{names_of, scissor_of}
use Rattle.guest_draws.specs.EveryCall.{GuestCall}
use Rattle.orders.specs.Plans.{Plan, admitted, M, Order, EveryOrder}

-- size bytes of the store from place on
pub record Part : Type 0 where
  pub place : ℕ
  pub size : ℕ

-- What a guest brings. A guest's number is its place in the list of guests.
pub record Entry : Type 0 where
  pub window : ScissorBox
  pub names : List ℕ
  pub parts : List Part
  pub calls : List GuestCall

-- past the end of the list: no pixel, no name, no byte, no call
abbrev pub no_guest : Entry
no_guest = record { window = record { x = pos 0; y = pos 0; width = pos 0; height = pos 0 }; names = []; parts = []; calls = [] }

abbrev pub entry_at : List Entry → Guest → Entry
entry_at guests g = get_or guests g no_guest

-- ---- the plan: a name or a byte is the first guest's that brings it, or nobody's

-- the place of the first element of which f holds, counted from k
unfoldable pub first : {A : Type 0} → (A → Bool) → ℕ → List A → Option ℕ
first f k [] = none
first f k (x ∷ l) = cond (f x) (some k) (first f (k + 1) l)

unfoldable pub has_byte : List Part → ℕ → Bool
has_byte l b = any (λ r. in_run r.place r.size b) l

abbrev pub plan_of : List Entry → Plan
plan_of guests = record {
  window = λ g. (entry_at guests g).window;
  name = λ n. first (λ e. any (eqb n) e.names) 0 guests;
  byte = λ b. first (λ e. has_byte e.parts b) 0 guests;
}

abbrev pub calls_of : List Entry → Guest → List GuestCall
calls_of guests g = (entry_at guests g).calls

-- ---- tests on boxes, cut to the target

-- every pixel of the first is one of the second
abbrev pub inside_of : Std.Option PixelBox → Std.Option PixelBox → Bool
inside_of Std.None b = true
inside_of (Std.Some a) Std.None = false
inside_of (Std.Some a) (Std.Some b) = (leb b.x0 a.x0 && leb a.x1 b.x1) && (leb b.y0 a.y0 && leb a.y1 b.y1)

-- no pixel of the first is one of the second: one lies left of the other, or above it
abbrev pub outside_of : Std.Option PixelBox → Std.Option PixelBox → Bool
outside_of Std.None b = true
outside_of (Std.Some a) Std.None = true
outside_of (Std.Some a) (Std.Some b) = cond (leb a.x1 b.x0) true (cond (leb b.x1 a.x0) true (cond (leb a.y1 b.y0) true (leb b.y1 a.y0)))

-- ---- tests on parts of the store

-- the n bytes at place begin and end inside a part
abbrev pub lies_in : ℕ → ℕ → Part → Bool
lies_in place n r = leb r.place place && leb (place + n) (r.place + r.size)

-- they lie in one of the parts; no bytes always do
unfoldable pub covered : List Part → ℕ → ℕ → Bool
covered l place n = cond (eqb n 0) true (any (lies_in place n) l)

-- they end before a part, or begin after it; a part of no bytes is in nobody's way
abbrev pub clear_of : ℕ → ℕ → Part → Bool
clear_of place n r = cond (eqb r.size 0) true (cond (leb (place + n) r.place) true (leb (r.place + r.size) place))

-- none of them lies in a part
unfoldable pub untouched : List Part → ℕ → ℕ → Bool
untouched l place n = cond (eqb n 0) true (all (clear_of place n) l)

-- two guests' parts share no byte
abbrev pub parts_apart : List Part → List Part → Bool
parts_apart l m = all (λ r. untouched m r.place r.size) l

-- ---- the test of one call

-- the owner is g; the owner is g or nobody
abbrev pub is_own : Guest → Option Guest → Bool
is_own g none = false
is_own g (some h) = eqb h g

abbrev pub may_use : Guest → Option Guest → Bool
may_use g none = true
may_use g (some h) = eqb h g

-- a level of a texture that is somebody's lies in one of that guest's parts; one of a texture that is nobody's lies in no part
abbrev pub level_test : List Entry → Option Guest → MipLevel → Bool
level_test guests none m = cond m.present (all (λ e. untouched e.parts m.place (size_of m)) guests) true
level_test guests (some h) m = cond m.present (covered (entry_at guests h).parts m.place (size_of m)) true

module _ (guests : List Entry) (s : Shared) where
  -- every level of the record that stands under the name at the start: Tidy
  unfoldable pub tidy_test : ℕ → Bool
  tidy_test n = all (level_test guests ((plan_of guests).name n)) (levels_of (s.textures n).levels)

  -- the box, cut to the target, lies inside the guest's window, cut to the target
  abbrev pub box_test : Guest → Std.Option ScissorBox → Bool
  box_test g b = inside_of (bounds_of s.width s.height b) (bounds_of s.width s.height (Std.Some (entry_at guests g).window))

  -- the texture is the guest's, to be written; the guest's or nobody's, to be read
  abbrev pub own_test : Guest → ℕ → Bool
  own_test g n = is_own g ((plan_of guests).name n) && tidy_test n

  abbrev pub use_test : Guest → ℕ → Bool
  use_test g n = may_use g ((plan_of guests).name n) && tidy_test n

  abbrev pub call_test : Guest → GuestCall → Bool
  call_test g (clear_color b rgba) = box_test g b
  call_test g (clear_depth b v) = box_test g b
  call_test g (draw x) = box_test g (scissor_of x) && all (use_test g) (names_of x)
  call_test g (define_level n k w h place rgba) = own_test g n && covered (entry_at guests g).parts place (length rgba)
  call_test g (patch_level n k x y w h rgba) = own_test g n
  call_test g (set_parameter n code value) = own_test g n
  call_test g (new_record n) = is_own g ((plan_of guests).name n)

  -- a call that is refused out of hand passes
  abbrev pub turn_test : Guest → GuestCall → Bool
  turn_test g c = cond (admitted s c) (call_test g c) true

  -- two guests' windows share no pixel of the target, and their parts no byte
  abbrev pub pair_test : Guest → Guest → Bool
  pair_test g h =
      outside_of (bounds_of s.width s.height (Std.Some (entry_at guests g).window)) (bounds_of s.width s.height (Std.Some (entry_at guests h).window))
      && parts_apart (entry_at guests g).parts (entry_at guests h).parts

  -- THE TEST: every pair of guests, and every call by itself
  unfoldable pub may_start : Bool
  may_start =
      all_below (length guests) (λ h. all_below h (λ g. pair_test g h))
      && all_below (length guests) (λ g. all (turn_test g) (calls_of guests g))

-- It looks at the sizes and at the records at the start, and at nothing else of the state: no pixel, no byte of the store.
abbrev pub LooksAtTheStart : Type 0
LooksAtTheStart = (guests : List Entry) (s t : Shared) → SameSizes s t → ((n : ℕ) → s.textures n ≡ t.textures n) → may_start guests s ≡ may_start guests t

-- A YES: guests that pass the test may start, and their calls may come in any order
abbrev pub Yes : Type 0
Yes = (guests : List Entry) (s : Shared) → may_start guests s ≡ true → EveryOrder (plan_of guests) (calls_of guests) s

-- ---- there is an order to begin with: guest after guest, each with all its calls

unfoldable pub turns_from : Guest → List Entry → List (Turn GuestCall)
turns_from k [] = []
turns_from k (e ∷ l) = map (λ c. record { who = k; call = c }) e.calls ++ turns_from (k + 1) l

abbrev pub in_turn : List Entry → List (Turn GuestCall)
in_turn guests = turns_from 0 guests

abbrev pub InTurn : Type 0
InTurn = (guests : List Entry) → Order (plan_of guests) (calls_of guests) (in_turn guests)

-- ONE RUN SHOWS ALL: on a yes every order leaves what guest after guest leaves
abbrev pub OneRun : Type 0
OneRun = (guests : List Entry) (s : Shared) → may_start guests s ≡ true
    → (ms : List (Turn GuestCall)) → Order (plan_of guests) (calls_of guests) ms → run (M (plan_of guests)) ms s ≡ run (M (plan_of guests)) (in_turn guests) s
