-- Where one rule is broken the order shows: two orders of the same guests' calls that leave different colours. And what two orders that
-- both meet the premises may leave different: the store.
use Rattle.std.specs.Prelude.{◌≡◌, List, [], ◌∷◌, Some}
use Rattle.floats.specs.Num.{zero32, one32}
use Rattle.isolation.specs.Machine.{Turn, run}
use Rattle.guests.specs.Guests.{clear_depth, draw, define_level, GuestPremises}
use Rattle.guest_draws.specs.Draw.{drawing, scissor_of}
use Rattle.guest_draws.specs.EveryCall.{GuestCall}
use Rattle.orders.specs.Orders.{SameCalls, guest_machine}
use Rattle.worked_guests.specs.Worked.{window, column}
use Rattle.worked_draws.specs.Worked.{start, left_half, turn}

-- the same calls of each guest, and other colours in the end
abbrev pub Differ : List (Turn GuestCall) → List (Turn GuestCall) → Type 0
Differ ms ns = SameCalls (guest_machine window) ms ns × ((run (guest_machine window) ms start).colors ≡ (run (guest_machine window) ns start).colors → ⊥)

-- guest 0 has the first column, texture 0 and the first texel
abbrev pub clears : Turn GuestCall
clears = turn 0 (clear_depth (Some (column 0 9)) one32)

abbrev pub defines : Turn GuestCall
defines = turn 0 (define_level 0 0 1 1 0 (5 ∷ 6 ∷ 7 ∷ 8 ∷ []))

abbrev pub draws : Turn GuestCall
draws = turn 0 (draw (left_half 0 zero32))

-- guest 1 clears the depth of guest 0's pixel: their windows share it, or its box is past its window
abbrev pub wipes : Turn GuestCall
wipes = turn 1 (clear_depth (Some (column 0 9)) zero32)

-- guest 1 empties guest 0's texture
abbrev pub empties : Turn GuestCall
empties = turn 1 (define_level 0 0 0 0 0 [])

-- guest 1 puts a level of its own over guest 0's bytes
abbrev pub covers : Turn GuestCall
covers = turn 1 (define_level 1 0 1 1 0 (9 ∷ 9 ∷ 9 ∷ 9 ∷ []))

abbrev pub PixelsMatter : Type 0
PixelsMatter = Differ (wipes ∷ clears ∷ defines ∷ draws ∷ []) (clears ∷ wipes ∷ defines ∷ draws ∷ [])

abbrev pub TexturesMatter : Type 0
TexturesMatter = Differ (empties ∷ clears ∷ defines ∷ draws ∷ []) (clears ∷ defines ∷ empties ∷ draws ∷ [])

abbrev pub covered_first : List (Turn GuestCall)
covered_first = covers ∷ clears ∷ defines ∷ draws ∷ []

abbrev pub BytesMatter : Type 0
BytesMatter = Differ covered_first (clears ∷ defines ∷ covers ∷ draws ∷ [])

-- Guest 0 writes the bytes again before it reads them, so this order meets the premises: those of one list are not enough for both.
abbrev pub FirstMeets : Type 0
FirstMeets = GuestPremises drawing scissor_of window covered_first start

-- Two guests put levels over the same bytes, and nobody reads them: both orders meet the premises, and the store is as the last one wrote it.
pub record StoreMayDiffer : Type 0 where
  pub same : SameCalls (guest_machine window) (defines ∷ covers ∷ []) (covers ∷ defines ∷ [])
  pub one : GuestPremises drawing scissor_of window (defines ∷ covers ∷ []) start
  pub other : GuestPremises drawing scissor_of window (covers ∷ defines ∷ []) start
  pub stores : (run (guest_machine window) (defines ∷ covers ∷ []) start).store ≡ (run (guest_machine window) (covers ∷ defines ∷ []) start).store → ⊥
