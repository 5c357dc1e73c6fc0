-- Document 01, DEMAND 3 in full: lists of clear colour, clear depth, draw, define, patch, set a parameter and new record, by any number of
-- guests, refused ones too.
use Rattle.std.specs.Prelude.{List}
use Rattle.settings.specs.declared.ScissorBox.{ScissorBox}
use Rattle.isolation.specs.Machine.{Guest, Turn}
use Rattle.guests.specs.Calls.{Shared}
use Rattle.guests.specs.Guests.{Call, GuestAlways, GuestPremises, GuestClaim}
use Rattle.guest_draws.specs.Draw.{DrawCall, drawing, scissor_of}

-- a call of any of these kinds, with its own arguments
abbrev pub GuestCall : Type 0
GuestCall = Call DrawCall

-- whatever the guests' windows: of every list, from every state, the premises give the claim (frames, specs/Windows.antt)
abbrev pub EveryCall : (Guest → ScissorBox) → Type 0
EveryCall window = (ms : List (Turn GuestCall)) (s : Shared) → GuestPremises drawing scissor_of window ms s → GuestClaim drawing scissor_of window ms s

-- and of every list, from every state, with no premise: the sizes stay, and a whole target that 1 refuses ends as it began
abbrev pub EveryList : (Guest → ScissorBox) → Type 0
EveryList window = (ms : List (Turn GuestCall)) (s : Shared) → GuestAlways drawing scissor_of window ms s
