-- The list of calls, the guests' windows, and the statement: the calls as 01 has them, with the draw as a parameter.
use Rattle.std.specs.Prelude.{◌≡◌, Bool, true, not, List, ℕ, Float, Option, Some}
use Rattle.settings.specs.declared.ScissorBox.{ScissorBox}
use Rattle.scissor.specs.Scissor.{pixel_in}
use Rattle.scissor.specs.Check.{target_fits}
use Rattle.isolation.specs.Machine.{Guest, Act, Turn}
use Rattle.frames.specs.State.{Place, Answer}
use Rattle.frames.specs.Windows.{Owed, Always, Premises, Claim}
use Rattle.guests.specs.Calls as Calls
use Rattle.guests.specs.Calls.{Shared}

-- A call with its own arguments, image bytes included. A texture is known by a number. Draw: the arguments of a draw.
pub data Call (Draw : Type 0) : Type 0 where
  clear_color : Option ScissorBox → List ℕ → Call Draw
  clear_depth : Option ScissorBox → Float → Call Draw
  draw : Draw → Call Draw
  define_level : ℕ → ℕ → ℕ → ℕ → ℕ → List ℕ → Call Draw
  patch_level : ℕ → ℕ → ℕ → ℕ → ℕ → ℕ → List ℕ → Call Draw
  set_parameter : ℕ → ℕ → ℕ → Call Draw
  new_record : ℕ → Call Draw

-- 01: a window is a box as a scissor is; its pixels are those of the target in it
abbrev pub InWindow : (Guest → ScissorBox) → ℕ → ℕ → Guest → ℕ → Type 0
InWindow window width height g p = pixel_in width height (Some (window g)) p ≡ true

-- 1 refuses the target
abbrev pub bad_target : ℕ → ℕ → ℕ → ℕ → Bool
bad_target width height colors depths = not (target_fits width height colors depths)

-- drawing: what a draw means, by its definition. scissorOf: the scissor of its settings.
module _ {Draw : Type 0} (drawing : Draw → Act Shared Answer Place) (scissor_of : Draw → Option ScissorBox) where
  abbrev pub meaning : Call Draw → Act Shared Answer Place
  meaning (clear_color b rgba) = Calls.clear_color b rgba
  meaning (clear_depth b v) = Calls.clear_depth b v
  meaning (draw d) = drawing d
  meaning (define_level n k w h place rgba) = Calls.define_level n k w h place rgba
  meaning (patch_level n k x y w h rgba) = Calls.patch_level n k x y w h rgba
  meaning (set_parameter n code value) = Calls.set_parameter n code value
  meaning (new_record n) = Calls.new_record n

  -- The pixels of a target in the call's scissor box. An absent scissor is the whole target. Only clears and draws have one.
  abbrev pub InBox : ℕ → ℕ → Call Draw → ℕ → Type 0
  InBox width height (clear_color b rgba) p = pixel_in width height b p ≡ true
  InBox width height (clear_depth b v) p = pixel_in width height b p ≡ true
  InBox width height (draw d) p = pixel_in width height (scissor_of d) p ≡ true
  InBox width height (define_level n k w h place rgba) p = ⊥
  InBox width height (patch_level n k x y w h rgba) p = ⊥
  InBox width height (set_parameter n code value) p = ⊥
  InBox width height (new_record n) p = ⊥

  module _ (window : Guest → ScissorBox) where
    -- What a draw owes: see frames, specs/Windows.antt.
    abbrev pub DrawOwes : Draw → Type 0
    DrawOwes d = Owed meaning InBox (InWindow window) bad_target (draw d)

    abbrev pub GuestAlways : List (Turn (Call Draw)) → Shared → Type 0
    GuestAlways = Always meaning InBox (InWindow window) bad_target

    abbrev pub GuestPremises : List (Turn (Call Draw)) → Shared → Type 0
    GuestPremises = Premises meaning InBox (InWindow window) bad_target

    abbrev pub GuestClaim : List (Turn (Call Draw)) → Shared → Type 0
    GuestClaim = Claim meaning InBox (InWindow window) bad_target

    -- THE STATEMENT, for a draw that owes what every call owes. With the draw of 01 in its place it is demand 3: guest_draws, specs/EveryCall.antt.
    abbrev pub EachAsAlone : Type 0
    EachAsAlone = ((d : Draw) → DrawOwes d) → (ms : List (Turn (Call Draw))) (s : Shared) → GuestPremises ms s → GuestClaim ms s

    -- And what holds with no premise.
    abbrev pub AlwaysHolds : Type 0
    AlwaysHolds = ((d : Draw) → DrawOwes d) → (ms : List (Turn (Call Draw))) (s : Shared) → GuestAlways ms s

-- ---- Lists without a draw

abbrev pub no_drawing : ⊥ → Act Shared Answer Place
no_drawing d = absurd d

abbrev pub no_scissor : ⊥ → Option ScissorBox
no_scissor d = absurd d

-- Calls of every kind but the draw, by any number of guests: the statement with no draw in the list.
abbrev pub CallsWithoutDraws : (Guest → ScissorBox) → Type 0
CallsWithoutDraws window = (ms : List (Turn (Call ⊥))) (s : Shared) → GuestPremises no_drawing no_scissor window ms s → GuestClaim no_drawing no_scissor window ms s
