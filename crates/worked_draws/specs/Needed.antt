-- Lists with draws that each break one premise and meet the others, and of which the claim is false; and what holds of one all the same.
use Rattle.std.specs.Prelude.{◌≡◌, List, [], ◌∷◌, zero, suc, length, replicate, Some}
use Rattle.floats.specs.Num.{zero32, one32}
use Rattle.settings.specs.declared.ScissorBox.{ScissorBox}
use Rattle.isolation.specs.Machine.{Guest, Turn, Moment, run}
use Rattle.frames.specs.State.{Place}
use Rattle.frames.specs.Windows.{During, Disjoint, Inside, TexturesApart, BytesApart}
use Rattle.guests.specs.Calls.{Shared}
use Rattle.guests.specs.Guests.{clear_depth, draw, define_level, meaning, InBox, InWindow, bad_target, GuestClaim}
use Rattle.guest_draws.specs.Draw.{drawing, scissor_of}
use Rattle.guest_draws.specs.EveryCall.{GuestCall}
use Rattle.worked_guests.specs.Worked.{window, column}
use Rattle.worked_draws.specs.Worked.{start, torn, left_half, turn, M}

-- no two windows share a pixel: here both guests have the left column, and guest 1 sets the depth that guest 0's draw meets
abbrev pub one_window : Guest → ScissorBox
one_window zero = column 0 9
one_window (suc zero) = column 0 9
one_window (suc (suc g)) = column 0 0

abbrev pub overdrawn : List (Turn GuestCall)
overdrawn = turn 0 (clear_depth (Some (column 0 9)) one32) ∷ turn 1 (clear_depth (Some (column 0 9)) zero32) ∷ turn 0 (draw (left_half 3 zero32)) ∷ []

-- every draw has a box within its guest's window: here guest 1 draws in guest 0's
abbrev pub out_of_bounds : List (Turn GuestCall)
out_of_bounds = turn 0 (clear_depth (Some (column 0 9)) one32) ∷ turn 1 (draw (left_half 3 zero32)) ∷ []

-- no guest writes a texture that another reads or writes: here guest 1 empties the level that guest 0 then draws with
abbrev pub fought : List (Turn GuestCall)
fought =
    turn 0 (clear_depth (Some (column 0 9)) one32)
    ∷ turn 0 (define_level 0 0 1 1 0 (5 ∷ 6 ∷ 7 ∷ 8 ∷ []))
    ∷ turn 1 (define_level 0 0 0 0 0 [])
    ∷ turn 0 (draw (left_half 0 zero32))
    ∷ []

-- no guest reads a texel byte that another wrote last: here guest 1 defines its own texture over the bytes that guest 0 then draws with
abbrev pub overwritten : List (Turn GuestCall)
overwritten =
    turn 0 (clear_depth (Some (column 0 9)) one32)
    ∷ turn 0 (define_level 0 0 1 1 0 (5 ∷ 6 ∷ 7 ∷ 8 ∷ []))
    ∷ turn 1 (define_level 1 0 1 1 0 (9 ∷ 9 ∷ 9 ∷ 9 ∷ []))
    ∷ turn 0 (draw (left_half 0 zero32))
    ∷ []

-- The premises on the windows w and the list ms, and that the claim is false of them.
module _ (w : Guest → ScissorBox) (ms : List (Turn GuestCall)) where
  abbrev pub WindowsApart : Type 0
  WindowsApart = Disjoint (meaning drawing scissor_of) (InBox drawing scissor_of) (InWindow w) bad_target start

  abbrev pub BoxesInside : Type 0
  BoxesInside = Inside (meaning drawing scissor_of) (InBox drawing scissor_of) (InWindow w) bad_target ms start

  abbrev pub Textures : Type 0
  Textures = TexturesApart (meaning drawing scissor_of) (InBox drawing scissor_of) (InWindow w) bad_target ms start

  abbrev pub Bytes : Type 0
  Bytes = BytesApart (meaning drawing scissor_of) (InBox drawing scissor_of) (InWindow w) bad_target ms start

  abbrev pub Refuted : Type 0
  Refuted = GuestClaim drawing scissor_of w ms start → ⊥

-- All premises but one hold, and the claim does not.
abbrev pub WindowsNeeded : Type 0
WindowsNeeded = BoxesInside one_window overdrawn × Textures one_window overdrawn × Bytes one_window overdrawn × Refuted one_window overdrawn

abbrev pub BoxesNeeded : Type 0
BoxesNeeded = WindowsApart window out_of_bounds × Textures window out_of_bounds × Bytes window out_of_bounds × Refuted window out_of_bounds

abbrev pub TexturesNeeded : Type 0
TexturesNeeded = WindowsApart window fought × BoxesInside window fought × Bytes window fought × Refuted window fought

abbrev pub BytesNeeded : Type 0
BytesNeeded = WindowsApart window overwritten × BoxesInside window overwritten × Textures window overwritten × Refuted window overwritten

-- With no premise: at guest 1's draw in guest 0's window, and after it, the sizes are those of the start, and a target that 1 refuses is
-- whole.
pub record NoPremise : Type 0 where
  pub store_at_each : (e : Moment Shared Place GuestCall)
      → During (meaning drawing scissor_of) (InBox drawing scissor_of) (InWindow window) bad_target e out_of_bounds start → length e.before.store ≡ 12
  pub width_stays : (run M out_of_bounds start).width ≡ 4
  pub height_stays : (run M out_of_bounds start).height ≡ 1
  pub colors_stay : length (run M out_of_bounds start).colors ≡ 16
  pub depths_stay : length (run M out_of_bounds start).depths ≡ 4
  pub store_stays : length (run M out_of_bounds start).store ≡ 12
  pub whole : ((run M out_of_bounds torn).colors ≡ replicate 15 7)
      × ((run M out_of_bounds torn).depths ≡ zero32 ∷ zero32 ∷ zero32 ∷ one32 ∷ [])
