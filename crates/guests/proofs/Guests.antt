-- The statement of specs/Guests.antt: what every other kind of call owes is proved, what a draw owes is handed in. Assumes nothing.
use Rattle.std.specs.Prelude.{Option}
use Rattle.settings.specs.declared.ScissorBox.{ScissorBox}
use Rattle.isolation.specs.Machine.{Act, Guest}
use Rattle.frames.specs.State.{Place, Answer}
use Rattle.frames.specs.Windows.{Owed}
use Rattle.frames.proofs.Windows.{claim, always}
use Rattle.guests.specs.Calls.{Shared}
use Rattle.guests.specs.Guests.{Call, clear_color, clear_depth, draw, define_level, patch_level, set_parameter, new_record, meaning, InBox, InWindow, bad_target, DrawOwes, EachAsAlone, AlwaysHolds, no_drawing, no_scissor, CallsWithoutDraws}
use Rattle.guests.proofs.Clears.{clear_color_owed, clear_depth_owed}
use Rattle.guests.proofs.Settings.{set_parameter_owed}
use Rattle.guests.proofs.Defines.{define_level_owed}
use Rattle.guests.proofs.Patches.{patch_level_owed}
use Rattle.guests.proofs.NewRecords.{new_record_owed}

module _ {Draw : Type 0} (drawing : Draw → Act Shared Answer Place) (scissor_of : Draw → Option ScissorBox) (window : Guest → ScissorBox) where
  owed : ((d : Draw) → DrawOwes drawing scissor_of window d) → (c : Call Draw) → Owed (meaning drawing scissor_of) (InBox drawing scissor_of) (InWindow window) bad_target c
  owed h (clear_color b rgba) = clear_color_owed drawing scissor_of window b rgba
  owed h (clear_depth b v) = clear_depth_owed drawing scissor_of window b v
  owed h (draw d) = h d
  owed h (define_level n k w h' place rgba) = define_level_owed n k w h' place rgba drawing scissor_of window
  owed h (patch_level n k x y w h' rgba) = patch_level_owed n k x y w h' rgba drawing scissor_of window
  owed h (set_parameter n code value) = set_parameter_owed n code value drawing scissor_of window
  owed h (new_record n) = new_record_owed n drawing scissor_of window

  -- THE STATEMENT
  pub each_as_alone : EachAsAlone drawing scissor_of window
  each_as_alone h ms s = claim (meaning drawing scissor_of) (InBox drawing scissor_of) (InWindow window) bad_target (owed h) ms s

  pub always_holds : AlwaysHolds drawing scissor_of window
  always_holds h ms s = always (meaning drawing scissor_of) (InBox drawing scissor_of) (InWindow window) bad_target (owed h) ms s

-- with no draw nothing is handed in
pub calls_without_draws : (window : Guest → ScissorBox) → CallsWithoutDraws window
calls_without_draws window ms s = each_as_alone no_drawing no_scissor window (λ d. absurd d) ms s
