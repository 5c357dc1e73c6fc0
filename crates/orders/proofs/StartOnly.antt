-- The test looks at the sizes and the records at the start, and at nothing else of the state. Assumes nothing.
use mathlib.Core.Path.{◌≡◌, refl}
use mathlib.Core.Bool.{true, cond, ◌&&◌}
use mathlib.Core.List.{List}
use Prim.Native.Nat.{ℕ}
use lib.ListN.{length}
use Rattle.std.specs.Prelude as Std
use Rattle.lists.specs.Lists.{all}
use Rattle.settings.specs.declared.ScissorBox.{ScissorBox}
use Rattle.levels.specs.Levels.{levels_of}
use Rattle.draw_checks.specs.Checks.{all_below}
use Rattle.isolation.specs.Machine.{Guest}
use Rattle.frames.specs.State.{SameSizes}
use Rattle.guests.specs.Calls.{Shared}
use Rattle.guests.specs.Guests.{clear_color, clear_depth, draw, define_level, patch_level, set_parameter, new_record}
use Rattle.guest_draws.specs.Draw.{names_of, scissor_of}
use Rattle.guest_draws.specs.EveryCall.{GuestCall}
use Rattle.orders.specs.Tests.{Entry, entry_at, plan_of, calls_of, covered, is_own, may_use, level_test, tidy_test, box_test, own_test, use_test, call_test, turn_test, pair_test, may_start, LooksAtTheStart}
use Rattle.orders.proofs.Admitted.{admitted_same}

module _ (guests : List Entry) (s t : Shared) (z : SameSizes s t) (e : (n : ℕ) → s.textures n ≡ t.textures n) where
  tidy_same : (n : ℕ) → tidy_test guests s n ≡ tidy_test guests t n
  unfolding tidy_test
  tidy_same n = λ i. all (level_test guests ((plan_of guests).name n)) (levels_of (e n i).levels)

  box_same : (g : Guest) (b : Std.Option ScissorBox) → box_test guests s g b ≡ box_test guests t g b
  box_same g b = rw (z.same_width, z.same_height)

  own_same : (g : Guest) (n : ℕ) → own_test guests s g n ≡ own_test guests t g n
  own_same g n = λ i. is_own g ((plan_of guests).name n) && tidy_same n i

  use_same : (g : Guest) (n : ℕ) → use_test guests s g n ≡ use_test guests t g n
  use_same g n = λ i. may_use g ((plan_of guests).name n) && tidy_same n i

  call_same : (g : Guest) (c : GuestCall) → call_test guests s g c ≡ call_test guests t g c
  call_same g (clear_color b rgba) = box_same g b
  call_same g (clear_depth b v) = box_same g b
  call_same g (draw x) = λ i. box_same g (scissor_of x) i && all (λ n. use_same g n i) (names_of x)
  call_same g (define_level n k w h place rgba) = λ i. own_same g n i && covered (entry_at guests g).parts place (length rgba)
  call_same g (patch_level n k x y w h rgba) = own_same g n
  call_same g (set_parameter n code value) = own_same g n
  call_same g (new_record n) = refl

  turn_same : (g : Guest) (c : GuestCall) → turn_test guests s g c ≡ turn_test guests t g c
  turn_same g c = λ i. cond (admitted_same s t z c i) (call_same g c i) true

  pair_same : (g h : Guest) → pair_test guests s g h ≡ pair_test guests t g h
  pair_same g h = rw (z.same_width, z.same_height)

  start_only : may_start guests s ≡ may_start guests t
  unfolding may_start
  start_only = λ i.
      all_below (length guests) (λ h. all_below h (λ g. pair_same g h i)) && all_below (length guests) (λ g. all (λ c. turn_same g c i) (calls_of guests g))

-- the statement of specs/Tests.antt
pub looks_at_the_start : LooksAtTheStart
looks_at_the_start guests s t z e = start_only guests s t z e
