-- The two halves of a draw's answer: the refusal's number is its quotient by 2^32 and the count of pixel writes its remainder, since no
-- count reaches 2^32. Assumes nothing.
use Prim.Native.Nat.{ℕ, ◌*◌, ◌/◌, ◌%◌, ◌<◌}
use mathlib.Core.Path.{◌≡◌, refl, sym}
use mathlib.Core.Bool.{Bool, true, false, cond, true≢false}
use mathlib.Core.List.{List, []}
use native.Mathlib.Nat.{mul-le-mul}
use native.Mathlib.Omega.{arith}
use borrow.Author.Tests.{eqb-true}
use lib.Dec.{eqb}
use lib.ListN.{length}
use lib.Ieee.{Float}
use Rattle.std.proofs.Common.{unwrap_or}
use Rattle.levels.specs.declared.Texture.{Texture}
use Rattle.scissor.specs.Check.{target_fits}
use Rattle.scissor.proofs.Outcome.{target_is}
use Rattle.frames.specs.State.{Answer, refused, cost}
use Rattle.pixels.specs.Way.{drawing}
use Rattle.draw_checks.specs.Checks.{early_check, late_check}
use Rattle.draw.specs.Draw.{DrawArgs, Outcome, outcome, drew_all, bound_to, draw_check, draw_passed, draw_of}
use Rattle.draw_checks.proofs.Passed.{early_target}
use Rattle.draw.proofs.Passed.{zero_first}
use Rattle.draw_reads.proofs.Few.{count_few}
use Rattle.draw_layouts.specs.Settings.{read_settings}
use Rattle.draw_layouts.specs.Stages.{read_stages}
use Rattle.draw_layouts.specs.Vertices.{read_vertices}
use Rattle.tilefringe.specs.DrawCalls.{called, draw_number, refused_by, called_of, args_of, units_of, all_known, draw_call}

-- an answer whose halves are the refusal's number and the count
abbrev ToldApart : ℕ → Answer → Type 0
ToldApart n a = (n / 4294967296 ≡ refused_by a) × (n % 4294967296 ≡ cost a)

module _ (store : List ℕ) (width height : ℕ) (x : DrawArgs) (units : List Texture) (cs : List ℕ) (ds : List Float) where
  abbrev number : ℕ
  number = draw_check width height (length cs) (length ds) (length store) x units

  fits : eqb number 0 ≡ true → target_fits width height (length cs) (length ds) ≡ true
  unfolding draw_check
  fits e =
      early_target width height (length cs) (length ds) x.state x.stages x.count
      (zero_first (early_check width height (length cs) (length ds) x.state x.stages x.count)
      (late_check (length store) x.count (bound_to x.stages x.count units) x.a x.b x.c) (eqb-true _ 0 e))

  -- at most 40 x 4,096 x 4,096 pixel writes
  count_fits : eqb number 0 ≡ true → (draw_passed store width height x units cs ds).count < 4294967296
  unfolding draw_passed
  count_fits e =
      let t = target_is width height (length cs) (length ds) (fits e) in
      let d = drawing x.state x.stages x.count (bound_to x.stages x.count units) in
      omega (arith, count_few store d width height x.a x.b x.c cs ds, mul-le-mul t.0 t.1)

  pub draw_told_apart : let a = (draw_of store width height x units cs ds).answer in ToldApart (draw_number a) a
  unfolding draw_of
  draw_told_apart = go (eqb number 0) refl
    where
      either : Bool → Outcome
      either y = cond y (drew_all (draw_passed store width height x units cs ds)) (outcome (refused number) cs ds)

      go : (y : Bool) → eqb number 0 ≡ y → ToldApart (draw_number (either y).answer) (either y).answer
      go true e = (omega (arith, count_fits e), omega (arith, count_fits e))
      go false e = (omega arith, omega arith)

-- over the layouts
module _ (store : List ℕ) (width height : ℕ) (units settings stages vertices : List ℕ) (cs : List ℕ) (ds : List Float) where
  abbrev known : Bool
  known = all_known (units_of (read_stages stages) units) (read_settings settings) (read_stages stages) (read_vertices vertices)

  abbrev drew : Outcome
  drew = draw_of store width height (args_of (read_settings settings) (read_stages stages) (read_vertices vertices)) (unwrap_or (units_of (read_stages stages) units) []) cs ds

  pub told_apart : known ≡ true → ToldApart (draw_call store width height units settings stages vertices cs ds).answer drew.answer
  unfolding draw_call
  told_apart e = go known e
    where
      go : (y : Bool) → y ≡ true → ToldApart (cond y (called_of drew) (called (255 * 4294967296) cs ds)).answer drew.answer
      go true e = draw_told_apart store width height (args_of (read_settings settings) (read_stages stages) (read_vertices vertices)) (unwrap_or (units_of (read_stages stages) units) []) cs ds
      go false e = absurd (true≢false (sym e))

  pub wrong_layout : known ≡ false → (draw_call store width height units settings stages vertices cs ds).answer ≡ 255 * 4294967296
  unfolding draw_call
  wrong_layout e = go known e
    where
      go : (y : Bool) → y ≡ false → (cond y (called_of drew) (called (255 * 4294967296) cs ds)).answer ≡ 255 * 4294967296
      go true e = absurd (true≢false e)
      go false e = refl
