-- Which way a draw takes. Assumes nothing.
use mathlib.Core.Path.{◌≡◌, refl, ◌∙◌}
use mathlib.Core.Bool.{Bool, true, false, cond}
use mathlib.Core.List.{List}
use Prim.Native.Nat.{ℕ}
use lib.Dec.{eqb}
use lib.ListN.{length}
use lib.Ieee.{Float}
use borrow.Author.Tests.{eqb-true}
use Rattle.lists.proofs.Choice.{no}
use Rattle.answers.specs.declared.Refusal.{Refusal}
use Rattle.answers.specs.Numbers.{refusal_number}
use Rattle.answers.proofs.Answered.{refused_test}
use Rattle.levels.specs.declared.Texture.{Texture}
use Rattle.settings.specs.declared.TextureStage.{TextureStage}
use Rattle.settings.specs.declared.PipelineState.{PipelineState}
use Rattle.vertices.specs.declared.Vertex.{Vertex}
use Rattle.screen.specs.Screen.{viewport_draws}
use Rattle.frames.specs.State.{refused}
use Rattle.frames.specs.Gather.{Drawn}
use Rattle.pixels.specs.Way.{Drawing, drawing, drawn_to}
use Rattle.raster.specs.Fill.{drawn_of}
use Rattle.draw_checks.specs.Checks.{early_check, late_check}
use Rattle.draw.specs.Draw.{draw_args, bound_to, draw_check, draw_passed, outcome, drew_all, draw_of}

-- two checks, the second only where the first gives 0: where both give 0 the first does
pub zero_first : (n m : ℕ) → cond (eqb n 0) m n ≡ 0 → n ≡ 0
zero_first n m e = go (eqb n 0) refl
  where
    go : (b : Bool) → eqb n 0 ≡ b → n ≡ 0
    go true h = eqb-true n 0 h
    go false h = no m h refl ∙ e

-- a viewport without a side draws nothing
module _ (store : List ℕ) (d : Drawing) (width height : ℕ) (a b c : Vertex) (s : Drawn) where
  pub no_viewport : viewport_draws d.state.viewport ≡ false → s ≡ drawn_of store d width height a b c s
  unfolding drawn_of
  no_viewport e = rw e

-- ---- the three ways of a call

module _ (store : List ℕ) (width height : ℕ) (s : PipelineState) (stages : List TextureStage) (n : ℕ) (a b c : Vertex) (units : List Texture) (cs : List ℕ) (ds : List Float) where
  abbrev early : ℕ
  early = early_check width height (length cs) (length ds) s stages n

  abbrev late : ℕ
  late = late_check (length store) n (bound_to stages n units) a b c

  pub refused_early : (why : Refusal) → refusal_number why ≡ early → outcome (refused (refusal_number why)) cs ds ≡ draw_of store width height (draw_args s stages n a b c) units cs ds
  unfolding draw_of draw_check
  refused_early why e = let t = refused_test why early e in rw (t, t, ← e)

  pub refused_late : (why : Refusal) → early ≡ 0 → refusal_number why ≡ late → outcome (refused (refusal_number why)) cs ds ≡ draw_of store width height (draw_args s stages n a b c) units cs ds
  unfolding draw_of draw_check
  refused_late why e f = let t = refused_test why late f in rw (e, t, ← f)

  pub drew_it : {r : Drawn} → early ≡ 0 → late ≡ 0 → r ≡ drawn_of store (drawing s stages n (bound_to stages n units)) width height a b c (drawn_to cs ds 0)
      → drew_all r ≡ draw_of store width height (draw_args s stages n a b c) units cs ds
  unfolding draw_of draw_check draw_passed
  drew_it e f h = rw (e, f, h)
