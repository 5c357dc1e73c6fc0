-- A draw without a stage: it is the same whatever its stages, records and texels are. Assumes nothing.
use mathlib.Core.Path.{◌≡◌, refl}
use mathlib.Core.Bool.{true}
use mathlib.Core.List.{List, []}
use Prim.Native.Nat.{ℕ}
use lib.ListN.{length}
use lib.Ieee.{Float}
use Rattle.lists.specs.Lists.{iter}
use Rattle.answers.specs.declared.Refusal.{Refusal}
use Rattle.answers.specs.Numbers.{refusal_number}
use Rattle.answers.proofs.Answered.{refused_test}
use Rattle.levels.specs.declared.Texture.{Texture}
use Rattle.settings.specs.declared.TextureStage.{TextureStage}
use Rattle.settings.specs.declared.PipelineState.{PipelineState}
use Rattle.scissor.specs.Check.{target_fits}
use Rattle.vertices.specs.declared.Vertex.{Vertex}
use Rattle.frames.specs.State.{refused}
use Rattle.frames.specs.Gather.{Drawn}
use Rattle.stages.specs.Stages.{stages_color}
use Rattle.pixels.specs.Way.{drawing, drawn_to}
use Rattle.raster.specs.Fill.{drawn_of}
use Rattle.draw_checks.specs.Checks.{all_below, stages_fit, records_fit, early_check, late_check}
use Rattle.draw_checks.proofs.Passed.{early_target}
use Rattle.draw.proofs.Passed.{zero_first}
use Rattle.draw.proofs.Same.{same_drawn}
use Rattle.draw.specs.Draw.{draw_args, bound_to, draw_check, draw_passed, outcome, drew_all, draw_of}

-- ---- the draw past its checks

pub unstaged_drawn : (s : PipelineState) (store : List ℕ) (stages : List TextureStage) (xs : List Texture) (width height : ℕ) (a b c : Vertex) (x : Drawn)
    → drawn_of store (drawing s stages 0 xs) width height a b c x ≡ drawn_of [] (drawing s [] 0 []) width height a b c x
unfolding stages_color iter
unstaged_drawn s store stages xs = same_drawn s store [] stages [] 0 0 xs [] (λ t w rec frag. refl)

-- ---- the checks

module _ (width height colors depths : ℕ) (s : PipelineState) where
  module _ (a b c : Vertex) where
    pub check_vertices : early_check width height colors depths s [] 0 ≡ 0 → late_check 0 0 [] a b c ≡ draw_check width height colors depths 0 (draw_args s [] 0 a b c) []
    unfolding draw_check late_check records_fit all_below
    check_vertices e = rw e

    pub check_refused : (why : Refusal) → refusal_number why ≡ early_check width height colors depths s [] 0 → refusal_number why ≡ draw_check width height colors depths 0 (draw_args s [] 0 a b c) []
    unfolding draw_check
    check_refused why e = rw (refused_test why _ e) e

    pub checked_target : draw_check width height colors depths 0 (draw_args s [] 0 a b c) [] ≡ 0 → target_fits width height colors depths ≡ true
    unfolding draw_check
    checked_target e = early_target width height colors depths s [] 0 (zero_first _ _ e)

-- ---- the call

module _ (width height : ℕ) (s : PipelineState) (a b c : Vertex) (cs : List ℕ) (ds : List Float) where
  pub drew_unstaged : {r : Drawn} → draw_check width height (length cs) (length ds) 0 (draw_args s [] 0 a b c) [] ≡ 0 → r ≡ drawn_of [] (drawing s [] 0 []) width height a b c (drawn_to cs ds 0)
      → drew_all r ≡ draw_of [] width height (draw_args s [] 0 a b c) [] cs ds
  unfolding draw_of draw_passed
  drew_unstaged e h = rw (e, h, unstaged_drawn s [] [] (bound_to [] 0 []) width height a b c (drawn_to cs ds 0))

  pub refused_unstaged : (why : Refusal) → refusal_number why ≡ draw_check width height (length cs) (length ds) 0 (draw_args s [] 0 a b c) []
      → outcome (refused (refusal_number why)) cs ds ≡ draw_of [] width height (draw_args s [] 0 a b c) [] cs ds
  unfolding draw_of
  refused_unstaged why e = rw (refused_test why _ e, ← e)

  -- whatever the stages, the records and the texels are
  pub unstaged_draw : (store : List ℕ) (stages : List TextureStage) (units : List Texture)
      → draw_of [] width height (draw_args s [] 0 a b c) [] cs ds ≡ draw_of store width height (draw_args s stages 0 a b c) units cs ds
  unfolding draw_of draw_passed draw_check early_check stages_fit late_check records_fit all_below
  unstaged_draw store stages units =
      rw (unstaged_drawn s [] [] (bound_to [] 0 []) width height a b c (drawn_to cs ds 0), unstaged_drawn s store stages (bound_to stages 0 units) width height a b c (drawn_to cs ds 0))
