-- The checks before 8 as those of the settings, and then 6. Assumes nothing.
use mathlib.Core.Path.{◌≡◌, refl, sym}
use mathlib.Core.Bool.{cond}
use mathlib.Core.List.{List, []}
use Prim.Native.Nat.{ℕ}
use native.Mathlib.Omega.{arith}
use Rattle.lists.proofs.Choice.{was_true}
use Rattle.answers.specs.declared.Refusal.{Refusal}
use Rattle.answers.specs.Numbers.{refusal_number}
use Rattle.answers.proofs.Answered.{refused_pos}
use Rattle.settings.specs.declared.TextureStage.{TextureStage}
use Rattle.settings.specs.declared.PipelineState.{PipelineState}
use Rattle.scissor.specs.Check.{target_fits, scissor_fits}
use Rattle.scissor.proofs.Outcome.{through}
use Rattle.draw_checks.specs.Checks.{all_below, viewport_fits, state_fits, fog_fits, stages_fit, early_check}
use Rattle.draw_checks.proofs.Passed.{some}

module _ (width height colors depths : ℕ) (s : PipelineState) where
  -- past 1, 2, 3, 4 and 7 there is 6 alone
  pub early_rest : (stages : List TextureStage) (n : ℕ) → early_check width height colors depths s [] 0 ≡ 0 → cond (stages_fit stages n) 0 6 ≡ early_check width height colors depths s stages n
  unfolding early_check
  early_rest stages n e =
      let a = was_true (target_fits width height colors depths) e (some 1 refl) in
      let b = was_true (scissor_fits s.scissor) a.1 (some 2 refl) in
      let c = was_true (viewport_fits s.viewport) b.1 (some 3 refl) in
      let d = was_true (state_fits s) c.1 (some 4 refl) in
      let f = was_true (fog_fits s) d.1 (some 7 refl) in
      rw (a.0, b.0, c.0, d.0, f.0)

  -- and one of them refuses whatever the stages are
  pub early_refused : (stages : List TextureStage) (n : ℕ) (why : Refusal) → refusal_number why ≡ early_check width height colors depths s [] 0 → refusal_number why ≡ early_check width height colors depths s stages n
  unfolding early_check stages_fit all_below
  early_refused stages n why e =
      sym (through (target_fits width height colors depths) 1
      (through (scissor_fits s.scissor) 2
      (through (viewport_fits s.viewport) 3
      (through (state_fits s) 4
      (through (fog_fits s) 7 (λ z. absurd (omega (arith, refused_pos why, z))))))) (sym e))
