-- What a draw's checks leave known. Assumes nothing.
use mathlib.Core.Path.{◌≡◌, refl}
use mathlib.Core.Bool.{true}
use mathlib.Core.List.{List}
use Prim.Native.Nat.{ℕ, suc, ◌<◌, ◌≤◌}
use native.Mathlib.Omega.{arith}
use lib.Dec.{ltb, leb}
use borrow.Author.Tests.{leb-true, ltb-true}
use Rattle.std.proofs.lemmas.Bool.{false≢true}
use Rattle.lists.proofs.Choice.{was_true}
use Rattle.levels.specs.declared.Texture.{Texture}
use Rattle.levels.specs.Levels.{valid_of}
use Rattle.settings.specs.declared.TextureStage.{TextureStage}
use Rattle.settings.specs.declared.PipelineState.{PipelineState}
use Rattle.scissor.specs.Check.{target_fits, scissor_fits}
use Rattle.vertices.specs.declared.Vertex.{Vertex}
use Rattle.stages.specs.Stages.{stage_at, texture_at, StagesFit}
use Rattle.draw_checks.specs.Checks.{viewport_fits, state_fits, fog_fits, stage_fits, stages_fit, records_fit, early_check, late_check}
use Rattle.draw_checks.proofs.Below.{below_at}

-- ---- a chain of checks that gives 0 has passed them all

-- n is no 0
pub some : (n : ℕ) {k : ℕ} → n ≡ suc k → n ≡ 0 → ⊥
some n e f = omega (arith, e, f)

module _ (width height colors depths : ℕ) (s : PipelineState) (stages : List TextureStage) (n : ℕ) (e : early_check width height colors depths s stages n ≡ 0) where
  chain : (target_fits width height colors depths ≡ true) × (stages_fit stages n ≡ true)
  unfolding early_check
  chain =
      let a = was_true (target_fits width height colors depths) e (some 1 refl) in
      let b = was_true (scissor_fits s.scissor) a.1 (some 2 refl) in
      let c = was_true (viewport_fits s.viewport) b.1 (some 3 refl) in
      let d = was_true (state_fits s) c.1 (some 4 refl) in
      let f = was_true (fog_fits s) d.1 (some 7 refl) in
      let g = was_true (stages_fit stages n) f.1 (some 6 refl) in
      (a.0, g.0)

  pub early_target : target_fits width height colors depths ≡ true
  early_target = chain.0

  pub early_stages : stages_fit stages n ≡ true
  early_stages = chain.1

-- ---- the stages that pass 6

module _ (stages : List TextureStage) (n : ℕ) (e : stages_fit stages n ≡ true) where
  parts : (leb n 4 ≡ true) × ((i : ℕ) → i < n → stage_fits (stage_at stages i) ≡ true)
  unfolding stages_fit
  parts =
      let a = was_true (leb n 4) e false≢true in
      (a.0, below_at (λ i. stage_fits (stage_at stages i)) n a.1)

  pub stages_few : n ≤ 4
  stages_few = leb-true n 4 parts.0

  pub unit_below : (i : ℕ) → i < n → (stage_at stages i).unit < 4
  unfolding stage_fits
  unit_below i h = ltb-true _ 4 (was_true (ltb (stage_at stages i).unit 4) (parts.1 i h) false≢true).0

  -- and the records that pass 8
  pub stages_do_fit : (len : ℕ) (xs : List Texture) → records_fit len n xs ≡ true → StagesFit len n stages xs
  unfolding records_fit
  stages_do_fit len xs h = record { few = stages_few; units = unit_below; valid = below_at (λ i. valid_of len (texture_at xs i)) n h }

pub late_records : (len n : ℕ) (xs : List Texture) (a b c : Vertex) → late_check len n xs a b c ≡ 0 → records_fit len n xs ≡ true
unfolding late_check
late_records len n xs a b c e = (was_true (records_fit len n xs) e (some 8 refl)).0
