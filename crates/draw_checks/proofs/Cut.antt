-- The first n of a draw's stages, and of its records, as lists of their own. Assumes nothing.
use mathlib.Core.Path.{◌≡◌, sym, ◌∙◌}
use mathlib.Core.Bool.{true}
use mathlib.Core.List.{List}
use Prim.Native.Nat.{ℕ, ◌≤◌}
use lib.ListN.{length, take}
use Rattle.std.proofs.lemmas.List.{length-take-le}
use Rattle.levels.specs.declared.Texture.{Texture}
use Rattle.levels.specs.Levels.{valid_of}
use Rattle.settings.specs.declared.TextureStage.{TextureStage}
use Rattle.vertices.specs.declared.Vertex.{Vertex}
use Rattle.stages.specs.Stages.{no_stage, no_texture}
use Rattle.draw_checks.specs.Checks.{stage_fits, stages_fit, records_fit, late_check}
use Rattle.draw_checks.proofs.Below.{below_take, below_all}

pub stages_cut : (stages : List TextureStage) (n : ℕ) → n ≤ length stages → stages_fit stages n ≡ true → stages_fit (take n stages) (length (take n stages)) ≡ true
unfolding stages_fit
stages_cut stages n h e = rw (← below_all stage_fits (take n stages) no_stage, below_take stage_fits stages no_stage n h, length-take-le n stages h) e

pub records_cut : (len n : ℕ) (xs : List Texture) → n ≤ length xs → records_fit len (length (take n xs)) (take n xs) ≡ records_fit len n xs
unfolding records_fit
records_cut len n xs h = sym (below_all (valid_of len) (take n xs) no_texture) ∙ below_take (valid_of len) xs no_texture n h

pub late_cut : (len n : ℕ) (xs : List Texture) (a b c : Vertex) → n ≤ length xs → late_check len (length (take n xs)) (take n xs) a b c ≡ late_check len n xs a b c
unfolding late_check
late_cut len n xs a b c h = rw (records_cut len n xs h)
