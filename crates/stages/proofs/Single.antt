-- A single stage in use is a step of its own. Assumes nothing.
use mathlib.Core.Path.{◌≡◌}
use mathlib.Core.List.{List}
use Prim.Native.Nat.{ℕ}
use lib.Ieee.{Float}
use Rattle.lists.specs.Lists.{iter}
use Rattle.levels.specs.declared.Texture.{Texture}
use Rattle.settings.specs.declared.Rgba.{Rgba}
use Rattle.settings.specs.declared.TextureStage.{TextureStage}
use Rattle.gradients.specs.declared.PerCorner.{PerCorner}
use Rattle.coverage.specs.declared.Primitive.{Primitive}
use Rattle.stages.specs.Stages.{stage_at, texture_at, coordinates_of, stage_color, stage_step, stages_color}

pub one_stage : (store : List ℕ) (stages : List TextureStage) (n : ℕ) (xs : List Texture) (t : Primitive) (w : PerCorner Float) (rec : Float) (frag : Rgba) → n ≡ 1
    → stage_color store (stage_at stages 0) (texture_at xs 0) (coordinates_of t w rec (stage_at stages 0).unit) frag ≡ stages_color store stages n xs t w rec frag
unfolding stages_color iter stage_step
one_stage store stages n xs t w rec frag e = rw e
