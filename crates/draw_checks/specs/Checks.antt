-- Document 01, Draw: the checks 1, 2, 3, 4, 7, 6, 8, 5, in that order.
use Rattle.std.specs.Prelude.{ℕ, zero, suc, Bool, true, false, cond, List, [], ◌∷◌, ltb, leb, pos, Float}
use Rattle.std.specs.Int.Signed.{le_z}
use Rattle.std.specs.List.{list_all}
use Rattle.floats.specs.Num.{bounded_of}
use Rattle.levels.specs.declared.Texture.{Texture}
use Rattle.levels.specs.Levels.{valid_of}
use Rattle.settings.specs.declared.Rgba.{Rgba}
use Rattle.settings.specs.declared.Viewport.{Viewport}
use Rattle.settings.specs.declared.FogMode.{FogMode}
use Rattle.settings.specs.declared.FogMode.TheVariants.{Linear, Exp, Exp2}
use Rattle.settings.specs.declared.TextureStage.{TextureStage}
use Rattle.settings.specs.declared.PipelineState.{PipelineState}
use Rattle.scissor.specs.Check.{target_fits, scissor_fits, number_fits}
use Rattle.vertices.specs.declared.Vertex.{Vertex}
use Rattle.vertices.specs.Floats.{floats_of}
use Rattle.stages.specs.Stages.{stage_at, texture_at}

-- whether f holds of 0, 1, .., n - 1
unfoldable pub all_below : ℕ → (ℕ → Bool) → Bool
all_below zero f = true
all_below (suc n) f = cond (all_below n f) (f n) false

-- 3: viewport x or y outside -8,192 to 8,192, or width or height above 4,096
unfoldable pub viewport_fits : Viewport → Bool
viewport_fits v = cond (number_fits v.x) (cond (number_fits v.y) (cond (le_z v.width (pos 4096)) (le_z v.height (pos 4096)) false) false) false

-- 4, of a colour
unfoldable pub color_fits : Rgba → Bool
color_fits c = list_all bounded_of (c.r ∷ c.g ∷ c.b ∷ c.a ∷ [])

-- 4: every float in the settings
abbrev pub state_floats : PipelineState → List Float
state_floats s =
    s.depth_range.near ∷ s.depth_range.far ∷ s.alpha_ref
    ∷ s.fog_color.r ∷ s.fog_color.g ∷ s.fog_color.b ∷ s.fog_color.a
    ∷ s.fog_start ∷ s.fog_end ∷ s.fog_density ∷ []

unfoldable pub state_fits : PipelineState → Bool
state_fits s = list_all bounded_of (state_floats s)

-- 7: fog on with an exponential curve
abbrev pub is_linear : FogMode → Bool
is_linear Linear = true
is_linear Exp = false
is_linear Exp2 = false

unfoldable pub fog_fits : PipelineState → Bool
fog_fits s = cond s.fog (is_linear s.fog_mode) true

-- 6: over four stages, a unit above 3, or an environment colour failing the rule of 4
unfoldable pub stage_fits : TextureStage → Bool
stage_fits x = cond (ltb x.unit 4) (color_fits x.env_color) false

unfoldable pub stages_fit : List TextureStage → ℕ → Bool
stages_fit stages n = cond (leb n 4) (all_below n (λ i. stage_fits (stage_at stages i))) false

-- 8: a named unit's record that is not valid. xs: the record that each stage reads
unfoldable pub records_fit : ℕ → ℕ → List Texture → Bool
records_fit len n xs = all_below n (λ i. valid_of len (texture_at xs i))

-- 5: every number of the vertices
unfoldable pub vertex_fits : Vertex → Bool
vertex_fits v = list_all bounded_of (floats_of v)

unfoldable pub vertices_fit : Vertex → Vertex → Vertex → Bool
vertices_fit a b c = cond (vertex_fits a) (cond (vertex_fits b) (vertex_fits c) false) false

-- the number of 1, 2, 3, 4, 7 or 6, or 0; colors, depths: how many there are
unfoldable pub early_check : ℕ → ℕ → ℕ → ℕ → PipelineState → List TextureStage → ℕ → ℕ
early_check width height colors depths s stages n =
    cond (target_fits width height colors depths)
    (cond (scissor_fits s.scissor)
    (cond (viewport_fits s.viewport)
    (cond (state_fits s)
    (cond (fog_fits s)
    (cond (stages_fit stages n) 0 6) 7) 4) 3) 2) 1

-- the number of 8 or 5, or 0; len: the store's length
unfoldable pub late_check : ℕ → ℕ → List Texture → Vertex → Vertex → Vertex → ℕ
late_check len n xs a b c = cond (records_fit len n xs) (cond (vertices_fit a b c) 0 5) 8
