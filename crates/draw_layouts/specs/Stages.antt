-- The byte layout of a draw's texture stages (docs/INTERFACE.md, "Draw"): 24 bytes a stage.
use Rattle.std.specs.Prelude.{ℕ, ◌+◌, ◌*◌, ◌/◌, ◌%◌, Bool, true, false, cond, List, [], ◌∷◌, eqb, ltb, length, take, Option, Some, None}
use Rattle.std.specs.Result.{is_ok, result_unwrap_or}
use Rattle.settings.specs.declared.TextureStage.{TextureStage}
use Rattle.settings.specs.declared.TexEnvMode.TheVariants.{Modulate, Add}
use Rattle.settings.specs.Settings.{black}
use Rattle.layouts.specs.Words.{word}
use Rattle.draw_layouts.specs.declared.Stages.{Stages}
use Rattle.draw_layouts.specs.Numbers.{color_at}
use Rattle.settings.specs.Codes.{env_of}

-- the stage at byte i
unfoldable pub read_stage : List ℕ → ℕ → TextureStage
read_stage b i = record { unit = word b i; env = result_unwrap_or (env_of (word b (i + 4))) Add; env_color = color_at b (i + 8) }

-- stage k where the layout has one
unfoldable pub stage_or : List ℕ → ℕ → TextureStage
stage_or b k = cond (ltb k (length b / 24)) (read_stage b (k * 24)) (record { unit = 0; env = Modulate; env_color = black })

unfoldable pub stage_known : List ℕ → ℕ → Bool
stage_known b k = cond (ltb k (length b / 24)) (is_ok (env_of (word b (k * 24 + 4)))) true

-- only the first four are read
unfoldable pub first_known : List ℕ → Bool
first_known b = cond (stage_known b 0) (cond (stage_known b 1) (cond (stage_known b 2) (stage_known b 3) false) false) false

unfoldable pub first_four : List ℕ → List TextureStage
first_four b = stage_or b 0 ∷ stage_or b 1 ∷ stage_or b 2 ∷ stage_or b 3 ∷ []

-- a length that is no multiple of 24 holds no stages; the count is that of all stages, read or not
unfoldable pub stages_known : List ℕ → Bool
stages_known b = cond (eqb (length b % 24) 0) (first_known b) false

unfoldable pub read_stages : List ℕ → Option Stages
read_stages b = cond (stages_known b) (Some (record { first = first_four b; count = length b / 24 })) None

-- the stages in use, of those that are read
unfoldable pub used : Stages → List TextureStage
used x = take x.count x.first
