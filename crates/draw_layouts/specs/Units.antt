-- The byte layout of a draw's four texture records (docs/INTERFACE.md, "Draw"): 244 bytes each.
use Rattle.std.specs.Prelude.{ℕ, ◌*◌, Bool, cond, List, [], ◌∷◌, eqb, length, take, drop, Option, Some, None, option_map, option_and_then}
use Rattle.std.specs.List.{list_any}
use Rattle.levels.specs.declared.Texture.{Texture}
use Rattle.levels.specs.Levels.{new_texture}
use Rattle.settings.specs.declared.TextureStage.{TextureStage}
use Rattle.layouts.specs.Records.{read_of}

-- the record at byte i
unfoldable pub read_unit : List ℕ → ℕ → Option Texture
read_unit b i = read_of (take 244 (drop i b))

-- 01, Draw, 8: a named unit's texture record
unfoldable pub named : List TextureStage → ℕ → Bool
named stages u = list_any (λ s. eqb s.unit u) stages

-- the record of unit u where a stage names it; what stands there for another unit is not looked at, and the default record is handed on unread
unfoldable pub unit_or : List TextureStage → List ℕ → ℕ → Option Texture
unit_or stages b u = cond (named stages u) (read_unit b (u * 244)) (Some new_texture)

abbrev pub four_read : Option Texture → Option Texture → Option Texture → Option Texture → Option (List Texture)
four_read p q r s = option_and_then (λ a. option_and_then (λ b. option_and_then (λ c. option_map (λ d. a ∷ b ∷ c ∷ d ∷ []) s) r) q) p

-- a layout of another length, or with an unknown code in the record of a unit that a stage names, holds no units
unfoldable pub read_units : List TextureStage → List ℕ → Option (List Texture)
read_units stages b =
    cond (eqb (length b) 976)
    (four_read (unit_or stages b 0) (unit_or stages b 1) (unit_or stages b 2) (unit_or stages b 3)) None
