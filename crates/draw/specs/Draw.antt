-- draw_triangle: the checks, then the draw. Document 01, Draw; raster.rs, draw_triangle.
use Rattle.std.specs.Prelude.{ℕ, cond, List, eqb, ltb, length, Float, Result, Ok, Err}
use Rattle.lists.specs.Lists.{tab}
use Rattle.answers.specs.declared.Refusal.{Refusal}
use Rattle.answers.specs.Numbers.{refusal_number}
use Rattle.levels.specs.declared.Texture.{Texture}
use Rattle.levels.specs.Levels.{new_texture}
use Rattle.settings.specs.declared.TextureStage.{TextureStage}
use Rattle.settings.specs.declared.PipelineState.{PipelineState}
use Rattle.vertices.specs.declared.Vertex.{Vertex}
use Rattle.frames.specs.State.{Answer, drew, refused}
use Rattle.frames.specs.Gather.{Drawn}
use Rattle.stages.specs.Stages.{stage_at, texture_at}
use Rattle.pixels.specs.Way.{drawing, drawn_to}
use Rattle.raster.specs.Fill.{drawn_of}
use Rattle.draw_checks.specs.Checks.{early_check, late_check}

-- what a draw is handed beside the target, the store and the records
pub record DrawArgs : Type 0 where
  pub state : PipelineState
  pub stages : List TextureStage
  pub count : ℕ
  pub a : Vertex
  pub b : Vertex
  pub c : Vertex

abbrev pub draw_args : PipelineState → List TextureStage → ℕ → Vertex → Vertex → Vertex → DrawArgs
draw_args s stages n a b c = record { state = s; stages = stages; count = n; a = a; b = b; c = c }

-- the record of the unit that stage i names, for each stage in use; a stage that is not in use reads none. units: the four units' records
abbrev pub bound_at : List TextureStage → ℕ → List Texture → ℕ → Texture
bound_at stages n units i = cond (ltb i n) (texture_at units (stage_at stages i).unit) new_texture

unfoldable pub bound_to : List TextureStage → ℕ → List Texture → List Texture
bound_to stages n units = tab 4 (bound_at stages n units)

-- the check's number on a target of so many colour bytes and depths and a store of so many bytes
unfoldable pub draw_check : ℕ → ℕ → ℕ → ℕ → ℕ → DrawArgs → List Texture → ℕ
draw_check width height colors depths len x units =
    cond (eqb (early_check width height colors depths x.state x.stages x.count) 0)
    (late_check len x.count (bound_to x.stages x.count units) x.a x.b x.c)
    (early_check width height colors depths x.state x.stages x.count)

-- the draw past its checks
unfoldable pub draw_passed : List ℕ → ℕ → ℕ → DrawArgs → List Texture → List ℕ → List Float → Drawn
draw_passed store width height x units cs ds =
    drawn_of store (drawing x.state x.stages x.count (bound_to x.stages x.count units)) width height x.a x.b x.c (drawn_to cs ds 0)

-- what a call answers and leaves
pub record Outcome : Type 0 where
  pub answer : Answer
  pub colors : List ℕ
  pub depths : List Float

abbrev pub outcome : Answer → List ℕ → List Float → Outcome
outcome n cs ds = record { answer = n; colors = cs; depths = ds }

abbrev pub drew_all : Drawn → Outcome
drew_all s = outcome (drew s.count) s.colors s.depths

-- a refused call answers its number and changes nothing
unfoldable pub draw_of : List ℕ → ℕ → ℕ → DrawArgs → List Texture → List ℕ → List Float → Outcome
draw_of store width height x units cs ds =
    cond (eqb (draw_check width height (length cs) (length ds) (length store) x units) 0)
    (drew_all (draw_passed store width height x units cs ds))
    (outcome (refused (draw_check width height (length cs) (length ds) (length store) x units)) cs ds)

abbrev pub answer_of : Result ℕ Refusal → Answer
answer_of (Ok n) = drew n
answer_of (Err why) = refused (refusal_number why)
