-- What a draw answers and leaves, over the layouts that the C interface is handed: docs/INTERFACE.md, Draw.
use Rattle.std.specs.Prelude.{ℕ, ◌*◌, Bool, false, cond, List, [], get_or, Float, Option, Some, None, Result, is_some, unwrap_or}
use Rattle.levels.specs.declared.Texture.{Texture}
use Rattle.answers.specs.declared.Refusal.{Refusal}
use Rattle.settings.specs.declared.PipelineState.{PipelineState}
use Rattle.settings.specs.Settings.{default_state}
use Rattle.vertices.specs.declared.Vertex.{Vertex}
use Rattle.vertices.specs.Vertex.{new_vertex}
use Rattle.frames.specs.State.{Answer, done, drew, refused}
use Rattle.draw.specs.Draw.{DrawArgs, draw_args, Outcome, answer_of, draw_of}
use Rattle.draw_layouts.specs.declared.Stages.{Stages}
use Rattle.draw_layouts.specs.Units.{read_units}
use Rattle.draw_layouts.specs.Settings.{read_settings}
use Rattle.draw_layouts.specs.Stages.{used, read_stages}
use Rattle.draw_layouts.specs.Vertices.{read_vertices}

-- an answer, and what is left in the colours and the depths
pub record Called : Type 0 where
  pub answer : ℕ
  pub colors : List ℕ
  pub depths : List Float

abbrev pub called : ℕ → List ℕ → List Float → Called
called n cs ds = record { answer = n; colors = cs; depths = ds }

-- the refusal's number times 2^32 and the count of pixel writes in one: a draw has no refusal and a refusal no count
abbrev pub draw_number : Answer → ℕ
draw_number done = 0
draw_number (drew n) = n
draw_number (refused why) = why * 4294967296

-- what a caller reads in the upper half of the answer: the refusal's number, or 0
abbrev pub refused_by : Answer → ℕ
refused_by done = 0
refused_by (drew n) = 0
refused_by (refused why) = why

abbrev pub called_of : Outcome → Called
called_of o = called (draw_number o.answer) o.colors o.depths

-- what a call answers: 255 * 2^32 where a layout holds nothing
abbrev pub call_number : Option (Result ℕ Refusal) → ℕ
call_number None = 255 * 4294967296
call_number (Some a) = draw_number (answer_of a)

abbrev pub no_stages : Stages
no_stages = record { first = []; count = 0 }

-- a draw of what the layouts hold
abbrev pub args_of : Option PipelineState → Option Stages → Option (List Vertex) → DrawArgs
args_of s t v =
    draw_args (unwrap_or s default_state) (unwrap_or t no_stages).first (unwrap_or t no_stages).count
    (get_or (unwrap_or v []) 0 new_vertex) (get_or (unwrap_or v []) 1 new_vertex) (get_or (unwrap_or v []) 2 new_vertex)

-- the units' records, of which the stages in use say which are looked at
abbrev pub units_of : Option Stages → List ℕ → Option (List Texture)
units_of t units = read_units (used (unwrap_or t no_stages)) units

abbrev pub all_known : Option (List Texture) → Option PipelineState → Option Stages → Option (List Vertex) → Bool
all_known u s t v = cond (is_some u) (cond (is_some s) (cond (is_some t) (is_some v) false) false) false

-- 255 * 2^32 where a layout holds nothing
abbrev pub draw_read : List ℕ → ℕ → ℕ → Option (List Texture) → Option PipelineState → Option Stages → Option (List Vertex) → List ℕ → List Float → Called
draw_read store width height u s t v cs ds =
    cond (all_known u s t v) (called_of (draw_of store width height (args_of s t v) (unwrap_or u []) cs ds)) (called (255 * 4294967296) cs ds)

unfoldable pub draw_call : List ℕ → ℕ → ℕ → List ℕ → List ℕ → List ℕ → List ℕ → List ℕ → List Float → Called
draw_call store width height units settings stages vertices cs ds =
    draw_read store width height (units_of (read_stages stages) units) (read_settings settings) (read_stages stages) (read_vertices vertices) cs ds
