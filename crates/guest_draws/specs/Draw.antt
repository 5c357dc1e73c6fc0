-- draw_triangle as a call of a guest, on the shared state. What it does is draw_of, the definition that its contract cites, on the
-- records named, as last left. Beside it stands what it reads and writes, as document 01 lists it.
use Rattle.std.specs.Prelude.{◌≡◌, Bool, true, false, cond, List, ℕ, eqb, length, get_or, Float, Option}
use Rattle.lists.specs.Lists.{tab}
use Rattle.levels.specs.declared.Texture.{Texture}
use Rattle.scissor.specs.Scissor.{pixel_in}
use Rattle.isolation.specs.Machine.{Act, In}
use Rattle.frames.specs.State.{Place, sizes, pixel, byte, texture, Answer}
use Rattle.frames.specs.Fragments.{taken_by}
use Rattle.frames.specs.Gather.{Drawn, drawn}
use Rattle.stages.specs.Stages.{stage_at}
use Rattle.pixels.specs.Way as Way
use Rattle.pixels.specs.Way.{Drawing}
use Rattle.draw_checks.specs.Checks.{early_check, late_check}
use Rattle.draw.specs.Draw.{DrawArgs, bound_to, draw_check, draw_of}
use Rattle.draw_reads.specs.Items.{Item, draw_items, items_work}
use Rattle.guests.specs.Calls.{Shared}
use Rattle.guests.specs.Draws.{Draws, in_scissor}
use Rattle.settings.specs.declared.ScissorBox.{ScissorBox}

-- A draw as a guest makes it. units: the names of the four units' textures.
pub record DrawCall : Type 0 where
  pub args : DrawArgs
  pub units : List ℕ

abbrev pub scissor_of : DrawCall → Option ScissorBox
scissor_of x = x.args.state.scissor

-- the name of unit u's texture
abbrev pub name_at : DrawCall → ℕ → ℕ
name_at x u = get_or x.units u 0

-- the four units' records
unfoldable pub records_of : DrawCall → (ℕ → Texture) → List Texture
records_of x f = tab 4 (λ u. f (name_at x u))

-- the record that each stage reads
abbrev pub stage_records : DrawCall → (ℕ → Texture) → List Texture
stage_records x f = bound_to x.args.stages x.args.count (records_of x f)

-- 01: the textures of the units that its stages name
unfoldable pub names_of : DrawCall → List ℕ
names_of x = tab x.args.count (λ i. name_at x (stage_at x.args.stages i).unit)

-- the number of 1, 2, 3, 4, 7 and 6, or 0; and of 8 and 5, or 0
abbrev pub early_number : DrawCall → Shared → ℕ
early_number x s = early_check s.width s.height (length s.colors) (length s.depths) x.args.state x.args.stages x.args.count

abbrev pub late_number : DrawCall → Shared → ℕ
late_number x s = late_check (length s.store) x.args.count (stage_records x s.textures) x.args.a x.args.b x.args.c

-- the number of the whole check
abbrev pub draw_number : DrawCall → Shared → ℕ
draw_number x s = draw_check s.width s.height (length s.colors) (length s.depths) (length s.store) x.args (records_of x s.textures)

abbrev pub drawing_of : DrawCall → (ℕ → Texture) → Drawing
drawing_of x f = Way.drawing x.args.state x.args.stages x.args.count (stage_records x f)

-- its parts: checks, names, scissor and fragments
abbrev pub parts : DrawCall → Draws Item Drawn
parts x = record {
  early = early_number x;
  late = late_number x;
  names = names_of x;
  scissor = scissor_of x;
  canvas = drawn;
  work = λ w h f. items_work (drawing_of x f) w (draw_items x.args.state w h x.args.a x.args.b x.args.c);
}

-- the state with other colours and depths
abbrev pub with_frame : Shared → List ℕ → List Float → Shared
with_frame s cs ds = record { width = s.width; height = s.height; colors = cs; depths = ds; store = s.store; textures = s.textures }

-- ---- what it reads and writes

-- it is not refused
abbrev pub Passed : DrawCall → Shared → Type 0
Passed x s = (eqb (early_number x s) 0 ≡ true) × (eqb (late_number x s) 0 ≡ true)

-- the bytes of the texels that its fragments take, each on the frame that it finds
abbrev pub taken_of : DrawCall → Shared → List ℕ
taken_of x s = taken_by drawn (names_of x) (in_scissor (parts x)) (parts x).work s

-- 01: the textures of the units that its stages name, once the checks before 8 are passed; the bytes of the texels that it takes at
-- every pixel that gets as far as its stages; and the pixels of its box
abbrev pub draw_reads : DrawCall → Shared → Place → Type 0
draw_reads x s sizes = Unit {0}
draw_reads x s (pixel p) = Passed x s × (pixel_in s.width s.height (scissor_of x) p ≡ true)
draw_reads x s (byte b) = Passed x s × In b (taken_of x s)
draw_reads x s (texture n) = (eqb (early_number x s) 0 ≡ true) × In n (names_of x)

-- the pixels of its box, unless it is refused
abbrev pub draw_touches : DrawCall → Shared → Place → Bool
draw_touches x s sizes = false
draw_touches x s (pixel p) = cond (eqb (early_number x s) 0) (cond (eqb (late_number x s) 0) (pixel_in s.width s.height (scissor_of x) p) false) false
draw_touches x s (byte b) = false
draw_touches x s (texture n) = false

abbrev pub drawing : DrawCall → Act Shared Answer Place
drawing x = record {
  does = λ s. let o = draw_of s.store s.width s.height x.args (records_of x s.textures) s.colors s.depths in (o.answer, with_frame s o.colors o.depths);
  Reads = draw_reads x;
  writes = draw_touches x;
}
