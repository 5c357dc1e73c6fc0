-- A draw past its checks, as a list of fragments: each pixel of the box of each triangle that clipping leaves, in the order of
-- raster/specs/Fill.antt (raster.rs, draw_triangle and raster_clipped).
use Rattle.std.specs.Prelude.{ℕ, ◌+◌, ◌*◌, cond, List, [], ◌∷◌, ◌++◌, Option, Some, None}
use Rattle.settings.specs.declared.PipelineState.{PipelineState}
use Rattle.scissor.specs.Scissor.{bounds_of}
use Rattle.vertices.specs.declared.Vertex.{Vertex}
use Rattle.clip.specs.Fan.{Triangle, left_of}
use Rattle.screen.specs.declared.View.{View}
use Rattle.screen.specs.Screen.{viewport_draws, view_of}
use Rattle.scissor.specs.declared.PixelBox.{PixelBox}
use Rattle.coverage.specs.declared.Primitive.{Primitive}
use Rattle.frames.specs.Fragments.{Work, grid}
use Rattle.frames.specs.Gather.{Drawn, frag_work}
use Rattle.pixels.specs.Way.{Drawing, frag_at}
use Rattle.raster.specs.Fill.{primitive_of, setup_for}
use Rattle.setup.specs.declared.Raster.{Raster}

-- one pixel of one triangle
pub record Item : Type 0 where
  pub tri : Primitive
  pub px : ℕ
  pub py : ℕ

abbrev pub item_at : Primitive → ℕ → ℕ → Item
item_at t x y = record { tri = t; px = x; py = y }

-- the pixel on a target so many pixels wide
abbrev pub pixel_no : ℕ → Item → ℕ
pixel_no width i = i.py * width + i.px

-- the pixels of a box, row by row
unfoldable pub box_items : Primitive → PixelBox → List Item
box_items t p = grid (item_at t) p.x0 p.x1 p.y0 p.y1

abbrev pub setup_items : Triangle → Option Raster → List Item
setup_items t None = []
setup_items t (Some r) = box_items (primitive_of r t.a t.b t.c) r.pixels

-- those of one triangle left by clipping
unfoldable pub triangle_items : PipelineState → View → PixelBox → Triangle → List Item
triangle_items s view within t = setup_items t (setup_for s view within t)

-- those of some triangles, in turn
unfoldable pub each_items : (Triangle → List Item) → List Triangle → List Item
each_items f [] = []
each_items f (t ∷ l) = f t ++ each_items f l

abbrev pub bounds_items : PipelineState → ℕ → Vertex → Vertex → Vertex → Option PixelBox → List Item
bounds_items s height a b c None = []
bounds_items s height a b c (Some box) =
    each_items (triangle_items s (view_of s.viewport height) box) (left_of a b c)

-- those of a draw on a target of width by height pixels
unfoldable pub draw_items : PipelineState → ℕ → ℕ → Vertex → Vertex → Vertex → List Item
draw_items s width height a b c = cond (viewport_draws s.viewport) (bounds_items s height a b c (bounds_of width height s.scissor)) []

-- a run of them: what each makes of its pixel, and the store bytes that it takes, are those of the pixel's way
abbrev pub items_work : Drawing → ℕ → List Item → Work Item Drawn
items_work d width items = frag_work items (pixel_no width) (λ st i old. frag_at st d i.tri i.px i.py old)
