-- A draw past its checks: the triangles that clipping leaves, each filled over its box in row order. raster.rs, draw_triangle and raster_clipped.
use Rattle.std.specs.Prelude.{ℕ, cond, List, Option, Some, None}
use Rattle.lists.specs.Lists.{between}
use Rattle.settings.specs.declared.PipelineState.{PipelineState}
use Rattle.scissor.specs.Scissor.{bounds_of}
use Rattle.vertices.specs.declared.Vertex.{Vertex}
use Rattle.clip.specs.Fan.{Triangle, left_of, draw_each}
use Rattle.screen.specs.declared.View.{View}
use Rattle.screen.specs.Screen.{viewport_draws, view_of}
use Rattle.scissor.specs.declared.PixelBox.{PixelBox}
use Rattle.setup.specs.declared.Raster.{Raster}
use Rattle.setup.specs.Setup.{setup_of}
use Rattle.gradients.specs.Gradients.{per_corner, derivatives_of}
use Rattle.frames.specs.Gather.{Drawn}
use Rattle.coverage.specs.declared.Primitive.{Primitive}
use Rattle.pixels.specs.Way.{Drawing, pixel_of}

-- the corners on the screen, their slopes, and the vertices
unfoldable pub primitive_of : Raster → Vertex → Vertex → Vertex → Primitive
primitive_of r a b c =
    record {
      raster = r;
      derivatives = derivatives_of (per_corner r.corners.a.x r.corners.b.x r.corners.c.x) (per_corner r.corners.a.y r.corners.b.y r.corners.c.y) (per_corner r.corners.a.inv_w r.corners.b.inv_w r.corners.c.inv_w) r.inv_area;
      vertices = record { a = a; b = b; c = c };
    }

-- the columns x0 to x1 of a row
unfoldable pub row_of : List ℕ → Drawing → Primitive → ℕ → ℕ → ℕ → ℕ → Drawn → Drawn
row_of store d t width x0 x1 py s = between (pixel_of store d t width py) x0 x1 s

-- the rows of a box, and in each its columns
unfoldable pub fill_of : List ℕ → Drawing → Primitive → ℕ → PixelBox → Drawn → Drawn
fill_of store d t width p s = between (row_of store d t width p.x0 p.x1) p.y0 p.y1 s

abbrev pub fill_by : List ℕ → Drawing → ℕ → Triangle → Option Raster → Drawn → Drawn
fill_by store d width t None s = s
fill_by store d width t (Some r) s = fill_of store d (primitive_of r t.a t.b t.c) width r.pixels s

-- how a triangle left by clipping is set up
unfoldable pub setup_for : PipelineState → View → PixelBox → Triangle → Option Raster
setup_for s view within t = setup_of view s.depth_range s.front_face s.cull within t.a t.b t.c

-- raster.rs, raster_clipped: one triangle left by clipping
unfoldable pub raster_of : List ℕ → Drawing → View → PixelBox → ℕ → Triangle → Drawn → Drawn
raster_of store d view within width t s = fill_by store d width t (setup_for d.state view within t) s

-- the triangles that clipping leaves, in turn
unfoldable pub left_drawn : List ℕ → Drawing → View → PixelBox → ℕ → Vertex → Vertex → Vertex → Drawn → Drawn
left_drawn store d view within width a b c s = draw_each (raster_of store d view within width) (left_of a b c) s

abbrev pub in_bounds_drawn : List ℕ → Drawing → ℕ → ℕ → Vertex → Vertex → Vertex → Option PixelBox → Drawn → Drawn
in_bounds_drawn store d width height a b c None s = s
in_bounds_drawn store d width height a b c (Some box) s =
    left_drawn store d (view_of d.state.viewport height) box width a b c s

-- on a target of width by height pixels: nothing where the viewport is of zero or less, or no pixel lies in the scissor box
unfoldable pub drawn_of : List ℕ → Drawing → ℕ → ℕ → Vertex → Vertex → Vertex → Drawn → Drawn
drawn_of store d width height a b c s =
    cond (viewport_draws d.state.viewport) (in_bounds_drawn store d width height a b c (bounds_of width height d.state.scissor) s) s
