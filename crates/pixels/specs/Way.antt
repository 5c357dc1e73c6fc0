-- The pixel's way: document 01, port order 7. Weights, depth test, 1/w, colour, stages in order, alpha test, fog, blend, masked colour, depth, count.
use Rattle.std.specs.Prelude.{ℕ, ◌+◌, ◌*◌, Bool, false, cond, List, [], Float}
use Rattle.std.specs.Prelude as Std
use Rattle.std.proofs.Math.Option.{Option, none, some}
use Rattle.floats.specs.Num.{◌⊘◌, one32}
use Rattle.levels.specs.declared.Texture.{Texture}
use Rattle.settings.specs.declared.Rgba.{Rgba}
use Rattle.settings.specs.declared.PipelineState.{PipelineState}
use Rattle.settings.specs.declared.TextureStage.{TextureStage}
use Rattle.fragment.specs.Fragment.{depth_passes, alpha_passes, fogged_of, blend_of, masked_of, units_of}
use Rattle.gradients.specs.declared.PerCorner.{PerCorner}
use Rattle.gradients.specs.Gradients.{per_corner, sum_of}
use Rattle.frames.specs.State.{Pixel, pixel_at}
use Rattle.frames.specs.Gather.{Drawn, Frag, put_pixel}
use Rattle.coverage.specs.declared.Primitive.{Primitive}
use Rattle.coverage.specs.Coverage.{weights_of, covered_by, depth_at, inv_w_at, usable, shares_of, color_of}
use Rattle.stages.specs.Stages.{stages_color, stages_addresses}

-- a draw's settings, its stages with their count, and the texture record that each stage reads
pub record Drawing : Type 0 where
  pub state : PipelineState
  pub stages : List TextureStage
  pub count : ℕ
  pub textures : List Texture

abbrev pub drawing : PipelineState → List TextureStage → ℕ → List Texture → Drawing
drawing s l n xs = record { state = s; stages = l; count = n; textures = xs }

-- ---- a fragment from its weights, so that another rule of coverage can use it

-- whether a fragment gets as far as its stages: its depth passes, and 1/w can be used
unfoldable pub reaches : PipelineState → Primitive → PerCorner Float → Float → Bool
reaches s t w stored = cond (depth_passes s (depth_at t.raster w) stored) (usable (inv_w_at t.raster w)) false

-- 1 / (interpolated 1/w)
abbrev pub rec_of : Primitive → PerCorner Float → Float
rec_of t w = one32 ⊘ inv_w_at t.raster w

abbrev pub shares : Primitive → PerCorner Float → PerCorner Float
shares t w = shares_of t.raster w (rec_of t w)

-- its colour after the stages
unfoldable pub shaded_of : List ℕ → Drawing → Primitive → PerCorner Float → Rgba
shaded_of store d t w =
    stages_color store d.stages d.count d.textures t w (rec_of t w)
    (color_of d.state.smooth_shading (shares t w) t.vertices.a.color t.vertices.b.color t.vertices.c.color)

-- its fog depth
unfoldable pub fog_depth_of : Primitive → PerCorner Float → Float
fog_depth_of t w = sum_of (shares t w) (per_corner t.vertices.a.fog_depth t.vertices.b.fog_depth t.vertices.c.fog_depth)

-- past the stages: the alpha test, then fog
unfoldable pub finished : PipelineState → Float → Float → Rgba → Std.Option (Float × Rgba)
finished s z fogDepth c = cond (alpha_passes s c.a) (Std.Some (z, fogged_of s fogDepth c)) Std.None

unfoldable pub fragment_of : List ℕ → Drawing → Primitive → PerCorner Float → Float → Std.Option (Float × Rgba)
fragment_of store d t w stored =
    cond (reaches d.state t w stored)
    (finished d.state (depth_at t.raster w) (fog_depth_of t w) (shaded_of store d t w))
    Std.None

-- ---- what a kept fragment leaves of its pixel

unfoldable pub blended_of : PipelineState → Rgba → Pixel → Rgba
blended_of s c old = cond s.blend (blend_of s.blend_src s.blend_dst c (units_of old.red old.green old.blue old.alpha)) c

-- a channel that is masked off keeps its byte; the depth is written whether it was tested or not
unfoldable pub written_of : PipelineState → Float → Rgba → Pixel → Pixel
written_of s z c old =
    let out = blended_of s c old in
    record {
      red = masked_of s.color_mask.r out.r old.red;
      green = masked_of s.color_mask.g out.g old.green;
      blue = masked_of s.color_mask.b out.b old.blue;
      alpha = masked_of s.color_mask.a out.a old.alpha;
      depth = cond s.depth_write z old.depth;
    }

abbrev pub left_by : PipelineState → Std.Option (Float × Rgba) → Pixel → Option Pixel
left_by s Std.None old = none
left_by s (Std.Some (z, c)) old = some (written_of s z c old)

-- ---- a pixel

-- what becomes of pixel (px, py), and the store bytes taken: none where it is not covered, or does not reach the stages
unfoldable pub frag_at : List ℕ → Drawing → Primitive → ℕ → ℕ → Pixel → Frag
frag_at store d t px py old =
    let w = weights_of t.raster px py in
    cond (covered_by w)
    (record {
      put = left_by d.state (fragment_of store d t w old.depth) old;
      took = cond (reaches d.state t w old.depth) (stages_addresses d.stages d.count d.textures t w (rec_of t w)) [];
    })
    (record { put = none; took = [] })

-- on a target so many pixels wide; a pixel write counts 1
unfoldable pub pixel_of : List ℕ → Drawing → Primitive → ℕ → ℕ → ℕ → Drawn → Drawn
pixel_of store d t width py px c =
    put_pixel c (py * width + px) (frag_at store d t px py (pixel_at c.colors c.depths (py * width + px))).put

-- colours, depths and the count so far
abbrev pub drawn_to : List ℕ → List Float → ℕ → Drawn
drawn_to cs ds n = record { colors = cs; depths = ds; count = n }
