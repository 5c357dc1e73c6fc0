-- Two draws that make the same colours write the same. Assumes nothing.
use Rattle.std.specs.Prelude.{Option, Some, None}
use mathlib.Core.Path.{◌≡◌, refl, ap}
use mathlib.Core.Bool.{Bool, true, false, cond}
use mathlib.Core.List.{List, []}
use mathlib.Core.Option.{none}
use Prim.Native.Nat.{ℕ, ◌+◌, ◌*◌}
use lib.Ieee.{Float}
use Rattle.lists.specs.Lists.{between}
use Rattle.levels.specs.declared.Texture.{Texture}
use Rattle.settings.specs.declared.Rgba.{Rgba}
use Rattle.settings.specs.declared.TextureStage.{TextureStage}
use Rattle.settings.specs.declared.PipelineState.{PipelineState}
use Rattle.scissor.specs.Scissor.{bounds_of}
use Rattle.scissor.specs.declared.PixelBox.{PixelBox}
use Rattle.clip.specs.Fan.{Triangle, left_of, draw_each}
use Rattle.vertices.specs.declared.Vertex.{Vertex}
use Rattle.gradients.specs.declared.PerCorner.{PerCorner}
use Rattle.screen.specs.declared.View.{View}
use Rattle.screen.specs.Screen.{viewport_draws, view_of}
use Rattle.frames.specs.State.{Pixel, pixel_at}
use Rattle.frames.specs.Gather.{Drawn, Frag, put_pixel}
use Rattle.stages.specs.Stages.{stages_color, stages_addresses}
use Rattle.coverage.specs.declared.Primitive.{Primitive}
use Rattle.coverage.specs.Coverage.{weights_of, covered_by, color_of}
use Rattle.pixels.specs.Way.{Drawing, drawing, rec_of, shares, reaches, shaded_of, fragment_of, left_by, frag_at, pixel_of}
use Rattle.raster.specs.Fill.{primitive_of, row_of, fill_of, fill_by, setup_for, raster_of, left_drawn, in_bounds_drawn, drawn_of}
use Rattle.setup.specs.declared.Raster.{Raster}

-- the colours that its stages make are all that it takes from its stages, records and texels

module _ (s : PipelineState) (store left : List ℕ) (stages kept : List TextureStage) (n m : ℕ) (xs ys : List Texture)
    (same : (t : Primitive) (w : PerCorner Float) (rec : Float) (frag : Rgba) → stages_color store stages n xs t w rec frag ≡ stages_color left kept m ys t w rec frag) where
  abbrev d : Drawing
  d = drawing s stages n xs

  abbrev e : Drawing
  e = drawing s kept m ys

  same_fragment : (t : Primitive) (w : PerCorner Float) (stored : Float) → fragment_of store d t w stored ≡ fragment_of left e t w stored
  unfolding fragment_of shaded_of
  same_fragment t w stored = rw (same t w (rec_of t w) (color_of s.smooth_shading (shares t w) t.vertices.a.color t.vertices.b.color t.vertices.c.color))

  same_pixel : (t : Primitive) (width py px : ℕ) (c : Drawn) → pixel_of store d t width py px c ≡ pixel_of left e t width py px c
  unfolding pixel_of frag_at
  same_pixel t width py px c = ap (put_pixel c (py * width + px)) (go (covered_by w))
    where
      w : PerCorner Float
      w = weights_of t.raster px py

      old : Pixel
      old = pixel_at c.colors c.depths (py * width + px)

      go : (k : Bool)
          → (cond {A = Frag} k (record { put = left_by s (fragment_of store d t w old.depth) old; took = cond (reaches s t w old.depth) (stages_addresses stages n xs t w (rec_of t w)) [] }) (record { put = none; took = [] })).put
          ≡ (cond {A = Frag} k (record { put = left_by s (fragment_of left e t w old.depth) old; took = cond (reaches s t w old.depth) (stages_addresses kept m ys t w (rec_of t w)) [] }) (record { put = none; took = [] })).put
      go true = rw (same_fragment t w old.depth)
      go false = refl

  same_row : (t : Primitive) (width x0 x1 py : ℕ) (c : Drawn) → row_of store d t width x0 x1 py c ≡ row_of left e t width x0 x1 py c
  unfolding row_of
  same_row t width x0 x1 py c = λ i. between (λ px x. same_pixel t width py px x i) x0 x1 c

  same_fill : (t : Primitive) (width : ℕ) (p : PixelBox) (c : Drawn) → fill_of store d t width p c ≡ fill_of left e t width p c
  unfolding fill_of
  same_fill t width p c = λ i. between (λ py x. same_row t width p.x0 p.x1 py x i) p.y0 p.y1 c

  same_raster : (view : View) (within : PixelBox) (width : ℕ) (t : Triangle) (c : Drawn) → raster_of store d view within width t c ≡ raster_of left e view within width t c
  unfolding raster_of
  same_raster view within width t c = go (setup_for s view within t)
    where
      go : (k : Option Raster) → fill_by store d width t k c ≡ fill_by left e width t k c
      go None = refl
      go (Some r) = same_fill (primitive_of r t.a t.b t.c) width r.pixels c

  same_bounds : (width height : ℕ) (a b c : Vertex) (k : Option PixelBox) (x : Drawn) → in_bounds_drawn store d width height a b c k x ≡ in_bounds_drawn left e width height a b c k x
  unfolding left_drawn
  same_bounds width height a b c None x = refl
  same_bounds width height a b c (Some box) x =
      λ i. draw_each (λ t y. same_raster (view_of s.viewport height) box width t y i) (left_of a b c) x

  pub same_drawn : (width height : ℕ) (a b c : Vertex) (x : Drawn) → drawn_of store d width height a b c x ≡ drawn_of left e width height a b c x
  unfolding drawn_of
  same_drawn width height a b c x = λ i. cond (viewport_draws s.viewport) (same_bounds width height a b c (bounds_of width height s.scissor) x i) x
