-- A triangle left by clipping: it is filled over the box that its setup gives, which lies in the scissor's, or nothing is drawn. Assumes nothing.
use Rattle.std.proofs.lemmas.Option.{none-some}
use Rattle.std.specs.Prelude.{Option, Some, None}
use mathlib.Core.Path.{◌≡◌}
use mathlib.Core.List.{List}
use Prim.Native.Nat.{ℕ}
use Rattle.std.proofs.lemmas.Option.{none-some}
use Rattle.settings.specs.declared.DepthRange.{DepthRange}
use Rattle.settings.specs.declared.FrontFace.{FrontFace}
use Rattle.vertices.specs.declared.Vertex.{Vertex}
use Rattle.clip.specs.Fan.{triangle_of}
use Rattle.screen.specs.declared.View.{View}
use Rattle.screen.specs.declared.ScreenVertex.{ScreenVertex}
use Rattle.screen.specs.Screen.{corner_of}
use Rattle.scissor.specs.declared.PixelBox.{PixelBox}
use Rattle.setup.specs.declared.Raster.{Raster}
use Rattle.setup.specs.Setup.{setup_of, with_corner}
use Rattle.setup.proofs.Outcomes.{Within, drawn_within}
use Rattle.frames.specs.Gather.{Drawn}
use Rattle.pixels.specs.Way.{Drawing}
use Rattle.raster.specs.Fill.{primitive_of, fill_of, setup_for, raster_of}
use Rattle.settings.specs.declared.CullMode.{CullMode}

through : {r : Raster} (k : Option ScreenVertex) (g : ScreenVertex → Option Raster) (P : Type 0) → ((v : ScreenVertex) → g v ≡ Some r → P) → with_corner k g ≡ Some r → P
through None g P h e = absurd (none-some _ e)
through (Some v) g P h e = h v e

pub setup_within : (view : View) (r : DepthRange) (f : FrontFace) (cull : Option CullMode) (within : PixelBox) (a b c : Vertex) {q : Raster}
    → setup_of view r f cull within a b c ≡ Some q → Within q.pixels within
unfolding setup_of
setup_within view r f cull within a b c {q} e =
    through (corner_of view r a) _ (Within q.pixels within)
    (λ u e1. through (corner_of view r b) _ (Within q.pixels within)
    (λ v e2. through (corner_of view r c) _ (Within q.pixels within) (λ w e3. drawn_within f cull within u v w e3) e2) e1) e

module _ (store : List ℕ) (d : Drawing) (view : View) (within : PixelBox) (width : ℕ) (a b c : Vertex) (s : Drawn) where
  pub nothing_drawn : setup_of view d.state.depth_range d.state.front_face d.state.cull within a b c ≡ None → s ≡ raster_of store d view within width (triangle_of a b c) s
  unfolding raster_of setup_for
  nothing_drawn e = rw e

  pub filled : {r : Raster} → setup_of view d.state.depth_range d.state.front_face d.state.cull within a b c ≡ Some r
      → fill_of store d (primitive_of r a b c) width r.pixels s ≡ raster_of store d view within width (triangle_of a b c) s
  unfolding raster_of setup_for
  filled e = rw e
