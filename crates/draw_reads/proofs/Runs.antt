-- A draw past its checks is a run of its fragments, and each lies in the scissor box. Assumes nothing.
use Rattle.std.specs.Prelude.{Option, Some, None}
use mathlib.Core.Path.{◌≡◌, refl, sym, ap, ◌∙◌}
use mathlib.Core.Logic.{◌⊎◌, inl, inr}
use mathlib.Core.Bool.{Bool, true, false, cond}
use mathlib.Core.List.{List, [], ◌∷◌}
use Prim.Native.Nat.{ℕ, ◌≤◌, ◌<◌}
use native.Mathlib.Omega.{arith}
use borrow.Author.Tests.{lt-ltb, le-leb}
use Rattle.settings.specs.declared.DepthRange.{DepthRange}
use Rattle.settings.specs.declared.FrontFace.{FrontFace}
use Rattle.settings.specs.declared.PipelineState.{PipelineState}
use Rattle.scissor.specs.Scissor.{bounds_of, in_bounds}
use Rattle.vertices.specs.declared.Vertex.{Vertex}
use Rattle.clip.specs.Fan.{Triangle, left_of, draw_each}
use Rattle.screen.specs.declared.View.{View}
use Rattle.screen.specs.declared.ScreenVertex.{ScreenVertex}
use Rattle.screen.specs.Screen.{viewport_draws, view_of, corner_of}
use Rattle.scissor.specs.declared.PixelBox.{PixelBox}
use Rattle.setup.specs.declared.Raster.{Raster}
use Rattle.setup.specs.Setup.{with_corner, setup_of}
use Rattle.setup.proofs.Outcomes.{Within, drawn_within}
use Rattle.coverage.specs.declared.Primitive.{Primitive}
use Rattle.isolation.specs.Machine.{In}
use Rattle.frames.specs.Fragments.{paint}
use Rattle.frames.specs.Gather.{Drawn}
use Rattle.frames.proofs.Fragments.{in_either, paint_append, grid_paint, in_grid}
use Rattle.pixels.specs.Way.{Drawing, pixel_of}
use Rattle.raster.specs.Fill.{primitive_of, row_of, fill_of, fill_by, setup_for, raster_of, left_drawn, in_bounds_drawn, drawn_of}
use Rattle.draw_reads.specs.Items.{Item, item_at, box_items, setup_items, triangle_items, each_items, bounds_items, draw_items}
use Rattle.settings.specs.declared.CullMode.{CullMode}

-- ---- the loops are a run

module _ (store : List ℕ) (d : Drawing) (width : ℕ) where
  abbrev pub step : Item → Drawn → Drawn
  step i c = pixel_of store d i.tri width i.py i.px c

  fill_runs : (t : Primitive) (p : PixelBox) (c : Drawn) → fill_of store d t width p c ≡ paint step (box_items t p) c
  unfolding fill_of row_of box_items
  fill_runs t p c = grid_paint step (item_at t) p.x0 p.x1 p.y0 p.y1 c

  setup_runs : (t : Triangle) (x : Option Raster) (c : Drawn) → fill_by store d width t x c ≡ paint step (setup_items t x) c
  unfolding paint
  setup_runs t None c = refl
  setup_runs t (Some r) c = fill_runs (primitive_of r t.a t.b t.c) r.pixels c

  each_runs : (f : Triangle → Drawn → Drawn) (g : Triangle → List Item) → ((t : Triangle) (c : Drawn) → f t c ≡ paint step (g t) c)
      → (l : List Triangle) (c : Drawn) → draw_each f l c ≡ paint step (each_items g l) c
  unfolding draw_each each_items paint
  each_runs f g h [] c = refl
  each_runs f g h (t ∷ l) c = each_runs f g h l (f t c) ∙ ap (λ x. paint step (each_items g l) x) (h t c) ∙ sym (paint_append step (g t) (each_items g l) c)

  module _ (height : ℕ) (a b c : Vertex) where
    bounds_runs : (x : Option PixelBox) (s : Drawn) → in_bounds_drawn store d width height a b c x s ≡ paint step (bounds_items d.state height a b c x) s
    unfolding left_drawn raster_of triangle_items paint
    bounds_runs None s = refl
    bounds_runs (Some box) s =
        each_runs _ _ (λ t k. setup_runs t (setup_for d.state (view_of d.state.viewport height) box t) k) (left_of a b c) s

    pub draw_runs : (s : Drawn) → drawn_of store d width height a b c s ≡ paint step (draw_items d.state width height a b c) s
    unfolding drawn_of draw_items paint
    draw_runs s = go (viewport_draws d.state.viewport)
      where
        x : Option PixelBox
        x = bounds_of width height d.state.scissor

        go : (y : Bool) → cond y (in_bounds_drawn store d width height a b c x s) s ≡ paint step (cond y (bounds_items d.state height a b c x) []) s
        go true = bounds_runs x s
        go false = refl

-- ---- each fragment lies in the box

never : {A : Type 0} {r : Raster} → None ≡ Some r → A
never e = let z : ◌≡◌ {A = ℕ} 0 1 = cc in absurd (omega arith)

with_corner_is : (P : Raster → Type 0) (x : Option ScreenVertex) (f : ScreenVertex → Option Raster) → ((v : ScreenVertex) (r : Raster) → f v ≡ Some r → P r) → (r : Raster) → with_corner x f ≡ Some r → P r
with_corner_is P None f h r e = never e
with_corner_is P (Some v) f h r e = h v r e

pub setup_within : (view : View) (z : DepthRange) (f : FrontFace) (cull : Option CullMode) (within : PixelBox) (a b c : Vertex) (r : Raster)
    → setup_of view z f cull within a b c ≡ Some r → Within r.pixels within
unfolding setup_of
setup_within view z f cull within a b c =
    with_corner_is P (corner_of view z a) _ (λ p. with_corner_is P (corner_of view z b) _ (λ q. with_corner_is P (corner_of view z c) _ (λ s r e. drawn_within f cull within p q s e)))
  where
    P : Raster → Type 0
    P r = Within r.pixels within

-- the item's column and row are in the box
abbrev InItem : PixelBox → Item → Type 0
InItem w i = (w.x0 ≤ i.px) × (i.px < w.x1) × (w.y0 ≤ i.py) × (i.py < w.y1)

box_within : (t : Primitive) (p w : PixelBox) (i : Item) → Within p w → In i (box_items t p) → InItem w i
unfolding box_items
box_within t p w i h m =
    in_grid (item_at t) p.x0 p.x1 p.y0 p.y1 i (InItem w i)
    (λ x y a b c k e. rw e (omega arith, omega arith, omega arith, omega arith)) m

triangle_within : (s : PipelineState) (view : View) (w : PixelBox) (t : Triangle) (i : Item) → In i (triangle_items s view w t) → InItem w i
unfolding triangle_items setup_for
triangle_within s view w t i m = go (setup_for s view w t) refl m
  where
    go : (x : Option Raster) → setup_for s view w t ≡ x → In i (setup_items t x) → InItem w i
    go None e k = absurd k
    go (Some r) e k = box_within (primitive_of r t.a t.b t.c) r.pixels w i (setup_within view _ _ _ w t.a t.b t.c r e) k

each_within : (f : Triangle → List Item) (P : Item → Type 0) → ((t : Triangle) (i : Item) → In i (f t) → P i) → (l : List Triangle) (i : Item) → In i (each_items f l) → P i
unfolding each_items
each_within f P h [] i m = absurd m
each_within f P h (t ∷ l) i m = go (in_either i (f t) (each_items f l) m) (each_within f P h l i)
  where
    go : In i (f t) ⊎ In i (each_items f l) → (In i (each_items f l) → P i) → P i
    go (inl x) r = h t i x
    go (inr x) r = r x

is_in_bounds : (box : PixelBox) (i : Item) → InItem box i → in_bounds (Some box) i.px i.py ≡ true
is_in_bounds box i (a, b, c, k) = rw (le-leb box.x0 i.px a, lt-ltb i.px box.x1 b, le-leb box.y0 i.py c, lt-ltb i.py box.y1 k)

bounds_within : (s : PipelineState) (height : ℕ) (a b c : Vertex) (x : Option PixelBox) (i : Item) → In i (bounds_items s height a b c x) → in_bounds x i.px i.py ≡ true
bounds_within s height a b c None i m = absurd m
bounds_within s height a b c (Some box) i m =
    is_in_bounds box i
    (each_within _ (InItem box) (λ t j k. triangle_within s (view_of s.viewport height) box t j k) (left_of a b c) i m)

pub items_within : (s : PipelineState) (width height : ℕ) (a b c : Vertex) (i : Item) → In i (draw_items s width height a b c) → in_bounds (bounds_of width height s.scissor) i.px i.py ≡ true
unfolding draw_items
items_within s width height a b c i m = go (viewport_draws s.viewport) m
  where
    x : Option PixelBox
    x = bounds_of width height s.scissor

    go : (y : Bool) → In i (cond y (bounds_items s height a b c x) []) → in_bounds x i.px i.py ≡ true
    go true k = bounds_within s height a b c x i k
    go false k = absurd k
