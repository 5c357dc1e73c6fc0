-- A draw has at most forty fragments for each pixel of its target, and its count is no more than its fragments. Assumes nothing.
use Rattle.std.specs.Prelude as Std
use Rattle.std.specs.Prelude.{Some, None}
use mathlib.Core.Path.{◌≡◌, refl, ap}
use mathlib.Core.Bool.{Bool, true, false, cond}
use mathlib.Core.Option.{Option, none, some}
use mathlib.Core.List.{List, [], ◌∷◌}
use Prim.Native.Nat.{ℕ, zero, suc, ◌+◌, ◌-◌, ◌*◌, ◌≤◌}
use native.Mathlib.Nat.{mul-le-mul, mul_comm}
use native.Mathlib.Omega.{arith}
use lib.ListN.{length, length-append}
use lib.Ieee.{Float}
use Rattle.settings.specs.declared.PipelineState.{PipelineState}
use Rattle.scissor.specs.Scissor.{bounds_of}
use Rattle.scissor.proofs.Boxes.{Inside, bounds_inside}
use Rattle.vertices.specs.declared.Vertex.{Vertex}
use Rattle.clip.specs.Fan.{Triangle, left_of}
use Rattle.clip.proofs.Fans.{left_few}
use Rattle.screen.specs.declared.View.{View}
use Rattle.screen.specs.Screen.{viewport_draws, view_of}
use Rattle.scissor.specs.declared.PixelBox.{PixelBox}
use Rattle.coverage.specs.declared.Primitive.{Primitive}
use Rattle.frames.specs.State.{Pixel}
use Rattle.frames.specs.Fragments.{paint, spread, grid, shown}
use Rattle.frames.specs.Gather.{Drawn, drawn}
use Rattle.pixels.specs.Way.{Drawing, drawn_to}
use Rattle.raster.specs.Fill.{primitive_of, setup_for, drawn_of}
use Rattle.draw_reads.specs.Items.{Item, item_at, pixel_no, box_items, setup_items, triangle_items, each_items, bounds_items, draw_items}
use Rattle.draw_reads.specs.Pixels.{frag_of, wrote}
use Rattle.draw_reads.proofs.Runs.{step, setup_within, draw_runs}
use Rattle.draw_reads.proofs.Counts.{step_count}
use Rattle.setup.specs.declared.Raster.{Raster}

-- ---- how many fragments there are

-- so many parts of m items each
spread_length : {Item : Type 0} (f : ℕ → List Item) (m : ℕ) → ((j : ℕ) → length (f j) ≡ m) → (k n : ℕ) → length (spread f k n) ≡ n * m
unfolding spread
spread_length f m h k zero = omega arith
spread_length f m h k (suc n) =
    let x = length-append (f k) (spread f (k + 1) n) in
    let y = h k in
    let z = spread_length f m h (k + 1) n in
    omega arith

grid_length : {Item : Type 0} (f : ℕ → ℕ → Item) (x0 x1 y0 y1 : ℕ) → length (grid f x0 x1 y0 y1) ≡ (y1 - y0) * ((x1 - x0) * 1)
unfolding grid
grid_length f x0 x1 y0 y1 = spread_length _ ((x1 - x0) * 1) (λ y. spread_length (λ x. f x y ∷ []) 1 (λ x. refl) x0 (x1 - x0)) y0 (y1 - y0)

-- a box within a target of width by height pixels
abbrev OnTarget : ℕ → ℕ → PixelBox → Type 0
OnTarget width height p = (p.x1 ≤ width) × (p.y1 ≤ height)

box_few : (width height : ℕ) (t : Primitive) (p : PixelBox) → OnTarget width height p → length (box_items t p) ≤ width * height
unfolding box_items
box_few width height t p (i, j) =
    let e = grid_length (item_at t) p.x0 p.x1 p.y0 p.y1 in
    let x : (p.x1 - p.x0) * 1 ≤ width = omega arith in
    let y : p.y1 - p.y0 ≤ height = omega arith in
    omega (arith, e, mul-le-mul y x, mul_comm width height)

triangle_few : (width height : ℕ) (s : PipelineState) (view : View) (w : PixelBox) → OnTarget width height w → (t : Triangle) → length (triangle_items s view w t) ≤ width * height
unfolding triangle_items setup_for
triangle_few width height s view w (i, j) t = go (setup_for s view w t) refl
  where
    go : (x : Std.Option Raster) → setup_for s view w t ≡ x → length (setup_items t x) ≤ width * height
    go None e = omega arith
    go (Some r) e =
        let h = setup_within view _ _ _ w t.a t.b t.c r e in
        box_few width height (primitive_of r t.a t.b t.c) r.pixels (omega (arith, h.x_to), omega (arith, h.y_to))

each_few : (f : Triangle → List Item) (m : ℕ) → ((t : Triangle) → length (f t) ≤ m) → (l : List Triangle) → length (each_items f l) ≤ length l * m
unfolding each_items
each_few f m h [] = omega arith
each_few f m h (t ∷ l) = omega (arith, length-append (f t) (each_items f l), h t, each_few f m h l)

bounds_few : (s : PipelineState) (width height : ℕ) (a b c : Vertex) (x : Std.Option PixelBox) → Inside width height x → length (bounds_items s height a b c x) ≤ 40 * (width * height)
bounds_few s width height a b c None i = omega arith
bounds_few s width height a b c (Some w) (i, j, k, l) =
    let e = each_few (triangle_items s (view_of s.viewport height) w) (width * height) (triangle_few width height s (view_of s.viewport height) w (j, l)) (left_of a b c) in
    omega (arith, e, mul-le-mul (left_few a b c) (le_self (width * height)))
  where
    le_self : (n : ℕ) → n ≤ n
    le_self n = omega arith

pub items_few : (s : PipelineState) (width height : ℕ) (a b c : Vertex) → length (draw_items s width height a b c) ≤ 40 * (width * height)
unfolding draw_items
items_few s width height a b c = go (viewport_draws s.viewport)
  where
    x : Std.Option PixelBox
    x = bounds_of width height s.scissor

    go : (y : Bool) → length (cond y (bounds_items s height a b c x) []) ≤ 40 * (width * height)
    go true = bounds_few s width height a b c x (bounds_inside width height s.scissor)
    go false = omega arith

-- ---- a fragment writes its pixel at most once

wrote_once : (o : Option Pixel) → wrote o ≤ 1
wrote_once none = omega arith
wrote_once (some x) = omega arith

module _ (store : List ℕ) (d : Drawing) (width : ℕ) where
  run_few : (is : List Item) (c : Drawn) → (paint (step store d width) is c).count ≤ c.count + length is
  unfolding paint
  run_few [] c = omega arith
  run_few (i ∷ is) c =
      omega (arith, run_few is (step store d width i c), step_count store d width 0 i c, wrote_once (frag_of store d i (shown drawn c (pixel_no width i))).put)

  -- at most forty triangles are left by clipping, and each writes a pixel at most once
  pub count_few : (height : ℕ) (a b c : Vertex) (cs : List ℕ) (ds : List Float) → (drawn_of store d width height a b c (drawn_to cs ds 0)).count ≤ 40 * (width * height)
  count_few height a b c cs ds =
      let items = draw_items d.state width height a b c in
      omega (arith, ap (λ (k : Drawn). k.count) (draw_runs store d width height a b c (drawn_to cs ds 0)), run_few items (drawn_to cs ds 0), items_few d.state width height a b c)
