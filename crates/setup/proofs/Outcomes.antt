-- What follows of a triangle left by clipping: the corners of document 01, and where its pixels lie. Assumes nothing.
use Rattle.std.proofs.lemmas.Option.{none-some}
use Rattle.std.proofs.lemmas.Bool.{and_parts}
use Rattle.std.specs.Prelude.{Option, Some, None}
use Prim.Native.Nat.{ℕ, ◌<◌, ◌≤◌}
use mathlib.Core.Path.{◌≡◌, refl}
use mathlib.Core.Bool.{Bool, true, false, cond, ◌&&◌}
use native.Mathlib.Omega.{arith}
use lib.Dec.{ltb}
use lib.Ieee.{Float}
use borrow.Author.Tests.{ltb-true}
use Rattle.std.proofs.lemmas.Bool.{and_parts}
use Rattle.std.proofs.lemmas.Option.{none-some}
use Rattle.lists.proofs.Choice.{was_true, was_false}
use Rattle.settings.specs.declared.DepthRange.{DepthRange}
use Rattle.settings.specs.declared.FrontFace.{FrontFace}
use Rattle.vertices.specs.declared.Vertex.{Vertex}
use Rattle.screen.specs.declared.View.{View}
use Rattle.screen.specs.declared.ScreenVertex.{ScreenVertex}
use Rattle.screen.specs.Screen.{divides, screen_of, corner_of}
use Rattle.screen.specs.Facing.{area_of, area_fits, front_of, discard_of}
use Rattle.scissor.specs.declared.PixelBox.{PixelBox}
use Rattle.setup.specs.declared.Raster.{Raster}
use Rattle.setup.specs.Box.{start_of, end_of, covered_of}
use Rattle.setup.specs.Setup.{raster_of, on_screen, with_corner, setup_of}
use Rattle.settings.specs.declared.CullMode.{CullMode}

-- ---- the corners' tests

with_none : (x : Option ScreenVertex) (f : ScreenVertex → Option Raster) → ((p : ScreenVertex) → f p ≡ None) → with_corner x f ≡ None
with_none None f h = refl
with_none (Some p) f h = h p

module _ (view : View) (r : DepthRange) (f : FrontFace) (cull : Option CullMode) (within : PixelBox) (a b c : Vertex) where
  -- w below 1e-9 in magnitude or not finite, or a divided corner not finite: the triangle draws nothing
  pub first_undivided : divides a ≡ false → setup_of view r f cull within a b c ≡ None
  unfolding setup_of corner_of
  first_undivided h = rw h

  pub second_undivided : divides b ≡ false → setup_of view r f cull within a b c ≡ None
  unfolding setup_of corner_of
  second_undivided h = with_none (corner_of view r a) _ (λ p. rw h)

  pub third_undivided : divides c ≡ false → setup_of view r f cull within a b c ≡ None
  unfolding setup_of corner_of
  third_undivided h = with_none (corner_of view r a) _ (λ p. with_none (corner_of view r b) _ (λ q. rw h))

  pub all_divided : divides a ≡ true → divides b ≡ true → divides c ≡ true → setup_of view r f cull within a b c ≡ on_screen f cull within (screen_of view r a) (screen_of view r b) (screen_of view r c)
  unfolding setup_of corner_of
  all_divided ha hb hc = rw (ha, hb, hc)

-- ---- the pixels

-- p lies within q, and has a pixel
pub record Within (p q : PixelBox) : Type 0 where
  pub x_from : q.x0 ≤ p.x0
  pub x_some : p.x0 < p.x1
  pub x_to : p.x1 ≤ q.x1
  pub y_from : q.y0 ≤ p.y0
  pub y_some : p.y0 < p.y1
  pub y_to : p.y1 ≤ q.y1

start_from : (m : Float) (lo : ℕ) → lo ≤ start_of m lo
unfolding start_of
start_from m lo = omega arith

end_to : (m : Float) (hi : ℕ) → end_of m hi ≤ hi
unfolding end_of
end_to m hi = omega arith

module _ (a b c : ScreenVertex) {r : Raster} where
  pixels_are : {x0 y0 x1 y1 : ℕ} → raster_of a b c (Some (record { x0 = x0; y0 = y0; x1 = x1; y1 = y1 })) ≡ Some r → record { x0 = x0; y0 = y0; x1 = x1; y1 = y1 } ≡ r.pixels
  pixels_are e = cc

  box_in : (x0 y0 x1 y1 : ℕ) (t : Bool) → (ltb x0 x1 && ltb y0 y1) ≡ t → raster_of a b c (cond t (Some (record { x0 = x0; y0 = y0; x1 = x1; y1 = y1 })) None) ≡ Some r → (x0 < x1) × (y0 < y1) × (record { x0 = x0; y0 = y0; x1 = x1; y1 = y1 } ≡ r.pixels)
  box_in x0 y0 x1 y1 true h e =
      let k = and_parts (ltb x0 x1) (ltb y0 y1) h in
      (ltb-true _ _ k.0, ltb-true _ _ k.1, pixels_are e)
  box_in x0 y0 x1 y1 false h e = absurd (none-some _ e)

module _ (f : FrontFace) (cull : Option CullMode) (within : PixelBox) (a b c : ScreenVertex) {r : Raster} where
  -- what a triangle that draws has passed
  pub drawn_by : on_screen f cull within a b c ≡ Some r
      → (area_fits (area_of a b c) ≡ true) × (discard_of cull (front_of f (area_of a b c)) ≡ false) × (raster_of a b c (covered_of a b c within) ≡ Some r)
  unfolding on_screen
  drawn_by e =
      let h = was_true (area_fits (area_of a b c)) e (none-some _) in
      let k = was_false (discard_of cull (front_of f (area_of a b c))) h.1 (none-some _) in
      (h.0, k.0, k.1)

  -- its pixels lie in the box that they are cut to
  pub drawn_within : on_screen f cull within a b c ≡ Some r → Within r.pixels within
  unfolding covered_of
  drawn_within e =
      let h = box_in a b c _ _ _ _ _ refl (drawn_by e).2 in
      rw (← h.2)
      (record {
        x_from = start_from _ _;
        x_some = h.0;
        x_to = end_to _ _;
        y_from = start_from _ _;
        y_some = h.1;
        y_to = end_to _ _;
      })
