-- A pixel of a triangle of one colour. Assumes nothing.
use Rattle.std.proofs.lemmas.Bool.{false≢true}
use Rattle.std.specs.Prelude.{Some}
use Rattle.std.proofs.lemmas.Option.{none-some, some_pair_parts}
use mathlib.Core.Path.{◌≡◌, refl, sym, ◌∙◌}
use mathlib.Core.Bool.{Bool, true, false, cond}
use mathlib.Core.List.{List, []}
use Prim.Native.Nat.{ℕ, ◌+◌, ◌*◌}
use lib.ListN.{get_or, set}
use lib.Ieee.{Float, nan}
use Rattle.lists.proofs.Choice.{was_true}
use Rattle.settings.specs.declared.Rgba.{Rgba}
use Rattle.settings.specs.declared.PipelineState.{PipelineState}
use Rattle.fragment.specs.Fragment.{alpha_passes}
use Rattle.gradients.specs.declared.PerCorner.{PerCorner}
use Rattle.frames.specs.State.{pixel_at}
use Rattle.frames.specs.Gather.{put_color}
use Rattle.coverage.specs.declared.Primitive.{Primitive}
use Rattle.coverage.specs.Coverage.{weights_of, covered_by, depth_at, color_of}
use Rattle.pixels.specs.Way.{drawing, reaches, shaded_of, fog_depth_of, finished, fragment_of, blended_of, written_of, pixel_of, drawn_to}
use Rattle.plain_pixels.specs.Solid.{solid_of, solid_color}
use Rattle.pixels.proofs.Fragments.{flat_kept, reach, reached}
use Rattle.pixels.proofs.Pixels.{written_both, kept_pixel}

off : (b : Bool) {x : Bool} → cond b false x ≡ true → (b ≡ false) × (x ≡ true)
off true e = absurd (false≢true e)
off false e = (refl, e)

on : (b : Bool) {x : Bool} → cond b x false ≡ true → (b ≡ true) × (x ≡ true)
on true e = (refl, e)
on false e = absurd (false≢true e)

record Solid (s : PipelineState) : Type 0 where
  flat : s.smooth_shading ≡ false
  clear : s.fog ≡ false
  opaque : s.blend ≡ false
  untested : s.alpha_test ≡ false
  red : s.color_mask.r ≡ true
  green : s.color_mask.g ≡ true
  blue : s.color_mask.b ≡ true
  alpha : s.color_mask.a ≡ true

solid_is : (s : PipelineState) → solid_of s ≡ true → Solid s
unfolding solid_of
solid_is s e =
    let a = off s.smooth_shading e in
    let b = off s.fog a.1 in
    let c = off s.blend b.1 in
    let d = off s.alpha_test c.1 in
    let f = on s.color_mask.r d.1 in
    let g = on s.color_mask.g f.1 in
    let h = on s.color_mask.b g.1 in
    record { flat = a.0; clear = b.0; opaque = c.0; untested = d.0; red = f.0; green = g.0; blue = h.0; alpha = h.1 }

-- the fragment, at any weights: its depth, and the last corner's colour
module _ (s : PipelineState) (t : Primitive) (w : PerCorner Float) (stored : Float) (e : solid_of s ≡ true) where
  untested_passes : (alpha : Float) → true ≡ alpha_passes s alpha
  unfolding alpha_passes
  untested_passes alpha = rw (solid_is s e).untested

  solid_finished : Some (depth_at t.raster w, color_of false w t.vertices.a.color t.vertices.b.color t.vertices.c.color) ≡ finished s (depth_at t.raster w) (fog_depth_of t w) (shaded_of [] (drawing s [] 0 []) t w)
  solid_finished = let f = solid_is s e in flat_kept s t w w (depth_at t.raster w) _ refl f.flat f.clear (untested_passes _) refl

  pub solid_fragment : {z iw : Float} → reach [] (drawing s [] 0 []) t w stored ≡ Some (z, iw)
      → Some (depth_at t.raster w, color_of false w t.vertices.a.color t.vertices.b.color t.vertices.c.color) ≡ fragment_of [] (drawing s [] 0 []) t w stored
  solid_fragment h = solid_finished ∙ reached [] (drawing s [] 0 []) t w stored h

  -- and no other
  pub solid_only : {z : Float} {k : Rgba} → fragment_of [] (drawing s [] 0 []) t w stored ≡ Some (z, k) → k ≡ color_of false w t.vertices.a.color t.vertices.b.color t.vertices.c.color
  unfolding fragment_of
  solid_only {z = z} {k = k} h =
      sym (some_pair_parts _ _ _ _ (solid_finished ∙ (was_true (reaches s t w stored) h (none-some (z, k))).1)).1

module _ (s : PipelineState) (t : Primitive) (width py px : ℕ) (cs : List ℕ) (ds : List Float) (n : ℕ) (e : solid_of s ≡ true) where
  abbrev at : ℕ
  at = py * width + px

  abbrev w : PerCorner Float
  w = weights_of t.raster px py

  solid_colors : set (set (set (set cs (at * 4) (get_or (solid_color t) 0 0)) (at * 4 + 1) (get_or (solid_color t) 1 0)) (at * 4 + 2) (get_or (solid_color t) 2 0)) (at * 4 + 3) (get_or (solid_color t) 3 0)
      ≡ put_color cs at (written_of s nan (color_of false w t.vertices.a.color t.vertices.b.color t.vertices.c.color) (pixel_at cs [] at))
  unfolding put_color written_of blended_of solid_color color_of
  solid_colors = let f = solid_is s e in rw (f.opaque, f.red, f.green, f.blue, f.alpha)

  pub solid_kept : (z : Float) (k : Rgba) → covered_by w ≡ true → fragment_of [] (drawing s [] 0 []) t w (get_or ds at nan) ≡ Some (z, k)
      → drawn_to (set (set (set (set cs (at * 4) (get_or (solid_color t) 0 0)) (at * 4 + 1) (get_or (solid_color t) 1 0)) (at * 4 + 2) (get_or (solid_color t) 2 0)) (at * 4 + 3) (get_or (solid_color t) 3 0))
      (set ds at (cond s.depth_write z (get_or ds at nan))) (n + 1)
      ≡ pixel_of [] (drawing s [] 0 []) t width py px (drawn_to cs ds n)
  solid_kept z k h f =
      written_both s z k cs ds n at (rw (solid_only s t w (get_or ds at nan) e f) solid_colors) refl
      ∙ kept_pixel [] (drawing s [] 0 []) t width py px cs ds n z k h f
