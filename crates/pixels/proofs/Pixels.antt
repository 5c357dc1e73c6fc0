-- The three ways of a pixel: not covered, its fragment dropped, its fragment kept. Assumes nothing.
use Rattle.std.specs.Prelude.{Some, None}
use Rattle.std.proofs.Math.Option.{some}
use mathlib.Core.Path.{◌≡◌}
use mathlib.Core.Bool.{true, false, cond}
use mathlib.Core.List.{List, []}
use Prim.Native.Nat.{ℕ, ◌+◌, ◌*◌}
use lib.ListN.{get_or, set}
use lib.Ieee.{Float, nan}
use Rattle.settings.specs.declared.Rgba.{Rgba}
use Rattle.settings.specs.declared.PipelineState.{PipelineState}
use Rattle.frames.specs.State.{pixel_at}
use Rattle.frames.specs.Gather.{put_color, put_pixel}
use Rattle.coverage.specs.declared.Primitive.{Primitive}
use Rattle.coverage.specs.Coverage.{weights_of, covered_by}
use Rattle.pixels.specs.Way.{Drawing, fragment_of, blended_of, written_of, frag_at, pixel_of, drawn_to}

-- a pixel's bytes and its depth, written one after the other
pub written_both : (s : PipelineState) (z : Float) (k : Rgba) (cs : List ℕ) (ds : List Float) (n i : ℕ) {cs' : List ℕ} {ds' : List Float}
    → cs' ≡ put_color cs i (written_of s nan k (pixel_at cs [] i)) → ds' ≡ set ds i (cond s.depth_write z (get_or ds i nan))
    → drawn_to cs' ds' (n + 1) ≡ put_pixel (drawn_to cs ds n) i (some (written_of s z k (pixel_at cs ds i)))
unfolding put_pixel put_color written_of blended_of pixel_at
written_both s z k cs ds n i e f = rw (e, f)

module _ (store : List ℕ) (d : Drawing) (t : Primitive) (width py px : ℕ) (cs : List ℕ) (ds : List Float) (n : ℕ) where
  abbrev at : ℕ
  at = py * width + px

  pub not_covered : covered_by (weights_of t.raster px py) ≡ false → drawn_to cs ds n ≡ pixel_of store d t width py px (drawn_to cs ds n)
  unfolding pixel_of frag_at put_pixel
  not_covered e = rw e

  pub dropped : covered_by (weights_of t.raster px py) ≡ true → fragment_of store d t (weights_of t.raster px py) (get_or ds at nan) ≡ None
      → drawn_to cs ds n ≡ pixel_of store d t width py px (drawn_to cs ds n)
  unfolding pixel_of frag_at put_pixel pixel_at
  dropped e f = rw (e, f)

  pub kept_pixel : (z : Float) (k : Rgba) → covered_by (weights_of t.raster px py) ≡ true → fragment_of store d t (weights_of t.raster px py) (get_or ds at nan) ≡ Some (z, k)
      → put_pixel (drawn_to cs ds n) at (some (written_of d.state z k (pixel_at cs ds at))) ≡ pixel_of store d t width py px (drawn_to cs ds n)
  unfolding pixel_of frag_at pixel_at
  kept_pixel z k e f = rw (e, f)
