-- The fan that clipping leaves, as a loop draws it. Assumes nothing.
use mathlib.Core.Path.{◌≡◌, refl, ap}
use mathlib.Core.List.{List, [], ◌∷◌}
use mathlib.Core.Bool.{true, false}
use Prim.Native.Nat.{ℕ, ◌<◌, ◌≤◌}
use native.Mathlib.Omega.{arith}
use lib.ListN.{length, get_or, take, drop}
use Rattle.vertices.specs.declared.Vertex.{Vertex}
use Rattle.vertices.specs.Vertex.{past}
use Rattle.clip.specs.Clip.{clipped, all_inside}
use Rattle.clip.specs.Fan.{Triangle, triangle_of, fan_at, fan_of, draw_each}
use Rattle.clip.proofs.Laws.{clipped_few}
use Rattle.clip.proofs.Fans.{left_inside, left_clipped}
use Rattle.screen.specs.declared.View.{View}
use Rattle.scissor.specs.declared.PixelBox.{PixelBox}
use Rattle.frames.specs.Gather.{Drawn}
use Rattle.pixels.specs.Way.{Drawing}
use Rattle.raster.specs.Fill.{raster_of, left_drawn}

-- without a corner there is no triangle
pub fan_none : {S : Type 0} (f : Triangle → S → S) (l : List Vertex) (x : S) → length l ≡ 0 → draw_each f (fan_of l) x ≡ x
unfolding fan_of draw_each
fan_none f [] x h = refl
fan_none f (v ∷ l) x h = absurd (omega (arith, h))

-- at the end of a fan: under two corners beside the first
pub fan_end : {S : Type 0} (f : Triangle → S → S) (v : Vertex) (l : List Vertex) (x : S) → length l < 2 → draw_each f (fan_at v l) x ≡ x
unfolding fan_at draw_each
fan_end f v [] x h = refl
fan_end f v (b ∷ []) x h = refl
fan_end f v (b ∷ c ∷ l) x h = absurd (omega (arith, h))

-- one triangle of a fan: with the next two corners
pub fan_more : {S : Type 0} (f : Triangle → S → S) (v : Vertex) (l : List Vertex) (x : S) → 2 ≤ length l
    → draw_each f (fan_at v l) x ≡ draw_each f (fan_at v (drop 1 l)) (f (triangle_of v (get_or (take 2 l) 0 past) (get_or (take 2 l) 1 past)) x)
unfolding fan_at draw_each
fan_more f v [] x h = absurd (omega (arith, h))
fan_more f v (b ∷ []) x h = absurd (omega (arith, h))
fan_more f v (b ∷ c ∷ l) x h = refl

-- how many corners clipping leaves
pub corners_few : (a b c : Vertex) {l : List Vertex} → l ≡ clipped (a ∷ b ∷ c ∷ []) → length l ≤ 42
corners_few a b c e = omega (arith, ap length e, clipped_few (a ∷ b ∷ c ∷ []) (omega arith))

-- the fan of a first corner and the rest
pub fan_from : {S : Type 0} (f : Triangle → S → S) (v : Vertex) (l k : List Vertex) (x : S) → k ≡ v ∷ l → draw_each f (fan_at v l) x ≡ draw_each f (fan_of k) x
unfolding fan_of
fan_from f v l k x e = rw e refl

-- a triangle wholly inside is drawn as it is, another as its fan
module _ (store : List ℕ) (d : Drawing) (view : View) (within : PixelBox) (width : ℕ) (a b c : Vertex) (s : Drawn) where
  pub whole_drawn : all_inside a b c ≡ true → raster_of store d view within width (triangle_of a b c) s ≡ left_drawn store d view within width a b c s
  unfolding left_drawn draw_each
  whole_drawn e = rw (left_inside a b c e)

  pub clipped_drawn : all_inside a b c ≡ false → draw_each (raster_of store d view within width) (fan_of (clipped (a ∷ b ∷ c ∷ []))) s ≡ left_drawn store d view within width a b c s
  unfolding left_drawn
  clipped_drawn e = rw (left_clipped a b c e)
