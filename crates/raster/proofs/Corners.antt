-- Document 01, Corners, raster.rs: triangles left by clipping that write nothing. The other triangles of their fan are drawn all the same,
-- since each is a step of its own. Assumes nothing.
use Rattle.lists.proofs.Choice.{neither}
use Rattle.std.proofs.lemmas.Bool.{false≢true}
use Rattle.std.specs.Prelude.{Some, None}
use mathlib.Core.Path.{◌≡◌, refl, sym, ◌∙◌}
use mathlib.Core.Logic.{◌⊎◌, inl, inr}
use mathlib.Core.Bool.{Bool, true, false, cond}
use mathlib.Core.List.{List, []}
use mathlib.Core.Option.{none}
use Prim.Native.Nat.{ℕ, ◌+◌, ◌*◌}
use lib.Dec.{eqb}
use lib.Ieee as Ieee
use lib.Ieee.{Float, nan, inf, fin}
use Rattle.lists.proofs.Turns.{between_keep}
use Rattle.floats.specs.Num.{◌⊕◌, ◌⊖◌, ◌⊗◌, one32, finite_of}
use Rattle.fragment.specs.Fragment.{depth_passes}
use Rattle.vertices.specs.declared.Vertex.{Vertex}
use Rattle.clip.specs.Fan.{triangle_of}
use Rattle.gradients.specs.declared.PerCorner.{PerCorner}
use Rattle.gradients.specs.Gradients.{per_corner, sum_of}
use Rattle.screen.specs.declared.View.{View}
use Rattle.screen.specs.Screen.{divides, screen_of}
use Rattle.screen.specs.Facing.{area_of, area_fits}
use Rattle.scissor.specs.declared.PixelBox.{PixelBox}
use Rattle.setup.specs.declared.Raster.{Raster}
use Rattle.setup.specs.Setup.{setup_of, on_screen}
use Rattle.setup.proofs.Outcomes.{first_undivided, second_undivided, third_undivided, all_divided}
use Rattle.frames.specs.State.{Pixel, pixel_at}
use Rattle.frames.specs.Gather.{Drawn, Frag, put_pixel}
use Rattle.coverage.specs.declared.Primitive.{Primitive}
use Rattle.coverage.specs.Coverage.{edge_of, weights_of, covered_by, depth_at, inv_w_at, usable}
use Rattle.stages.specs.Stages.{stages_addresses}
use Rattle.pixels.specs.Way.{Drawing, reaches, rec_of, fragment_of, left_by, frag_at, pixel_of}
use Rattle.raster.specs.Fill.{primitive_of, row_of, fill_of, raster_of}
use Rattle.raster.proofs.Setups.{nothing_drawn, filled}

-- ---- a corner that cannot be divided, an area that is 0 or not finite

module _ (store : List ℕ) (d : Drawing) (view : View) (within : PixelBox) (width : ℕ) (a b c : Vertex) (s : Drawn) where
  nothing : setup_of view d.state.depth_range d.state.front_face d.state.cull within a b c ≡ None → raster_of store d view within width (triangle_of a b c) s ≡ s
  nothing e = sym (nothing_drawn store d view within width a b c s e)

  -- w below 1e-9 in magnitude or not finite, or a divided corner not finite
  pub first_corner_nothing : divides a ≡ false → raster_of store d view within width (triangle_of a b c) s ≡ s
  first_corner_nothing e = nothing (first_undivided view _ _ _ within a b c e)

  pub second_corner_nothing : divides b ≡ false → raster_of store d view within width (triangle_of a b c) s ≡ s
  second_corner_nothing e = nothing (second_undivided view _ _ _ within a b c e)

  pub third_corner_nothing : divides c ≡ false → raster_of store d view within width (triangle_of a b c) s ≡ s
  third_corner_nothing e = nothing (third_undivided view _ _ _ within a b c e)

  -- an area that is 0 or not finite
  pub no_area_nothing : divides a ≡ true → divides b ≡ true → divides c ≡ true
      → area_fits (area_of (screen_of view d.state.depth_range a) (screen_of view d.state.depth_range b) (screen_of view d.state.depth_range c)) ≡ false
      → raster_of store d view within width (triangle_of a b c) s ≡ s
  unfolding on_screen
  no_area_nothing ha hb hc e = nothing (all_divided view _ _ _ within a b c ha hb hc ∙ rw e)

-- ---- an area whose reciprocal is infinite

-- infinite, or no number
wild : Float → Bool
wild nan = true
wild (inf s) = true
wild (fin s m e) = false

wild_times : (x : Float) (b : Bool) → wild (x ⊗ inf b) ≡ true
unfolding Ieee.mul wild
wild_times nan b = refl
wild_times (inf s) b = refl
wild_times (fin s m e) b = go (eqb m 0)
  where
    go : (t : Bool) → wild (cond t nan (inf (Ieee.unlike s b))) ≡ true
    go true = refl
    go false = refl

wild_edge : (t : Raster) (px py : ℕ) (b : Bool) → t.inv_area ≡ inf b → (wild (weights_of t px py).a ≡ true) × (wild (weights_of t px py).b ≡ true)
unfolding weights_of edge_of
wild_edge t px py b e = (rw e (wild_times _ b), rw e (wild_times _ b))

-- such weights: a negative one, or no number among the first two
torn : (x y : Float) → wild x ≡ true → wild y ≡ true → (covered_by (per_corner x y (one32 ⊖ x ⊖ y)) ≡ false) ⊎ ((x ≡ nan) ⊎ (y ≡ nan))
unfolding covered_by Ieee.lt Ieee.of_bits Ieee.sub Ieee.add Ieee.neg wild
torn nan y e f = inr (inl refl)
torn (inf true) y e f = inl refl
torn (inf false) nan e f = inr (inr refl)
torn (inf false) (inf true) e f = inl refl
torn (inf false) (inf false) e f = inl refl
torn (inf false) (fin s m k) e f = absurd (false≢true f)
torn (fin s m k) y e f = absurd (false≢true e)

plus_nan : (x : Float) → x ⊕ nan ≡ nan
unfolding Ieee.add
plus_nan nan = refl
plus_nan (inf s) = refl
plus_nan (fin s m e) = refl

nan_first : (w v : PerCorner Float) → w.a ≡ nan → sum_of w v ≡ nan
unfolding sum_of Ieee.mul Ieee.add
nan_first w v e = rw e

nan_second : (w v : PerCorner Float) → w.b ≡ nan → sum_of w v ≡ nan
unfolding sum_of Ieee.mul Ieee.add
nan_second w v e = rw (e, plus_nan (w.a ⊗ v.a)) (plus_first (w.c ⊗ v.c))
  where
    plus_first : (x : Float) → nan ⊕ x ≡ nan
    plus_first x = refl

nan_unusable : (x : Float) → x ≡ nan → usable x ≡ false
unfolding usable Ieee.le finite_of
nan_unusable x e = rw e

-- Kept: two lines, which no crate below hands out (8e)
module _ (store : List ℕ) (d : Drawing) (t : Primitive) (b : Bool) (e : t.raster.inv_area ≡ inf b) where
  unreached : (px py : ℕ) (stored : Float) → usable (inv_w_at t.raster (weights_of t.raster px py)) ≡ false
      → fragment_of store d t (weights_of t.raster px py) stored ≡ None
  unfolding fragment_of reaches
  unreached px py stored h = rw (h, neither (depth_passes d.state (depth_at t.raster (weights_of t.raster px py)) stored))

  unusable : (px py : ℕ) → ((weights_of t.raster px py).a ≡ nan) ⊎ ((weights_of t.raster px py).b ≡ nan) → usable (inv_w_at t.raster (weights_of t.raster px py)) ≡ false
  unfolding inv_w_at
  unusable px py (inl h) = nan_unusable _ (nan_first (weights_of t.raster px py) _ h)
  unusable px py (inr h) = nan_unusable _ (nan_second (weights_of t.raster px py) _ h)

  ways : (px py : ℕ) → (covered_by (weights_of t.raster px py) ≡ false) ⊎ (((weights_of t.raster px py).a ≡ nan) ⊎ ((weights_of t.raster px py).b ≡ nan))
  unfolding weights_of
  ways px py = let h = wild_edge t.raster px py b e in torn _ _ h.0 h.1

  no_write : (px py : ℕ) (old : Pixel) → (frag_at store d t px py old).put ≡ none
  unfolding frag_at
  no_write px py old = go (ways px py)
    where
      w : PerCorner Float
      w = weights_of t.raster px py

      either : fragment_of store d t w old.depth ≡ None → (k : Bool)
          → (cond {A = Frag} k (record { put = left_by d.state (fragment_of store d t w old.depth) old; took = cond (reaches d.state t w old.depth) (stages_addresses d.stages d.count d.textures t w (rec_of t w)) [] }) (record { put = none; took = [] })).put ≡ none
      either h true = rw h
      either h false = refl

      go : (covered_by w ≡ false) ⊎ ((w.a ≡ nan) ⊎ (w.b ≡ nan)) → (frag_at store d t px py old).put ≡ none
      go (inl h) = rw h
      go (inr h) = either (unreached px py old.depth (unusable px py h)) (covered_by w)

  -- no pixel is written
  pub no_pixel : (width py px : ℕ) (s : Drawn) → pixel_of store d t width py px s ≡ s
  unfolding pixel_of put_pixel
  no_pixel width py px s = rw (no_write px py (pixel_at s.colors s.depths (py * width + px)))

  no_row : (width x0 x1 py : ℕ) (s : Drawn) → row_of store d t width x0 x1 py s ≡ s
  unfolding row_of
  no_row width x0 x1 py s = between_keep (pixel_of store d t width py) (λ x. x ≡ s) (λ px x h. no_pixel width py px x ∙ h) x0 x1 s refl

  pub nothing_filled : (width : ℕ) (p : PixelBox) (s : Drawn) → fill_of store d t width p s ≡ s
  unfolding fill_of
  nothing_filled width p s = between_keep (row_of store d t width p.x0 p.x1) (λ x. x ≡ s) (λ py x h. no_row width p.x0 p.x1 py x ∙ h) p.y0 p.y1 s refl

-- the triangle whose area is so small that its reciprocal is infinite
pub tiny_area_nothing : (store : List ℕ) (d : Drawing) (view : View) (within : PixelBox) (width : ℕ) (a b c : Vertex) (s : Drawn) (r : Raster) (sign : Bool)
    → setup_of view d.state.depth_range d.state.front_face d.state.cull within a b c ≡ Some r → r.inv_area ≡ inf sign
    → raster_of store d view within width (triangle_of a b c) s ≡ s
unfolding primitive_of
tiny_area_nothing store d view within width a b c s r sign e h =
    sym (filled store d view within width a b c s e) ∙ nothing_filled store d (primitive_of r a b c) sign h width r.pixels s
