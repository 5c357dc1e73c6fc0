-- The ways of a fragment: its depth fails, its 1/w is of no use, or it reaches the stages. Assumes nothing.
use Rattle.std.proofs.lemmas.Bool.{true≢false}
use Rattle.std.specs.Prelude.{Option, Some, None}
use mathlib.Core.Path.{◌≡◌, refl, sym, ◌∙◌}
use mathlib.Core.Bool.{Bool, true, false, cond, not}
use mathlib.Core.List.{List, []}
use Prim.Native.Nat.{ℕ}
use lib.Ieee.{Float}
use Rattle.std.proofs.lemmas.Option.{none-some, cond_some, some_pair_parts}
use Rattle.lists.specs.Lists.{iter}
use Rattle.lists.proofs.Choice.{stay, leave, was_false, was_true}
use Rattle.settings.specs.declared.Rgba.{Rgba}
use Rattle.settings.specs.declared.PipelineState.{PipelineState}
use Rattle.fragment.specs.Fragment.{alpha_passes, fogged_of}
use Rattle.gradients.specs.declared.PerCorner.{PerCorner}
use Rattle.coverage.specs.declared.Primitive.{Primitive}
use Rattle.coverage.specs.Coverage.{depth_at, inv_w_at, color_of}
use Rattle.stages.specs.Stages.{stages_color}
use Rattle.pixels.specs.Way.{Drawing, drawing, reaches, shares, shaded_of, fog_depth_of, finished, fragment_of}

-- ---- without a stage

-- the colour between the corners stays
pub unstaged : (s : PipelineState) (t : Primitive) (w : PerCorner Float)
    → color_of s.smooth_shading (shares t w) t.vertices.a.color t.vertices.b.color t.vertices.c.color ≡ shaded_of [] (drawing s [] 0 []) t w
unfolding shaded_of stages_color iter
unstaged s t w = refl

pub flat_is : {r : Bool} (s f : Bool) → r ≡ cond s false (not f) → r ≡ true → (s ≡ false) × (f ≡ false)
flat_is true f e h = absurd (true≢false (sym h ∙ e))
flat_is false true e h = absurd (true≢false (sym h ∙ e))
flat_is false false e h = (refl, refl)

-- a flat colour needs no weights, and without fog no fog depth
module _ (s : PipelineState) (t : Primitive) (w p : PerCorner Float) (z : Float) (c : Rgba) (k : c ≡ color_of false p t.vertices.a.color t.vertices.b.color t.vertices.c.color)
    (e : s.smooth_shading ≡ false) (f : s.fog ≡ false) {x : Bool} (a : x ≡ alpha_passes s c.a) where
  flat_finished : cond (alpha_passes s c.a) (Some (z, c)) None ≡ finished s z (fog_depth_of t w) (shaded_of [] (drawing s [] 0 []) t w)
  unfolding finished fogged_of color_of
  flat_finished = rw (← unstaged s t w, k, e, f)

  pub flat_dropped : not x ≡ true → None ≡ finished s z (fog_depth_of t w) (shaded_of [] (drawing s [] 0 []) t w)
  flat_dropped h = leave (Some (z, c)) a h refl ∙ flat_finished

  pub flat_kept : not x ≡ false → Some (z, c) ≡ finished s z (fog_depth_of t w) (shaded_of [] (drawing s [] 0 []) t w)
  flat_kept h = stay None a h refl ∙ flat_finished

module _ (store : List ℕ) (d : Drawing) (t : Primitive) (w : PerCorner Float) (stored : Float) where
  -- its depth and 1/w, if it reaches the stages
  abbrev pub reach : Option (Float × Float)
  reach = cond (reaches d.state t w stored) (Some (depth_at t.raster w, inv_w_at t.raster w)) None

  pub unreached : reach ≡ None → None ≡ fragment_of store d t w stored
  unfolding fragment_of
  unreached e = rw (was_false (reaches d.state t w stored) e (λ h. none-some _ (sym h))).0

  pub reached : {z iw : Float} → reach ≡ Some (z, iw) → finished d.state (depth_at t.raster w) (fog_depth_of t w) (shaded_of store d t w) ≡ fragment_of store d t w stored
  unfolding fragment_of
  reached e = rw (cond_some (reaches d.state t w stored) _ _ e).0

  pub reached_at : {z iw : Float} → reach ≡ Some (z, iw) → (z ≡ depth_at t.raster w) × (iw ≡ inv_w_at t.raster w)
  reached_at e = let h = some_pair_parts _ _ _ _ (cond_some_is e) in (sym h.0, sym h.1)
    where
      cond_some_is : {z iw : Float} → reach ≡ Some (z, iw) → ◌≡◌ {A = Option (Float × Float)} (Some (depth_at t.raster w, inv_w_at t.raster w)) (Some (z, iw))
      cond_some_is e = (was_true (reaches d.state t w stored) e (none-some _)).1
