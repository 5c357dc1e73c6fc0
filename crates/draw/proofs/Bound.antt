-- A draw on the stages in use alone, with the records bound to them. Assumes nothing.
use mathlib.Core.Path.{◌≡◌, sym, ◌∙◌}
use mathlib.Core.Bool.{true}
use mathlib.Core.List.{List}
use Prim.Native.Nat.{ℕ, ◌≤◌}
use native.Mathlib.Omega.{arith}
use lib.ListN.{length, take}
use Rattle.std.proofs.lemmas.List.{length-take-le}
use Rattle.levels.specs.declared.Texture.{Texture}
use Rattle.settings.specs.declared.TextureStage.{TextureStage}
use Rattle.settings.specs.declared.PipelineState.{PipelineState}
use Rattle.vertices.specs.declared.Vertex.{Vertex}
use Rattle.stages.specs.Stages.{StagesFit}
use Rattle.frames.specs.Gather.{Drawn}
use Rattle.pixels.specs.Way.{drawing}
use Rattle.raster.specs.Fill.{drawn_of}
use Rattle.draw_checks.specs.Checks.{stages_fit, late_check}
use Rattle.draw_checks.proofs.Passed.{stages_few, stages_do_fit, late_records}
use Rattle.draw_checks.proofs.Cut.{stages_cut, late_cut}
use Rattle.draw.specs.Draw.{bound_to}
use Rattle.draw.proofs.Cut.{bound_cut, bound_four, colors_cut}
use Rattle.draw.proofs.Same.{same_drawn}

-- r: four records, of which the first n are bound to the stages in use
module _ (stages : List TextureStage) (n : ℕ) (units r : List Texture) (fit : stages_fit stages n ≡ true) (four : length stages ≡ 4) (long : length r ≡ 4)
    (e : take (length (take n stages)) r ≡ take (length (take n stages)) (bound_to (take n stages) (length (take n stages)) units)) where
  abbrev bound : List Texture
  bound = bound_to stages n units

  in_stages : n ≤ length stages
  in_stages = let few = stages_few stages n fit in omega (arith, few, four)

  in_bound : n ≤ length bound
  in_bound = let few = stages_few stages n fit in let long = bound_four stages n units in omega (arith, few, long)

  taken : take n r ≡ take n bound
  taken = rw (bound_cut stages n units in_stages, length-take-le n stages in_stages) at e

  pub each : length (take n r) ≡ length (take n stages)
  each = let few = stages_few stages n fit in length-take-le n r (omega (arith, few, long)) ∙ sym (length-take-le n stages in_stages)

  pub late_is : (len : ℕ) (a b c : Vertex) → late_check len (length (take n r)) (take n r) a b c ≡ late_check len n bound a b c
  late_is len a b c = rw taken (late_cut len n bound a b c in_bound)

  pub fits : (len : ℕ) (a b c : Vertex) → late_check len (length (take n r)) (take n r) a b c ≡ 0 → StagesFit len (length (take n stages)) (take n stages) (take n r)
  fits len a b c passed = stages_do_fit (take n stages) (length (take n stages)) (stages_cut stages n in_stages fit) len (take n r) (rw each at (late_records len (length (take n r)) (take n r) a b c passed))

  pub drawn_is : (store : List ℕ) (s : PipelineState) (width height : ℕ) (a b c : Vertex) (x : Drawn)
      → drawn_of store (drawing s (take n stages) (length (take n stages)) (take n r)) width height a b c x ≡ drawn_of store (drawing s stages n bound) width height a b c x
  drawn_is store s width height a b c x =
      rw taken (same_drawn s store store (take n stages) stages (length (take n stages)) n (take n bound) bound (λ t w rec frag. colors_cut store stages n bound t w rec frag in_stages in_bound) width height a b c x)
