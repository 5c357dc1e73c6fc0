use borrow.Author.Rules.{rules}
use mathlib.Core.Path.{◌≡◌, sym, ap, ◌∙◌}
use mathlib.Core.List.{[], ◌∷◌}
use Prim.Native.Nat.{◌≤◌}
use lib.ListN.{length, length-drop}
use native.Mathlib.Omega.{arith}
use Rattle.std.specs.Slice.Iter.{windows_rest}
use Rattle.std.specs.Slice.ArrayWindows.{array_windows_parts}
use Rattle.clip.specs.Clip.{clipped}
use Rattle.raster.proofs.Fills.{same_still, same_on}
use Rattle.raster.proofs.Fans.{fan_none, fan_from, fan_more, fan_end, corners_few}
use Rattle.raster.proofs.draw_fan.Goals as goal

pub returns-in_default-clause-drawn : goal.returns-in_default-clause-drawn
returns-in_default-clause-drawn g c =
    let left : c.clip_frustum-polygon.result.now ≡ clipped (c.args.t.a ∷ c.args.t.b ∷ c.args.t.c ∷ []) = rw (c.push-3.ensures, c.push-2.ensures, c.push.ensures, c.new.ensures) at c.clip_frustum-polygon.ensures in
    sym (fan_none _ _ _ (omega (arith, ap length (c.corners.ensures.same ∙ left), c.in_default.ensures.cases)))

pub loop-pair-init : goal.loop-pair-init
loop-pair-init g c =
    let left : c.clip_frustum-polygon.result.now ≡ clipped (c.args.t.a ∷ c.args.t.b ∷ c.args.t.c ∷ []) = rw (c.push-3.ensures, c.push-2.ensures, c.push.ensures, c.new.ensures) at c.clip_frustum-polygon.ensures in
    let same = c.corners.ensures.same ∙ left in
    let few = corners_few c.args.t.a c.args.t.b c.args.t.c same in
    let others : windows_rest (array_windows_parts c.into_iter-pair-iterator.result) ≡ c.in-Some.rest.now = search rules in
    (rw others (fan_from _ _ _ _ _ (sym same ∙ c.in-Some.ensures.cases.0)), same_still, search rules, omega (arith, ap length others, c.in-Some.ensures.cases.1, few, c.requires))

pub loop-pair-preserved : goal.loop-pair-preserved
loop-pair-preserved g c =
    let s = c.loop-pair.invariant.1 in
    let steps = c.in-Some-pair.ensures.steps in
    let size = c.loop-pair.invariant.2 in
    let long : 2 ≤ length (windows_rest (array_windows_parts c.loop-pair.pair-iterator)) = omega (arith, size, steps.1.0) in
    let now = rw size at steps.1.1 in
    let less = length-drop 1 (windows_rest (array_windows_parts c.loop-pair.pair-iterator)) in (
      rw (steps.1.2, rw (s.width, s.within) at c.raster_clipped.ensures.drawn, now) (sym (fan_more _ _ _ _ long) ∙ c.loop-pair.invariant.0),
      same_on s c.raster_clipped.ensures.same,
      steps.0 ∙ size,
      omega (arith, ap length steps.1.2, less, long, c.loop-pair.invariant.3, c.raster_clipped.ensures.count),
    )

pub returns-clause-drawn : goal.returns-clause-drawn
returns-clause-drawn g c = sym (fan_end _ _ _ _ (omega (arith, c.in-None.ensures.steps.1.0, c.loop-pair.invariant.2))) ∙ c.loop-pair.invariant.0
