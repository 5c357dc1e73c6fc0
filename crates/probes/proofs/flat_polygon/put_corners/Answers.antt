use Rattle.std.proofs.Common.{◌≡◌, arith, rules, sym, ap, ◌∙◌, length, take_all}
use Rattle.std.proofs.lemmas.List.{take_more}
use Rattle.probes.proofs.Corners.{corners_none, corners_more}
use Rattle.probes.proofs.flat_polygon.put_corners.Goals as goal

pub loop-i-init : goal.loop-i-init
loop-i-init c = (search rules, corners_none _)

pub put_corner-requires : goal.put_corner-requires
put_corner-requires c = omega (arith, ap length c.corners-vertex-items.ensures.same)

pub loop-i-preserved : goal.loop-i-preserved
loop-i-preserved c =
    let n = ap length c.corners-vertex-items.ensures.same in (
      omega (arith, c.put_corner.auto),
      rw c.put_corner.ensures.0 (corners_more _ _ _ (omega arith) c.put_corner.ensures.1 ∙ rw (c.loop-i.invariant.1, c.corners-vertex-items.ensures.same) (sym (take_more _ _ _ (omega arith)))),
    )

pub returns : goal.returns
returns c =
    let n = ap length c.corners-vertex-items.ensures.same in
    let e : c.loop-i.i ≡ length c.args.from.now = omega arith in
    rw (← e) (c.loop-i.invariant.1 ∙ take_all c.loop-i.i c.args.from.now (omega arith))
