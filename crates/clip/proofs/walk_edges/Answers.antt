use Rattle.std.proofs.Common.{◌≡◌, arith, rules, refl, ap, length, get_or, ◌+◌}
use Rattle.vertices.specs.Vertex.{past}
use Rattle.clip.proofs.Walks.{starts, ends, room_kept, room_cross, goes}
use Rattle.clip.proofs.walk_edges.Goals as goal

pub loop-i-init : goal.loop-i-init
loop-i-init c = rw c.clear.ensures (starts c.args.plane c.args.polygon.now)

pub keep_inside-requires : goal.keep_inside-requires
keep_inside-requires c =
    let s = c.corners-corners.ensures.same in
    let n = ap length s in
    rw s (room_kept c.loop-i.invariant c.requires (omega arith) _ _ refl refl)

pub add_crossing-requires : goal.add_crossing-requires
add_crossing-requires c =
    let s = c.corners-corners.ensures.same in
    let n = ap length s in
    let b : c.unwrap_or-b.result.now ≡ get_or c.args.polygon.now (c.loop-i.i + 1) (get_or c.args.polygon.now 0 past) = rw (← s) (search rules) in
    rw c.keep_inside.ensures (room_cross c.loop-i.invariant c.requires (omega arith) _ _ (rw s) b)

pub loop-i-preserved : goal.loop-i-preserved
loop-i-preserved c =
    let s = c.corners-corners.ensures.same in
    let n = ap length s in
    let b : c.unwrap_or-b.result.now ≡ get_or c.args.polygon.now (c.loop-i.i + 1) (get_or c.args.polygon.now 0 past) = rw (← s) (search rules) in
    rw (c.add_crossing.ensures, c.keep_inside.ensures) (goes c.loop-i.invariant c.requires (omega arith) _ _ (rw s) b)

pub returns : goal.returns
returns c = ends c.loop-i.invariant (omega (arith, ap length c.corners-corners.ensures.same))
