use Rattle.std.proofs.Common.{◌≡◌, arith, rules, ◌*◌, length}
use Rattle.probes.specs.Corners.{put_at}
use Rattle.probes.proofs.Stores.{put_mids}
use Rattle.probes.proofs.flat_polygon.put_corner.Goals as goal

pub returns : goal.returns
unfolding put_at
returns c =
    let hp : length c.args.vertex.pos ≡ 4 = search rules in
    let hc : length c.args.vertex.color ≡ 4 = search rules in
    let ht : length c.args.vertex.texcoord ≡ 8 = search rules in (
      put_mids c.args.polygon.now c.args.vertex.pos c.args.vertex.color c.args.vertex.texcoord c.args.vertex.fog_depth (c.args.i * 17) hp hc ht (omega arith) c.copy_from_slice.ensures.after c.copy_from_slice-2.ensures.after c.copy_from_slice-3.ensures.after,
      record { pos_long = hp; color_long = hc; texcoord_long = ht },
    )
