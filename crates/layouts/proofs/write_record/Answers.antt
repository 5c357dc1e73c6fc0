use Rattle.std.proofs.Common.{◌≡◌, ◌∙◌, arith}
use Rattle.lists.specs.Lists.{flat}
use Rattle.lists.proofs.Rows.{flat_none, flat_more}
use Rattle.layouts.specs.Records.{level_bytes, level_bytes_at, rest_bytes, record_bytes}
use Rattle.layouts.proofs.RoundTrip.{length_level, length_rest, levels_length}
use Rattle.layouts.proofs.Pasted.{filled}
use Rattle.layouts.proofs.write_record.Goals as goal

pub loop-i-init : goal.loop-i-init
loop-i-init c = flat_none 20 (level_bytes_at c.args.texture.levels) (λ n. length_level c.args.texture.levels n) _

pub loop-i-preserved : goal.loop-i-preserved
unfolding level_bytes_at level_bytes
loop-i-preserved c =
    c.copy_in.ensures ∙ rw (c.loop-i.invariant, c.level_bytes.ensures)
    (flat_more 20 (level_bytes_at c.args.texture.levels) (λ n. length_level c.args.texture.levels n) c.loop-i.i _)

pub returns : goal.returns
unfolding record_bytes
returns c =
    let t = c.args.texture in
    let r = length_rest t in
    let e : c.loop-i.i ≡ 11 = omega arith in
    c.copy_in-2.ensures ∙ rw (c.rest_bytes.ensures, c.loop-i.invariant, e)
    (filled (flat 11 (level_bytes_at t.levels)) c.args.b.now (rest_bytes t) 220 (levels_length t) (c.requires ∙ rw r))
