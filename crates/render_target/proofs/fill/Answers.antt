use Prim.Native.Nat.{◌+◌, ◌*◌, ◌≤◌}
use mathlib.Core.Path.{◌≡◌}
use native.Mathlib.Nat.{le_refl, mul-le-mul_right}
use native.Mathlib.Omega.{arith}
use lib.ListN.{length, get_or}
use prog.Memory.{size}
use denote.Param.{layout}
use Rattle.std.proofs.Common.{rules}
use Rattle.std.proofs.lemmas.List.{get_or_default}
use Rattle.render_target.specs.Clear.{element_at}
use Rattle.render_target.proofs.Spans.{span_none, element_more, within}
use Rattle.render_target.proofs.fill.Goals as goal

pub loop-pixel-init : goal.loop-pixel-init
loop-pixel-init g c = λ z. span_none (element_at g.row.K c.args.value z) z _ _ _ (le_refl _)

pub offset_bounds-items-pixel : goal.offset_bounds-items-pixel
offset_bounds-items-pixel g c =
    let at : c.loop-pixel.pixel * g.row.K + c.loop-i.i ≤ length c.args.items.now = omega (arith, within g.row.K c.loop-pixel-test.true c.loop-i-test.true, c.requires) in
    record { fits = omega (arith, mul-le-mul_right (size (layout g.row.T)) at, c.well_formed.0.1) }

pub loop-i-preserved : goal.loop-i-preserved
loop-i-preserved g c = λ z.
    let n : length c.args.value ≡ g.row.K = search rules in
    let same : get_or c.args.value c.loop-i.i c.index-value-i.result ≡ get_or c.args.value c.loop-i.i z = get_or_default c.args.value c.loop-i.i _ _ (omega arith) in
    rw (c.loop-i.invariant z, same)
    (element_more g.row.K c.args.value z c.args.items.now c.args.from c.loop-pixel.pixel c.loop-i.i c.loop-i-test.true c.loop-pixel.auto.pixel
    (omega (arith, within g.row.K c.loop-pixel-test.true c.loop-i-test.true, c.requires)))
