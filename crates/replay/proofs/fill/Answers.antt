use Rattle.std.proofs.Common.{arith, ◌≡◌, length, sym, ◌∙◌}
use Rattle.lists.proofs.Tables.{tab_none, tab_more, tab_all}
use Rattle.replay.specs.Record.{ascending}
use Rattle.replay.proofs.fill.Goals as goal

pub loop-i-init : goal.loop-i-init
loop-i-init c = tab_none _ _

pub loop-i-preserved : goal.loop-i-preserved
loop-i-preserved c = rw c.loop-i.invariant (tab_more (ascending c.args.first c.args.step) c.loop-i.i c.args.out.now (omega (arith, c.loop-i-test.true)))

pub returns : goal.returns
returns c =
    let e : c.loop-i.i ≡ length c.args.out.now = omega (arith, c.loop-i.auto.i-end, c.loop-i-test.false) in
    c.loop-i.invariant ∙ rw e (tab_all (ascending c.args.first c.args.step) (length c.args.out.now) c.args.out.now (omega arith))
