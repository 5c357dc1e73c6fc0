use borrow.Author.Rules.{rules}
use native.Mathlib.Omega.{arith}
use lib.ListN.{length}
use Rattle.draw_checks.proofs.Passed.{unit_below, stages_few}
use Rattle.draw.proofs.Cut.{set_more, bound_first}
use Rattle.draw.proofs.bind.Goals as goal

pub bounds-units-stage : goal.bounds-units-stage
bounds-units-stage c = unit_below c.args.stages.now (length c.args.stages.now) c.requires c.loop-i.i (omega arith)

pub offset_bounds-bound-i : goal.offset_bounds-bound-i
offset_bounds-bound-i c = omega (arith, stages_few c.args.stages.now (length c.args.stages.now) c.requires)

pub bounds-bound-i : goal.bounds-bound-i
bounds-bound-i c = omega (arith, stages_few c.args.stages.now (length c.args.stages.now) c.requires)

pub loop-i-preserved : goal.loop-i-preserved
loop-i-preserved c =
    let few = stages_few c.args.stages.now (length c.args.stages.now) c.requires in
    (search rules, set_more c.args.units.now c.args.stages.now c.loop-i.bound c.loop-i.i (omega (arith, c.loop-i.invariant.0, few)) c.loop-i.invariant.1)

pub returns : goal.returns
returns c = bound_first c.args.units.now c.args.stages.now c.loop-i.bound (length c.args.stages.now) (stages_few c.args.stages.now (length c.args.stages.now) c.requires) c.loop-i.invariant.0 (λ k h. c.loop-i.invariant.1 k (omega arith))
