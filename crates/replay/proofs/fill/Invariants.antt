use Rattle.std.proofs.Common.{◌≡◌, ◌++◌, drop}
use Rattle.lists.specs.Lists.{tab}
use Rattle.replay.specs.Record.{ascending}
use Rattle.replay.proofs.fill.Given as goal

abbrev pub invariant-loop-i : goal.invariant-loop-i
invariant-loop-i l = l.out ≡ tab l.i (ascending l.first l.step) ++ drop l.i l.initial.out
