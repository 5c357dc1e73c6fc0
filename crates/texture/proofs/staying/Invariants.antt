use Rattle.std.proofs.Common.{◌≡◌, ◌++◌, drop}
use Rattle.lists.specs.Lists.{tab}
use Rattle.texture.specs.Define.{stay_at}
use Rattle.texture.proofs.staying.Given as goal

abbrev pub invariant-loop-i : goal.invariant-loop-i
invariant-loop-i l = l.levels ≡ tab l.i (stay_at l.fn.levels l.k) ++ drop l.i l.fn.levels
