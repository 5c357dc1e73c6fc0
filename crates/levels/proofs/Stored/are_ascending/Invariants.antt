use Rattle.std.proofs.Common.{◌≡◌, drop}
use Rattle.levels.specs.Levels.{ascending}
use Rattle.levels.proofs.Stored.are_ascending.Given as goal

abbrev pub invariant-loop-m : goal.invariant-loop-m
invariant-loop-m l = ascending l.end (drop l.m-index l.fn.self.levels) ≡ ascending 0 l.fn.self.levels
