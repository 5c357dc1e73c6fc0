use Rattle.std.proofs.Common.{◌≡◌, ◌+◌, drop}
use Rattle.levels.specs.Levels.{climb, top_of}
use Rattle.levels.proofs.calculate_max_complete_mipmap_level.Given as goal

abbrev pub invariant-loop-level : goal.invariant-loop-level
invariant-loop-level l = climb l.level l.width l.height (drop (l.level + 1) l.fn.levels) ≡ top_of l.fn.levels
