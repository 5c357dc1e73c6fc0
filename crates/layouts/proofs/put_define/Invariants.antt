use Rattle.std.proofs.Common.{◌≡◌}
use Rattle.lists.specs.Lists.{iter}
use Rattle.layouts.specs.Records.{put_level}
use Rattle.layouts.proofs.put_define.Given as goal

abbrev pub invariant-loop-i : goal.invariant-loop-i
invariant-loop-i l = l.b ≡ iter l.i (put_level l.fn.k l.m-items) l.initial.b
