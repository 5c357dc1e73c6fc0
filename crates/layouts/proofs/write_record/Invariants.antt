use Rattle.std.proofs.Common.{◌≡◌, ◌++◌, ◌*◌, drop}
use Rattle.lists.specs.Lists.{flat}
use Rattle.layouts.specs.Records.{level_bytes_at}
use Rattle.layouts.proofs.write_record.Given as goal

abbrev pub invariant-loop-i : goal.invariant-loop-i
invariant-loop-i l = l.b ≡ flat l.i (level_bytes_at l.m-items) ++ drop (l.i * 20) l.initial.b
