use Rattle.std.proofs.Common.{length}
use Rattle.probes.proofs.Each.{floor_at}
use Rattle.probes.proofs.Mapped.{Mapped}
use Rattle.probes.proofs.probe_floats.probe_floors.Given as goal

abbrev pub invariant-loop-i : goal.invariant-loop-i
invariant-loop-i l = Mapped (floor_at l.src) (length l.src) l.initial.out l.out l.i
