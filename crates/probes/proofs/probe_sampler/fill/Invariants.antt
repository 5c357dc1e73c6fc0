use lib.ListN.{length}
use Rattle.probes.proofs.Each.{sample_at}
use Rattle.probes.proofs.Mapped.{Mapped}
use Rattle.probes.proofs.probe_sampler.fill.Given as goal

abbrev pub invariant-loop-i : goal.invariant-loop-i
invariant-loop-i l = Mapped (sample_at l.store l.texture l.coords) (length l.initial.out) l.initial.out l.out l.i
