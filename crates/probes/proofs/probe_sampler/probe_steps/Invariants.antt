use lib.ListN.{length}
use Rattle.probes.proofs.Each.{steps_at}
use Rattle.probes.proofs.Mapped.{Mapped}
use Rattle.probes.proofs.probe_sampler.probe_steps.Given as goal

abbrev pub invariant-loop-i : goal.invariant-loop-i
invariant-loop-i l = Mapped (steps_at l.src) (length l.src) l.initial.out l.out l.i
