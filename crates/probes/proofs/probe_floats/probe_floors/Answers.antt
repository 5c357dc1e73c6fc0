use Rattle.std.proofs.Common.{arith}
use Rattle.probes.proofs.Mapped.{mapped_more}
use Rattle.probes.proofs.probe_floats.probe_floors.Goals as goal

pub loop-i-preserved : goal.loop-i-preserved
loop-i-preserved c = mapped_more c.loop-i.invariant (omega (arith, c.loop-i-test.true, c.loop-i.invariant.kept)) c.floor.ensures
