use native.Mathlib.Omega.{arith}
use Rattle.probes.proofs.Each.{steps_at}
use Rattle.probes.proofs.Steps.{steps_or}
use Rattle.probes.proofs.Mapped.{mapped_none, mapped_more, mapped_all}
use Rattle.probes.proofs.probe_sampler.probe_steps.Goals as goal

pub loop-i-init : goal.loop-i-init
loop-i-init c = mapped_none (steps_at c.args.src.now) c.requires

pub loop-i-preserved : goal.loop-i-preserved
loop-i-preserved c = mapped_more c.loop-i.invariant (omega (arith, c.requires, c.loop-i-test.true)) (steps_or _ _ _ c.unwrap_or.ensures c.steps_of.ensures)

pub returns : goal.returns
returns c = mapped_all c.loop-i.invariant (omega (arith, c.requires, c.loop-i-test.false))
