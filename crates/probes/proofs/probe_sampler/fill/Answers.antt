use mathlib.Core.Path.{refl, ◌∙◌}
use native.Mathlib.Omega.{arith}
use Rattle.probes.proofs.Mapped.{mapped_none, mapped_more, mapped_all}
use Rattle.probes.proofs.probe_sampler.fill.Goals as goal

pub loop-i-init : goal.loop-i-init
loop-i-init c = mapped_none _ refl

pub coordinates_from-p-requires : goal.coordinates_from-p-requires
coordinates_from-p-requires c = omega (arith, c.requires.coordinates, c.loop-i.invariant.kept, c.loop-i-test.true)

pub loop-i-preserved : goal.loop-i-preserved
loop-i-preserved c =
    mapped_more c.loop-i.invariant (omega (arith, c.loop-i.invariant.kept, c.loop-i-test.true)) (c.from.ensures ∙ rw (c.sample_with_gradients.ensures, c.coordinates_from-p.ensures))

pub returns : goal.returns
returns c = mapped_all c.loop-i.invariant (omega (arith, c.loop-i.invariant.kept, c.loop-i-test.false))
