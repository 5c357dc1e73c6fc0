use Rattle.std.specs.Prelude.{Some}
use mathlib.Core.Path.{refl, sym, subst, ap}
use lib.Dec.{T}
use lib.Ieee.{of_bits, div}
use Rattle.lists.proofs.Choice.{yes, no}
use Rattle.probes.proofs.probe_sampler.steps_of.Goals as goal
use Rattle.probes.proofs.probe_sampler.steps_of.Goals.{else-q-via-then-q+else-q-2, else-q-via-else-q}

pub steps-requires : goal.steps-requires
unfolding of_bits div
steps-requires c = record { above_one = subst T (sym c.if-q.true) tt; finite = subst T (sym c.if-q-2.true) tt }

pub returns-then-q-2 : goal.returns-then-q-2
unfolding of_bits div
returns-then-q-2 c = yes _ c.if-q.true (yes _ c.if-q-2.true (ap Some c.steps.ensures))

pub returns : goal.returns
unfolding of_bits div
returns c = elim c.else-q.branch [ else-q-via-then-q+else-q-2 w ↦ yes _ w.if-q.true (no _ w.if-q-2.false refl) | else-q-via-else-q w ↦ no _ w.if-q.false refl ]
