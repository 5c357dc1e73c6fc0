use mathlib.Core.Path.{refl}
use Rattle.lists.proofs.Choice.{yes, no}
use Rattle.fragment.specs.Fragment.{linear_fog_of}
use Rattle.fragment.proofs.linear_fog.Goals as goal

pub returns-then-abs : goal.returns-then-abs
unfolding linear_fog_of
returns-then-abs c = rw (← c.abs.ensures) (yes _ c.if-abs.true refl)

pub returns : goal.returns
unfolding linear_fog_of
returns c = rw (← c.abs.ensures) (no _ c.if-abs.false (rw c.max.ensures))
