use Rattle.std.proofs.Common.{refl}
use Rattle.floats.specs.Num.{clamp_of}
use Rattle.lists.proofs.Choice.{yes, no}
use Rattle.floats.proofs.clamp.Goals as goal

pub returns-then-x-lo : goal.returns-then-x-lo
unfolding clamp_of
returns-then-x-lo c = yes _ c.if-x-lo.true refl

pub returns-then-x-hi : goal.returns-then-x-hi
unfolding clamp_of
returns-then-x-hi c = no _ c.if-x-lo.false (yes _ c.if-x-hi.true refl)

pub returns-else-x-hi : goal.returns-else-x-hi
unfolding clamp_of
returns-else-x-hi c = no _ c.if-x-lo.false (no _ c.if-x-hi.false refl)
