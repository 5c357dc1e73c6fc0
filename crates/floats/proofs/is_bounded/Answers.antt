use Rattle.floats.proofs.Signs.{bounded_below, bounded_above}
use Rattle.floats.proofs.is_bounded.Goals as goal

pub returns-then-x : goal.returns-then-x
returns-then-x c = bounded_below _ c.if-x.true

pub returns-else-x : goal.returns-else-x
returns-else-x c = bounded_above _ c.if-x.false
