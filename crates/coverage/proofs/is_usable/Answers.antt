use mathlib.Core.Path.{◌∙◌}
use Rattle.coverage.proofs.Usable.{above_zero, not_above_zero}
use Rattle.coverage.proofs.is_usable.Goals as goal

pub returns-then-iw : goal.returns-then-iw
returns-then-iw c = above_zero _ c.if-iw.true

pub returns-else-iw : goal.returns-else-iw
returns-else-iw c = c.if-iw.false ∙ not_above_zero _ c.if-iw.false
