use lib.Ieee as Ieee
use borrow.Author.Tests.{not-true, not-false}
use Rattle.lists.proofs.Choice.{yes, no}
use Rattle.screen.specs.Facing.{area_fits}
use Rattle.screen.proofs.area_fits.Goals as goal

pub returns-then-area : goal.returns-then-area
unfolding area_fits Ieee.ne
returns-then-area c = no _ (not-true _ c.if-area.true) c.is_finite.ensures

pub returns-else-area : goal.returns-else-area
unfolding area_fits Ieee.ne
returns-else-area c = yes _ (not-false _ c.if-area.false) c.if-area.false
