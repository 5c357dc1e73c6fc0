use Rattle.std.proofs.Common.{refl}
use Rattle.lists.proofs.Choice.{yes, no}
use Rattle.screen.specs.Screen.{w_fits}
use Rattle.screen.proofs.w_fits.Goals as goal

pub returns-then-not-abs : goal.returns-then-not-abs
unfolding w_fits
returns-then-not-abs c = no _ (rw c.abs.ensures at c.if-not-abs.true) c.is_finite.ensures

pub returns-else-not-abs : goal.returns-else-not-abs
unfolding w_fits
returns-else-not-abs c = rw c.if-not-abs.false (yes _ (rw c.abs.ensures at c.if-not-abs.false) refl)
