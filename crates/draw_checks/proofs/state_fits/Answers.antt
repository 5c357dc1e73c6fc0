use Rattle.std.proofs.Common.{rules}
use Rattle.draw_checks.specs.Checks.{state_fits, color_fits}
use Rattle.draw_checks.proofs.state_fits.Goals as goal

-- Kept: without it the must-fail edit fog_density_not_checked is refused at a limit of the search, and not for a fact (8a)
pub returns-then-color_fits : goal.returns-then-color_fits
unfolding state_fits color_fits
returns-then-color_fits c = search rules
