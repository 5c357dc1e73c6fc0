use mathlib.Core.Path.{refl, sym, ◌∙◌}
use Rattle.std.proofs.lemmas.Result.{err_from_is_err_and}
use Rattle.lists.proofs.Choice.{yes, no}
use Rattle.scissor.proofs.Outcome.{check_passed, check_refused}
use Rattle.draw_checks.specs.Checks.{early_check, stages_fit, all_below}
use Rattle.draw_checks.proofs.check_settings.Goals as goal

pub returns-in_err-check : goal.returns-in_err-check
unfolding early_check
returns-in_err-check c =
    let p = err_from_is_err_and c.from_residual.result c.from_residual.ensures.1 in
    rw (p.1, p.2) (check_refused _ _ _ _ _ _ c.in_err-check.field-0.0 c.in_err-check.ensures)

pub returns-then-not-viewport_fits : goal.returns-then-not-viewport_fits
unfolding early_check
returns-then-not-viewport_fits c =
    let p = check_passed _ _ _ _ _ c.in_ok-check.ensures in
    rw (p.0, p.1) (no _ (sym c.viewport_fits.ensures ∙ c.if-not-viewport_fits.true) refl)

pub returns-then-not-state_fits : goal.returns-then-not-state_fits
unfolding early_check
returns-then-not-state_fits c =
    let p = check_passed _ _ _ _ _ c.in_ok-check.ensures in
    rw (p.0, p.1) (yes _ (sym c.viewport_fits.ensures ∙ c.if-not-viewport_fits.false) (no _ (sym c.state_fits.ensures ∙ c.if-not-state_fits.true) refl))

pub returns-then-not-fog_fits : goal.returns-then-not-fog_fits
unfolding early_check
returns-then-not-fog_fits c =
    let p = check_passed _ _ _ _ _ c.in_ok-check.ensures in
    rw (p.0, p.1) (yes _ (sym c.viewport_fits.ensures ∙ c.if-not-viewport_fits.false) (yes _ (sym c.state_fits.ensures ∙ c.if-not-state_fits.false) (no _ (sym c.fog_fits.ensures ∙ c.if-not-fog_fits.true) refl)))

pub returns : goal.returns
unfolding early_check stages_fit all_below
returns c =
    let p = check_passed _ _ _ _ _ c.in_ok-check.ensures in
    rw (p.0, p.1) (yes _ (sym c.viewport_fits.ensures ∙ c.if-not-viewport_fits.false) (yes _ (sym c.state_fits.ensures ∙ c.if-not-state_fits.false) (yes _ (sym c.fog_fits.ensures ∙ c.if-not-fog_fits.false) refl)))
