use Rattle.std.proofs.lemmas.Result.{err_from_is_err_and}
use Rattle.draw_checks.proofs.Early.{early_refused}
use Rattle.draw_checks.proofs.check_early.Goals as goal

pub returns-in_err-check_settings : goal.returns-in_err-check_settings
returns-in_err-check_settings c =
    let p = err_from_is_err_and c.from_residual.result c.from_residual.ensures.1 in
    rw (p.1, p.2) (early_refused c.args.width c.args.height c.args.colors c.args.depths c.args.s c.args.stages c.args.count c.in_err-check_settings.field-0.0 c.in_err-check_settings.ensures)
