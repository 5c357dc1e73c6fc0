use Rattle.std.proofs.Common.{sym, ◌∙◌}
use Rattle.std.proofs.lemmas.Result.{err_from_is_err_and}
use Rattle.draw.proofs.Unstaged.{check_vertices, check_refused, checked_target, drew_unstaged, refused_unstaged}
use Rattle.draw.proofs.plain.draw_triangle.Goals as goal

pub draw_checked-requires : goal.draw_checked-requires
draw_checked-requires c =
    let passed = c.in_ok-check_late.ensures ∙ check_vertices c.args.width c.args.height _ _ c.args.state c.args.t.a c.args.t.b c.args.t.c (sym c.in_ok-check_settings.ensures) in
    checked_target c.args.width c.args.height _ _ c.args.state c.args.t.a c.args.t.b c.args.t.c (sym passed)

pub returns : goal.returns
returns c =
    let passed = c.in_ok-check_late.ensures ∙ check_vertices c.args.width c.args.height _ _ c.args.state c.args.t.a c.args.t.b c.args.t.c (sym c.in_ok-check_settings.ensures) in
    drew_unstaged c.args.width c.args.height c.args.state c.args.t.a c.args.t.b c.args.t.c _ _ (sym passed) c.draw_checked.ensures

pub returns-in_err-check_settings : goal.returns-in_err-check_settings
returns-in_err-check_settings c =
    let p = err_from_is_err_and c.from_residual.result c.from_residual.ensures.1 in
    rw (p.1, p.2) (refused_unstaged c.args.width c.args.height c.args.state c.args.t.a c.args.t.b c.args.t.c _ _ c.in_err-check_settings.field-0.0 (check_refused c.args.width c.args.height _ _ c.args.state c.args.t.a c.args.t.b c.args.t.c c.in_err-check_settings.field-0.0 c.in_err-check_settings.ensures))

pub returns-in_err-check_late : goal.returns-in_err-check_late
returns-in_err-check_late c =
    let p = err_from_is_err_and c.from_residual-in_err-check_late.result c.from_residual-in_err-check_late.ensures.1 in
    rw (p.1, p.2) (refused_unstaged c.args.width c.args.height c.args.state c.args.t.a c.args.t.b c.args.t.c _ _ c.in_err-check_late.field-0.0 (c.in_err-check_late.ensures ∙ check_vertices c.args.width c.args.height _ _ c.args.state c.args.t.a c.args.t.b c.args.t.c (sym c.in_ok-check_settings.ensures)))
