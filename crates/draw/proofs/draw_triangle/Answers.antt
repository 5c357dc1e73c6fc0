use Rattle.std.proofs.Common.{sym, ◌∙◌, rules}
use Rattle.std.proofs.lemmas.List.{length-take-le}
use Rattle.std.proofs.lemmas.Result.{err_from_is_err_and}
use Rattle.draw_checks.proofs.Passed.{early_target, early_stages}
use Rattle.draw_checks.proofs.Cut.{stages_cut}
use Rattle.draw.proofs.Cut.{in_use}
use Rattle.draw.proofs.Bound.{each, late_is, fits, drawn_is}
use Rattle.draw.proofs.Passed.{refused_early, refused_late, drew_it}
use Rattle.draw.proofs.draw_triangle.Goals as goal

pub slice_bounds-stages-end : goal.slice_bounds-stages-end
slice_bounds-stages-end c = in_use c.args.stages _ _ (early_stages _ _ _ _ c.args.state _ _ (sym c.in_ok-check_early.ensures)) (search rules)

pub slice_bounds-stages-end-2 : goal.slice_bounds-stages-end-2
slice_bounds-stages-end-2 c = sym (length-take-le _ _ (in_use c.args.stages _ _ (early_stages _ _ _ _ c.args.state _ _ (sym c.in_ok-check_early.ensures)) (search rules)))

pub slice_bounds-textures-end : goal.slice_bounds-textures-end
slice_bounds-textures-end c = sym (length-take-le _ _ (in_use c.args.stages _ _ (early_stages _ _ _ _ c.args.state _ _ (sym c.in_ok-check_early.ensures)) (search rules)))

pub bind-bound-requires : goal.bind-bound-requires
bind-bound-requires c =
    let fit = early_stages _ _ _ _ c.args.state _ _ (sym c.in_ok-check_early.ensures) in
    stages_cut c.args.stages c.args.count (in_use c.args.stages _ _ fit (search rules)) fit

pub slice_bounds-bound-end : goal.slice_bounds-bound-end
slice_bounds-bound-end c = in_use c.args.stages _ _ (early_stages _ _ _ _ c.args.state _ _ (sym c.in_ok-check_early.ensures)) (search rules)

pub invariant_of-stages : goal.invariant_of-stages
invariant_of-stages c =
    let fit = early_stages _ _ _ _ c.args.state _ _ (sym c.in_ok-check_early.ensures) in
    record {
      each = each c.args.stages c.args.count c.args.units c.bind-bound.result fit (search rules) (search rules) c.bind-bound.ensures;
      fit = fits c.args.stages c.args.count c.args.units c.bind-bound.result fit (search rules) (search rules) c.bind-bound.ensures _ _ _ _ (sym c.in_ok-check_late.ensures);
    }

pub draw_checked-requires : goal.draw_checked-requires
draw_checked-requires c = early_target _ _ _ _ c.args.state _ _ (sym c.in_ok-check_early.ensures)

pub returns : goal.returns
returns c =
    let early = sym c.in_ok-check_early.ensures in
    let fit = early_stages _ _ _ _ c.args.state _ _ early in
    let late = sym (late_is c.args.stages c.args.count c.args.units c.bind-bound.result fit (search rules) (search rules) c.bind-bound.ensures _ _ _ _) ∙ sym c.in_ok-check_late.ensures in
    drew_it _ c.args.width c.args.height c.args.state c.args.stages c.args.count c.args.t.a c.args.t.b c.args.t.c c.args.units _ _ early late (c.draw_checked.ensures ∙ drawn_is c.args.stages c.args.count c.args.units c.bind-bound.result fit (search rules) (search rules) c.bind-bound.ensures _ c.args.state _ _ _ _ _ _)

pub returns-in_err-check_early : goal.returns-in_err-check_early
returns-in_err-check_early c =
    let p = err_from_is_err_and c.from_residual.result c.from_residual.ensures.1 in
    rw (p.1, p.2) (refused_early _ c.args.width c.args.height c.args.state c.args.stages c.args.count c.args.t.a c.args.t.b c.args.t.c c.args.units _ _ c.in_err-check_early.field-0.0 c.in_err-check_early.ensures)

pub returns-in_err-check_late : goal.returns-in_err-check_late
returns-in_err-check_late c =
    let early = sym c.in_ok-check_early.ensures in
    let fit = early_stages _ _ _ _ c.args.state _ _ early in
    let late = c.in_err-check_late.ensures ∙ late_is c.args.stages c.args.count c.args.units c.bind-bound.result fit (search rules) (search rules) c.bind-bound.ensures _ _ _ _ in
    let p = err_from_is_err_and c.from_residual-in_err-check_late.result c.from_residual-in_err-check_late.ensures.1 in
    rw (p.1, p.2) (refused_late _ c.args.width c.args.height c.args.state c.args.stages c.args.count c.args.t.a c.args.t.b c.args.t.c c.args.units _ _ c.in_err-check_late.field-0.0 early late)
