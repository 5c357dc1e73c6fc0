use mathlib.Core.Path.{◌≡◌, sym, ap, ◌∙◌}
use lib.ListN.{length}
use Rattle.std.proofs.Common.{rules}
use Rattle.draw.specs.Draw.{draw_of}
use Rattle.draw_layouts.specs.Vertices.{read_vertices}
use Rattle.tilefringe.proofs.Drawn.{stages_unknown, units_told, faulted, drawn, three}
use Rattle.tilefringe.proofs.draw_calls.draw_staged.Goals as goal

pub returns-in_err-stages : goal.returns-in_err-stages
returns-in_err-stages c =
    rw c.from_residual.ensures
    (faulted c.args.store.now c.args.width c.args.height c.args.units.now c.args.settings.now c.args.stages.now c.args.vertices.now c.args.colors.now c.args.depths.now
    (rw (sym c.read_stages.ensures ∙ c.in_err-stages.was) (stages_unknown _ _ (read_vertices c.args.vertices.now))))

pub returns-in_err-units : goal.returns-in_err-units
returns-in_err-units c =
    rw c.from_residual-in_err-units.ensures
    (faulted c.args.store.now c.args.width c.args.height c.args.units.now c.args.settings.now c.args.stages.now c.args.vertices.now c.args.colors.now c.args.depths.now
    (rw (units_told c.args.units.now c.args.stages.now (sym c.read_stages.ensures ∙ c.in_ok-stages.was) c.used.ensures (sym c.in_err-units.was ∙ c.read_units.ensures))))

pub returns-in_err-state : goal.returns-in_err-state
returns-in_err-state c =
    rw c.from_residual-in_err-state.ensures
    (faulted c.args.store.now c.args.width c.args.height c.args.units.now c.args.settings.now c.args.stages.now c.args.vertices.now c.args.colors.now c.args.depths.now
    (rw (units_told c.args.units.now c.args.stages.now (sym c.read_stages.ensures ∙ c.in_ok-stages.was) c.used.ensures (sym c.in_ok-units.was ∙ c.read_units.ensures), sym c.read_settings.ensures ∙ c.in_err-state.was)))

pub returns-in_err-a : goal.returns-in_err-a
returns-in_err-a c =
    rw c.from_residual-in_err-a.ensures
    (faulted c.args.store.now c.args.width c.args.height c.args.units.now c.args.settings.now c.args.stages.now c.args.vertices.now c.args.colors.now c.args.depths.now
    (rw (units_told c.args.units.now c.args.stages.now (sym c.read_stages.ensures ∙ c.in_ok-stages.was) c.used.ensures (sym c.in_ok-units.was ∙ c.read_units.ensures), sym c.read_settings.ensures ∙ c.in_ok-state.was, sym c.read_stages.ensures ∙ c.in_ok-stages.was, sym c.read_vertices.ensures ∙ c.in_err-a.was)))

pub returns : goal.returns
returns c =
    let long : length c.in_ok-a.field-0 ≡ 3 = search rules in
    drawn c.args.store.now c.args.width c.args.height c.args.units.now c.args.settings.now c.args.stages.now c.args.vertices.now c.args.colors.now c.args.depths.now
    (units_told c.args.units.now c.args.stages.now (sym c.read_stages.ensures ∙ c.in_ok-stages.was) c.used.ensures (sym c.in_ok-units.was ∙ c.read_units.ensures))
    (sym c.read_settings.ensures ∙ c.in_ok-state.was) (sym c.read_stages.ensures ∙ c.in_ok-stages.was) (sym c.read_vertices.ensures ∙ c.in_ok-a.was)
    c.draw_triangle.result _ _
    (c.draw_triangle.ensures
    ∙ ap (λ x. draw_of c.args.store.now c.args.width c.args.height x c.in_ok-units.units c.args.colors.now c.args.depths.now) (three c.in_ok-a.field-0 c.in_ok-state.state c.in_ok-stages.stages _ _ _ long))
