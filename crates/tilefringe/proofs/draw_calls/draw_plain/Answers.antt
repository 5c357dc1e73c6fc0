use mathlib.Core.Path.{◌≡◌, sym, ap, ◌∙◌}
use mathlib.Core.Bool.{true}
use mathlib.Core.List.{[]}
use lib.Dec.{eqb}
use lib.ListN.{length}
use borrow.Author.Tests.{eq-eqb, ne_eqb}
use Rattle.std.proofs.Common.{rules}
use Rattle.draw.specs.Draw.{draw_of}
use Rattle.tilefringe.specs.DrawCalls.{no_stages}
use Rattle.tilefringe.proofs.Drawn.{plain_faulted, plain_drawn, three}
use Rattle.tilefringe.proofs.draw_calls.draw_plain.Goals as goal

pub returns-then-units-ne-UNITS_SIZE : goal.returns-then-units-ne-UNITS_SIZE
returns-then-units-ne-UNITS_SIZE c =
    plain_faulted c.args.width c.args.height c.args.units.now c.args.settings.now c.args.vertices.now c.args.colors.now c.args.depths.now
    (rw (ne_eqb _ _ c.if-units-ne-UNITS_SIZE.true))

pub returns-in_err-state : goal.returns-in_err-state
returns-in_err-state c =
    rw c.from_residual.ensures
    (plain_faulted c.args.width c.args.height c.args.units.now c.args.settings.now c.args.vertices.now c.args.colors.now c.args.depths.now
    (rw (eq-eqb _ _ c.if-units-ne-UNITS_SIZE.false, sym c.read_settings.ensures ∙ c.in_err-state.was)))

pub returns-in_err-a : goal.returns-in_err-a
returns-in_err-a c =
    rw c.from_residual-in_err-a.ensures
    (plain_faulted c.args.width c.args.height c.args.units.now c.args.settings.now c.args.vertices.now c.args.colors.now c.args.depths.now
    (rw (eq-eqb _ _ c.if-units-ne-UNITS_SIZE.false, sym c.read_settings.ensures ∙ c.in_ok-state.was, sym c.read_vertices.ensures ∙ c.in_err-a.was)))

pub returns : goal.returns
returns c =
    let long : length c.in_ok-a.field-0 ≡ 3 = search rules in
    let whole : eqb (length c.args.units.now) 976 ≡ true = eq-eqb _ _ c.if-units-ne-UNITS_SIZE.false in
    plain_drawn c.args.width c.args.height c.args.units.now c.args.settings.now c.args.vertices.now c.args.colors.now c.args.depths.now
    whole (sym c.read_settings.ensures ∙ c.in_ok-state.was) (sym c.read_vertices.ensures ∙ c.in_ok-a.was)
    c.draw_triangle.result _ _
    (c.draw_triangle.ensures
    ∙ ap (λ x. draw_of [] c.args.width c.args.height x [] c.args.colors.now c.args.depths.now) (three c.in_ok-a.field-0 c.in_ok-state.state no_stages _ _ _ long))
