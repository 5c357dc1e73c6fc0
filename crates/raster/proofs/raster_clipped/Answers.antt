use mathlib.Core.Path.{sym, ◌∙◌}
use native.Mathlib.Nat.{mul-le-mul_right}
use native.Mathlib.Omega.{arith}
use Rattle.raster.proofs.Setups.{setup_within, nothing_drawn, filled}
use Rattle.raster.proofs.raster_clipped.Goals as goal

pub returns-in_default-clause-drawn : goal.returns-in_default-clause-drawn
returns-in_default-clause-drawn g c = nothing_drawn _ (g.D.Paint.drawing c.args.paint.now) c.args.view c.args.target.now.within c.args.target.now.width c.args.t.a c.args.t.b c.args.t.c _ (sym (rw c.state-state.ensures at c.setup_triangle.ensures) ∙ c.in_default.is)

pub fill_triangle-requires : goal.fill_triangle-requires
fill_triangle-requires g c =
    let target = c.args.target.now in
    let w = setup_within _ _ _ _ target.within _ _ _ (sym (rw c.state-state.ensures at c.setup_triangle.ensures) ∙ c.in-Some.is) in
    record {
      inside = record { columns = omega (arith, target.fit, w.x_to); rows = omega (arith, target.fit, w.y_to); long = omega (arith, target.fit, mul-le-mul_right target.width w.y_to) };
      count = c.requires;
    }

pub returns-clause-drawn : goal.returns-clause-drawn
returns-clause-drawn g c = c.fill_triangle.ensures.drawn ∙ rw c.primitive.ensures (filled _ (g.D.Paint.drawing c.args.paint.now) c.args.view c.args.target.now.within c.args.target.now.width c.args.t.a c.args.t.b c.args.t.c _ (sym (rw c.state-state.ensures at c.setup_triangle.ensures) ∙ c.in-Some.is))
