use mathlib.Core.Path.{sym, ◌∙◌}
use Rattle.raster.proofs.Fans.{whole_drawn, clipped_drawn}
use Rattle.raster.proofs.draw_into.Goals as goal

pub returns-then-all_inside-clause-drawn : goal.returns-then-all_inside-clause-drawn
returns-then-all_inside-clause-drawn g c = c.raster_clipped.ensures.drawn ∙ whole_drawn _ (g.D.Paint.drawing c.args.paint.now) c.args.view c.args.target.now.within c.args.target.now.width c.args.t.a c.args.t.b c.args.t.c _ (sym c.all_inside.ensures ∙ c.if-all_inside.true)

pub returns-clause-drawn : goal.returns-clause-drawn
returns-clause-drawn g c = c.draw_fan.ensures.drawn ∙ clipped_drawn _ (g.D.Paint.drawing c.args.paint.now) c.args.view c.args.target.now.within c.args.target.now.width c.args.t.a c.args.t.b c.args.t.c _ (sym c.all_inside.ensures ∙ c.if-all_inside.false)
