use mathlib.Core.Path.{◌∙◌, sym}
use Rattle.lists.proofs.Choice.{was_not, was_so}
use Rattle.pixels.proofs.Pixels.{not_covered, dropped, kept_pixel}
use Rattle.pixels.proofs.Paint.draw_pixel.Goals as goal

pub returns-then-not-is_covered-clause-drawn : goal.returns-then-not-is_covered-clause-drawn
returns-then-not-is_covered-clause-drawn g c = not_covered _ (g.Self.Paint.drawing c.args.self.now) c.args.t c.args.target.now.width c.args.py c.args.px _ _ _ (was_not (c.is_covered.ensures ∙ rw c.weights_at-w.ensures) c.if-not-is_covered.true-raw)

pub returns-in_default-clause-drawn : goal.returns-in_default-clause-drawn
returns-in_default-clause-drawn g c = dropped _ (g.Self.Paint.drawing c.args.self.now) c.args.t c.args.target.now.width c.args.py c.args.px _ _ _ (was_so (c.is_covered.ensures ∙ rw c.weights_at-w.ensures) c.if-not-is_covered.false-raw) (sym (c.fragment_at.ensures ∙ rw c.weights_at-w.ensures) ∙ c.in_default.is)

pub returns-clause-drawn : goal.returns-clause-drawn
returns-clause-drawn g c = c.write_pixel.ensures.drawn ∙ rw c.state.ensures (kept_pixel _ (g.Self.Paint.drawing c.args.self.now) c.args.t c.args.target.now.width c.args.py c.args.px _ _ _ _ _ (was_so (c.is_covered.ensures ∙ rw c.weights_at-w.ensures) c.if-not-is_covered.false-raw) (sym (c.fragment_at.ensures ∙ rw c.weights_at-w.ensures) ∙ c.in-Some.is))
