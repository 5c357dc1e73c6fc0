use borrow.Author.Rules.{rules}
use mathlib.Core.Path.{◌∙◌, sym}
use mathlib.Core.List.{[]}
use Prim.Native.Nat.{◌+◌, ◌*◌, ◌≤◌}
use native.Mathlib.Omega.{arith}
use lib.ListN.{length}
use Rattle.lists.proofs.Choice.{was_not, was_so}
use Rattle.pixels.specs.Way.{drawing}
use Rattle.pixels.proofs.Pixels.{not_covered, dropped}
use Rattle.plain_pixels.proofs.Bytes.{four_set}
use Rattle.plain_pixels.proofs.Solids.{solid_kept}
use Rattle.plain_pixels.proofs.solid.SolidPaint.draw_pixel.Goals as goal

pub returns-then-not-is_covered-clause-drawn : goal.returns-then-not-is_covered-clause-drawn
returns-then-not-is_covered-clause-drawn c = not_covered [] (drawing c.args.self.now.state [] 0 []) c.args.t c.args.target.now.width c.args.py c.args.px _ _ _ (was_not (c.is_covered.ensures ∙ rw c.weights_at-w.ensures) c.if-not-is_covered.true-raw)

pub returns-in_default-clause-drawn : goal.returns-in_default-clause-drawn
returns-in_default-clause-drawn c = dropped [] (drawing c.args.self.now.state [] 0 []) c.args.t c.args.target.now.width c.args.py c.args.px _ _ _ (was_so (c.is_covered.ensures ∙ rw c.weights_at-w.ensures) c.if-not-is_covered.false-raw) (sym (c.fragment_at.ensures ∙ rw c.weights_at-w.ensures) ∙ c.in_default.is)

pub returns-clause-drawn : goal.returns-clause-drawn
returns-clause-drawn c =
    let at = c.args.py * c.args.target.now.width + c.args.px in
    let fits : at * 4 + 4 ≤ length c.args.target.now.colors.now = omega (arith, c.requires.inside, c.args.target.now.fit) in
    let bytes = c.put4.ensures ∙ four_set c.args.target.now.colors.now (at * 4) c.args.self.now.color fits (search rules) in
    rw (bytes, c.write_depth.ensures, c.requires.paints) (solid_kept c.args.self.now.state c.args.t c.args.target.now.width c.args.py c.args.px _ _ _ c.args.self.now.solid _ _ (was_so (c.is_covered.ensures ∙ rw c.weights_at-w.ensures) c.if-not-is_covered.false-raw) (sym (c.fragment_at.ensures ∙ rw c.weights_at-w.ensures) ∙ c.in-Some.is))
