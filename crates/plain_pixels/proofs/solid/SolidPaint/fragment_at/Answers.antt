use mathlib.Core.Path.{◌∙◌, sym}
use mathlib.Core.List.{[]}
use Rattle.pixels.specs.Way.{drawing}
use Rattle.pixels.proofs.Fragments.{unreached, reached_at}
use Rattle.plain_pixels.proofs.Solids.{solid_fragment}
use Rattle.plain_pixels.proofs.solid.SolidPaint.fragment_at.Goals as goal

pub returns-in_err-z : goal.returns-in_err-z
returns-in_err-z c = rw c.from_residual.ensures (unreached [] (drawing c.args.self.now.state [] 0 []) c.args.t c.args.w c.args.stored (sym c.reached.ensures ∙ c.in_err-z.was))

pub returns : goal.returns
returns c =
    let e = sym c.reached.ensures ∙ c.in_ok-z.was in
    rw (c.color_between.ensures, (reached_at [] (drawing c.args.self.now.state [] 0 []) c.args.t c.args.w c.args.stored e).0) (solid_fragment c.args.self.now.state c.args.t c.args.w c.args.stored c.args.self.now.solid e)
