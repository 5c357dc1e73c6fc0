use mathlib.Core.Path.{refl}
use mir.Syntax.{w64}
use mir.Val.{SFits}
use Rattle.std.proofs.Common.{rules}
use Rattle.coords.proofs.Quick.{axis_is}
use Rattle.coords.proofs.Side.axis.Goals as goal

pub returns : goal.returns
returns c =
    let f : SFits w64 c.floored-floor.result.whole = search rules in
    axis_is c.args.self.wrap c.args.v _ c.args.self.size _ _ _ _ refl c.floored-floor.ensures f c.texel-first.ensures c.next.ensures
