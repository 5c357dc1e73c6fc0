use mathlib.Core.Path.{sym, ◌∙◌}
use Prim.Native.Nat.{◌/◌}
use native.Mathlib.Omega.{arith}
use Rattle.texels.proofs.Expands.{shifted}
use Rattle.texels.proofs.colour.Goals as goal

pub returns : goal.returns
returns g c =
    rw (c.expand.ensures, c.expand-2.ensures, c.expand-3.ensures, c.unbounded_shr.ensures ∙ sym (shifted 32 g.row.GREEN (c.args.p / 32) (omega arith)))
