use native.Mathlib.Omega.{arith}
use Rattle.texels.proofs.Expands.{expand_byte, expanded}
use Rattle.texels.proofs.expand.Goals as goal

pub overflow_cast-result : goal.overflow_cast-result
overflow_cast-result g c =
    rw (expanded g.row.BITS c.args.v _ _ c.saturating_sub.ensures c.unbounded_shr.ensures) (omega (arith, expand_byte g.row.BITS c.args.v))

pub returns : goal.returns
returns g c = expanded g.row.BITS c.args.v _ _ c.saturating_sub.ensures c.unbounded_shr.ensures
