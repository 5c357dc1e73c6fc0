use native.Mathlib.Omega.{arith}
use Rattle.blocks.proofs.Laws.{colours_last}
use Rattle.blocks.proofs.Block.alpha_bytes.Goals as goal

pub overflow_sub-result : goal.overflow_sub-result
overflow_sub-result c =
    omega (arith, colours_last c.args.self, c.bytes.ensures)

pub returns : goal.returns
returns c =
    (omega (arith, colours_last c.args.self, c.bytes.ensures), omega (arith, colours_last c.args.self, c.bytes.ensures))
