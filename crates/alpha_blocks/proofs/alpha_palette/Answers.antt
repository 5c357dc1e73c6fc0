use borrow.Author.Tests.{lt-ltb, le-ltb}
use Rattle.alpha_blocks.specs.AlphaBlocks.{alpha_palette}
use Rattle.alpha_blocks.proofs.alpha_palette.Goals as goal

pub returns-then-a0-a1 : goal.returns-then-a0-a1
unfolding alpha_palette
returns-then-a0-a1 c = simp (lt-ltb _ _ c.if-a0-a1.true) (cc)

pub returns-else-a0-a1 : goal.returns-else-a0-a1
unfolding alpha_palette
returns-else-a0-a1 c = simp (le-ltb _ _ c.if-a0-a1.false) (cc)
