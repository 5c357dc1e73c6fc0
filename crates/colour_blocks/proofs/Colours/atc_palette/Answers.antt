use borrow.Author.Tests.{lt-ltb, le-ltb}
use Rattle.texels.proofs.Expands.{rgb_555, rgb_565}
use Rattle.colour_blocks.specs.ColourBlocks.{atc_palette}
use Rattle.colour_blocks.proofs.Colours.atc_palette.Goals as goal

pub returns-then-self-lt32768 : goal.returns-then-self-lt32768
unfolding atc_palette
returns-then-self-lt32768 c =
    simp (lt-ltb _ _ c.if-self-lt32768.true) (cc (rgb_555 c.args.self.c0, rgb_565 c.args.self.c1))

pub returns-else-self-lt32768 : goal.returns-else-self-lt32768
unfolding atc_palette
returns-else-self-lt32768 c =
    simp (le-ltb _ _ c.if-self-lt32768.false) (cc (rgb_555 c.args.self.c0, rgb_565 c.args.self.c1))
