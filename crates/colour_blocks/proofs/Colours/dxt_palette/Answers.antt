use mathlib.Core.Path.{sym, ◌∙◌}
use Rattle.texels.proofs.Expands.{rgb_565}
use Rattle.colour_blocks.specs.ColourBlocks.{dxt_palette}
use Rattle.colour_blocks.proofs.Colours.dxt_palette.Goals as goal

pub returns-then-has_four : goal.returns-then-has_four
unfolding dxt_palette
returns-then-has_four c =
    simp (sym c.has_four.ensures ∙ c.if-has_four.true) (cc (rgb_565 c.args.self.c0, rgb_565 c.args.self.c1))

pub returns-else-has_four : goal.returns-else-has_four
unfolding dxt_palette
returns-else-has_four c =
    simp (sym c.has_four.ensures ∙ c.if-has_four.false) (cc (rgb_565 c.args.self.c0, rgb_565 c.args.self.c1))
