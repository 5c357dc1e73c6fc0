use borrow.Author.Rules.{rules}
use Rattle.alpha_blocks.specs.AlphaBlocks.{selector}
use Rattle.colour_blocks.specs.ColourBlocks.{dxt1_alpha_of}
use Rattle.lists.proofs.Made.{tab_from_fn}
use Rattle.colour_blocks.proofs.Colours.dxt1_alphas.Goals as goal

pub returns : goal.returns
returns c =
    let a = c.args in
    tab_from_fn _ _ (λ i. dxt1_alpha_of a.self.c0 a.self.c1 (selector 2 a.self.bits i)) (λ i q y k. search rules) 16 _ c.from_fn.ensures.items
