use mathlib.Core.List.{[]}
use lib.ListN.{get_or}
use borrow.Author.Rules.{rules}
use Rattle.alpha_blocks.specs.AlphaBlocks.{selector}
use Rattle.colour_blocks.specs.ColourBlocks.{chosen}
use Rattle.lists.proofs.Made.{tab_from_fn}
use Rattle.colour_blocks.proofs.Colours.chosen.Goals as goal

pub returns : goal.returns
unfolding chosen
returns c =
    let a = c.args in
    tab_from_fn _ _ (λ i. get_or a.palette (selector 2 a.self.bits i) []) (λ i q y k. search rules) 16 _ c.from_fn.ensures.items
