use lib.ListN.{get_or}
use borrow.Author.Rules.{rules}
use Rattle.lists.proofs.Made.{tab_from_fn}
use Rattle.alpha_blocks.proofs.chosen_alphas.Goals as goal

pub returns : goal.returns
returns c =
    let a = c.args in
    tab_from_fn _ _ (λ i. get_or a.palette (get_or a.selectors i 0) 0) (λ i q y k. search rules) 16 _ c.from_fn.ensures.items
