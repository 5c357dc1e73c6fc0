use mathlib.Core.Path.{◌≡◌, ◌∙◌}
use Prim.Native.Nat.{◌+◌, ◌*◌}
use borrow.Author.Rules.{rules}
use Rattle.alpha_blocks.specs.AlphaBlocks.{selector, six_bytes, alpha_selectors}
use Rattle.alpha_blocks.proofs.Laws.{two_halves}
use Rattle.lists.proofs.Made.{tab_from_fn}
use Rattle.alpha_blocks.proofs.alpha_selectors.Goals as goal

pub returns : goal.returns
unfolding alpha_selectors
returns c =
    let whole : c.three_bytes-high.result * 16777216 + c.three_bytes-low.result ≡ six_bytes c.args.block.now 2 =
    rw (c.three_bytes-high.ensures.0, c.three_bytes-low.ensures.0) (two_halves c.args.block.now 2) in
    tab_from_fn _ _ (selector 3 (c.three_bytes-high.result * 16777216 + c.three_bytes-low.result)) (λ i q y k. search rules) 16 _
    c.from_fn.ensures.items
    ∙ rw whole
