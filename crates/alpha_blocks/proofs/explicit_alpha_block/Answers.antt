use mathlib.Core.Path.{◌≡◌, ◌∙◌}
use Prim.Native.Nat.{◌+◌, ◌*◌, ◌/◌, ◌%◌, ◌^◌}
use lib.ListN.{get_or}
use borrow.Author.Rules.{rules}
use Rattle.texels.specs.Texels.{expand, expand4}
use Rattle.texels.proofs.Expands.{four_bits}
use Rattle.alpha_blocks.specs.AlphaBlocks.{explicit_alpha}
use Rattle.lists.proofs.Made.{tab_from_fn}
use Rattle.alpha_blocks.proofs.explicit_alpha_block.Goals as goal

pub returns : goal.returns
unfolding explicit_alpha
returns c =
    let s = c.args.block.now in
    tab_from_fn _ _ (λ i. expand4 (get_or s (0 + i / 2) 0 / 2 ^ (4 * (i % 2))))
    (λ i q y k.
    let p : (q ≡ _) × (y ≡ expand 4 (get_or s (0 + i / 2) 0 / 2 ^ (4 * (i % 2)))) = search rules in
    (p.0, p.1 ∙ four_bits (get_or s (0 + i / 2) 0 / 2 ^ (4 * (i % 2)))))
    16 _ c.from_fn.ensures.items
