use mathlib.Core.Path.{◌∙◌}
use Rattle.alpha_blocks.specs.AlphaBlocks.{interpolated_alpha}
use Rattle.alpha_blocks.proofs.Laws.{three_bits}
use Rattle.alpha_blocks.proofs.interpolated_alpha_block.Goals as goal

pub chosen_alphas-requires : goal.chosen_alphas-requires
chosen_alphas-requires c = rw c.alpha_selectors.ensures (three_bits _ _)

pub returns : goal.returns
unfolding interpolated_alpha
returns c = c.chosen_alphas.ensures ∙ rw (c.alpha_palette.ensures, c.alpha_selectors.ensures)
