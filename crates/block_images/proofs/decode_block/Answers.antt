use mathlib.Core.Path.{◌∙◌}
use Prim.Native.Nat.{◌+◌}
use Rattle.blocks.specs.Blocks.{alpha_bytes, alphas_of, block_texel}
use Rattle.blocks.proofs.Laws.{colours_part, alphas_part}
use Rattle.block_images.proofs.decode_block.Goals as goal

pub returns-then-is_whole-clause-drawn : goal.returns-then-is_whole-clause-drawn
unfolding block_texel
returns-then-is_whole-clause-drawn c =
    let a = c.args in
    c.put_texels.ensures.drawn
    ∙ rw (c.rgb-rgb.ensures, c.alpha-alpha.ensures, c.eight-colours.ensures, c.eight-first.ensures, c.alpha_bytes.ensures.0, colours_part a.s.now (a.at + alpha_bytes a.b) a.b, alphas_part a.s.now a.at (alphas_of a.b))

pub returns-else-is_whole-clause-drawn : goal.returns-else-is_whole-clause-drawn
unfolding block_texel
returns-else-is_whole-clause-drawn c =
    let a = c.args in
    c.put_texels-else-is_whole.ensures.drawn
    ∙ rw (c.rgb-rgb.ensures, c.alpha-alpha.ensures, c.eight-colours.ensures, c.eight-first.ensures, c.alpha_bytes.ensures.0, colours_part a.s.now (a.at + alpha_bytes a.b) a.b, alphas_part a.s.now a.at (alphas_of a.b))
