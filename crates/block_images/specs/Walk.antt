-- Images made of blocks of four by four texels, over the block decoder: `texel s at i` is the i-th texel of the block whose bytes
-- stand in s from `at` on, and a block takes `bytes` bytes.
use Rattle.std.specs.Prelude.{cond, List, ℕ, ◌+◌, ◌*◌, ◌/◌, ◌%◌, leb}
use Rattle.std.proofs.Math.Seq.{paste}
use Rattle.lists.specs.Lists.{iter}
use Rattle.texels.specs.Image.{image}

-- texture.rs, block_counts: the blocks that cover n texels
abbrev pub blocks_over : ℕ → ℕ
blocks_over n = (n + 3) / 4

-- texture.rs, decode_compressed_to_rgba: blocks lie row by row, and so do the texels of a block
unfoldable pub texel_in_blocks : (List ℕ → ℕ → ℕ → List ℕ) → ℕ → ℕ → List ℕ → ℕ → ℕ → List ℕ
texel_in_blocks texel bytes w s x y = texel s ((y / 4 * blocks_over w + x / 4) * bytes) (y % 4 * 4 + x % 4)

unfoldable pub block_image : (List ℕ → ℕ → ℕ → List ℕ) → ℕ → ℕ → ℕ → List ℕ → List ℕ
block_image texel bytes w h s = image w h (texel_in_blocks texel bytes w s)

-- The same as the code walks it.

-- texture.rs, decode_compressed_to_rgba: a texel that hangs over the right or the bottom edge is dropped
unfoldable pub put_texel : ℕ → ℕ → ℕ → ℕ → List ℕ → List ℕ → List ℕ
put_texel w h x y c out = cond (leb w x) out (cond (leb h y) out (paste out ((y * w + x) * 4) c 4))

-- the texel number i of the block in column bx and row by of the blocks
unfoldable pub put_nth : ℕ → ℕ → (ℕ → List ℕ) → ℕ → ℕ → ℕ → List ℕ → List ℕ
put_nth w h texel bx by i out = put_texel w h (bx * 4 + i % 4) (by * 4 + i / 4) (texel i) out

unfoldable pub put_block : ℕ → ℕ → (ℕ → List ℕ) → ℕ → ℕ → List ℕ → List ℕ
put_block w h texel bx by out = iter 16 (put_nth w h texel bx by) out

unfoldable pub put_row : (List ℕ → ℕ → ℕ → List ℕ) → ℕ → ℕ → ℕ → List ℕ → ℕ → List ℕ → List ℕ
put_row texel bytes w h s by out =
    iter (blocks_over w) (λ bx. put_block w h (texel s ((by * blocks_over w + bx) * bytes)) bx by) out

unfoldable pub put_rows : (List ℕ → ℕ → ℕ → List ℕ) → ℕ → ℕ → ℕ → List ℕ → List ℕ → List ℕ
put_rows texel bytes w h s out = iter (blocks_over h) (put_row texel bytes w h s) out
