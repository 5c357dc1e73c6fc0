use mathlib.Core.Path.{◌≡◌}
use Prim.Native.Nat.{◌+◌, ◌*◌}
use Rattle.lists.specs.Lists.{iter}
use Rattle.texels.specs.Lent.{Same}
use Rattle.blocks.specs.Blocks.{block_texel}
use Rattle.block_images.specs.Walk.{put_block, put_row}
use Rattle.block_images.proofs.decode_blocks.Given as goal

abbrev pub invariant-loop-by : goal.invariant-loop-by
invariant-loop-by l =
    (l.image.out.now ≡ iter l.by (put_row (block_texel l.b) l.bytes l.initial.image.sides.w l.initial.image.sides.h l.s) l.initial.image.out.now)
    × Same l.initial.image l.image

abbrev pub invariant-loop-bx : goal.invariant-loop-bx
invariant-loop-bx l =
    (l.image.out.now ≡ iter l.bx (λ j. put_block l.initial.image.sides.w l.initial.image.sides.h (block_texel l.b l.s ((l.by * l.bw + j) * l.bytes)) j l.by) l.initial.image.out.now)
    × Same l.initial.image l.image
