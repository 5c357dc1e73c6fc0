use mathlib.Core.Path.{◌≡◌, ◌∙◌}
use Prim.Native.Nat.{◌<◌}
use native.Mathlib.Omega.{arith}
use Rattle.lists.proofs.Turns.{iter_more}
use Rattle.texels.proofs.Lents.{same_on}
use Rattle.blocks.specs.Blocks.{block_bytes, block_texel}
use Rattle.block_images.specs.Walk.{blocks_over, put_row, put_rows}
use Rattle.block_images.proofs.Walks.{walk_image, block_four, block_room}
use Rattle.block_images.proofs.decode_blocks.Goals as goal

pub decode_block-requires : goal.decode_block-requires
decode_block-requires c =
    let a = c.args in
    let y : c.loop-by.by < blocks_over a.image.now.sides.h = omega arith in
    let x : c.loop-bx.bx < blocks_over a.image.now.sides.w = omega arith in
    rw (c.bytes-bytes.ensures, c.block_count-bw.ensures) (omega (arith, block_room (block_bytes a.b) y x, c.requires))

pub loop-bx-preserved : goal.loop-bx-preserved
loop-bx-preserved c =
    let s = c.loop-bx.invariant.1 in
    (rw (← iter_more, ← c.loop-bx.invariant.0) (rw s.sides at c.decode_block.ensures.drawn), same_on s c.decode_block.ensures.same)

pub loop-by-preserved : goal.loop-by-preserved
unfolding put_row
loop-by-preserved c =
    let e : c.loop-bx.bx ≡ blocks_over c.args.image.now.sides.w = omega arith in
    let s = c.loop-by.invariant.1 in
    (rw (← iter_more, ← c.loop-by.invariant.0) (rw (e, c.block_count-bw.ensures, s.sides) at c.loop-bx.invariant.0), same_on s c.loop-bx.invariant.1)

pub returns : goal.returns
unfolding put_rows
returns c =
    let a = c.args in
    let sides = a.image.now.sides in
    let e : c.loop-by.by ≡ blocks_over sides.h = omega arith in
    record {
      drawn = c.loop-by.invariant.0
          ∙ rw (e, c.bytes-bytes.ensures)
          (walk_image (block_texel a.b) (block_four a.b) (block_bytes a.b) sides.w sides.h a.s.now a.image.now.out.now a.image.now.fit);
      same = c.loop-by.invariant.1;
    }
