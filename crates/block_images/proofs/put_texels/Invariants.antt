use mathlib.Core.Path.{◌≡◌}
use Rattle.lists.specs.Lists.{iter}
use Rattle.texels.specs.Lent.{Same}
use Rattle.blocks.specs.Blocks.{texel_from}
use Rattle.block_images.specs.Walk.{put_nth}
use Rattle.block_images.proofs.put_texels.Given as goal

abbrev pub invariant-loop-i : goal.invariant-loop-i
invariant-loop-i g l =
    (l.image.out.now ≡ iter l.i (put_nth l.sides.w l.sides.h (texel_from l.fn.rgb l.alpha) l.place.bx l.place.by) l.initial.image.out.now)
    × Same l.initial.image l.image
