use mathlib.Core.Path.{◌≡◌}
use Rattle.palette_images.specs.Paletted.{index_bits, entry_at}
use Prim.Native.Nat.{◌*◌}
use lib.Seq.{paste}
use Rattle.texels.specs.Lent.{Same}
use Rattle.lists.specs.Lists.{flat}
use Rattle.palette_images.proofs.Palette.put_row.Given as goal

abbrev pub invariant-loop-x : goal.invariant-loop-x
invariant-loop-x l =
    (l.image.out.now ≡ paste l.initial.image.out.now (l.y * (l.w * 4)) (flat l.x (entry_at (index_bits l.self.bits) l.self.entries l.s l.at)) (l.x * 4))
    × Same l.initial.image l.image
