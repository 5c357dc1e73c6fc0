use mathlib.Core.Path.{◌≡◌}
use Rattle.palette_images.specs.Paletted.{index_bits, entry_at}
use mathlib.Core.List.{◌++◌}
use Prim.Native.Nat.{◌+◌, ◌*◌}
use lib.ListN.{drop}
use Rattle.texels.specs.Lent.{Same}
use Rattle.lists.specs.Lists.{flat}
use Rattle.palette_images.proofs.Palette.put_rows.Given as goal

abbrev pub invariant-loop-y : goal.invariant-loop-y
invariant-loop-y l =
    (l.image.out.now
    ≡ flat l.y (λ j. flat l.initial.image.sides.w (entry_at (index_bits l.self.bits) l.self.entries l.s (l.start + j * l.row)))
    ++ drop (l.y * (l.initial.image.sides.w * 4)) l.initial.image.out.now)
    × Same l.initial.image l.image
