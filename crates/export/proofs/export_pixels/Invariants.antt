use Prim.Native.Nat.{◌*◌}
use mathlib.Core.Path.{◌≡◌}
use mathlib.Core.List.{◌++◌}
use lib.ListN.{drop}
use Rattle.lists.specs.Lists.{flat}
use Rattle.export.specs.Export.{rgb565_at}
use Rattle.export.proofs.export_pixels.Given as goal

abbrev pub invariant-loop-p : goal.invariant-loop-p
invariant-loop-p l = l.out ≡ flat l.p (rgb565_at l.colors) ++ drop (l.p * 2) l.initial.out
