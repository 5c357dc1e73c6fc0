use mathlib.Core.Path.{◌≡◌}
use mathlib.Core.List.{◌++◌}
use lib.ListN.{drop}
use Rattle.lists.specs.Lists.{tab}
use Rattle.texels.specs.Texels.{nth_texel}
use Rattle.palette_images.proofs.Palette.new.Given as goal

abbrev pub invariant-loop-i : goal.invariant-loop-i
invariant-loop-i l =
    l.entry-items ≡ tab l.i (nth_texel l.t l.s) ++ drop l.i l.initial.entry-items
