use Rattle.texels.specs.Texels.{nth_texel}
use Rattle.lists.specs.Lists.{flat}
use lib.ListN.{length, drop}
use Prim.Native.Nat.{◌-◌, ◌*◌, ◌≤◌}
use mathlib.Core.List.{◌++◌}
use mathlib.Core.Path.{◌≡◌}
use Rattle.texels.proofs.fill.Given as goal

abbrev pub invariant-loop-i : goal.invariant-loop-i
invariant-loop-i l =
    (l.i ≤ l.count) × (length l.out ≡ length l.initial.out) × (l.out ≡ flat l.i (nth_texel l.t l.s) ++ drop (l.i * 4) l.initial.out)

abbrev pub decreases-loop-i : goal.decreases-loop-i
decreases-loop-i l = l.count - l.i
