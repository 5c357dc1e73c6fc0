use mathlib.Core.Path.{◌≡◌}
use Prim.Native.Nat.{ℕ, ◌<◌}
use lib.ListN.{length}
use Rattle.stages.specs.Stages.{stage_at, texture_at}
use Rattle.draw.proofs.bind.Given as goal

abbrev pub invariant-loop-i : goal.invariant-loop-i
invariant-loop-i l = (length l.bound ≡ 4) × ((k : ℕ) → k < l.i → texture_at l.bound k ≡ texture_at l.units (stage_at l.stages k).unit)
