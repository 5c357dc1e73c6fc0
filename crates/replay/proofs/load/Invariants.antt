use Rattle.std.proofs.Common.{◌≡◌, ℕ, ◌<◌, Some, length, slice_get}
use Rattle.replay.specs.Items.{place_of}
use Rattle.replay.proofs.load.Given as goal

abbrev pub invariant-loop-i : goal.invariant-loop-i
invariant-loop-i g l = (length l.out ≡ l.i-end) × ((k : ℕ) → k < l.i → slice_get l.out k ≡ Some (g.T.Item.item_of l.b (place_of l.at g.T.Item.SIZE k)))
