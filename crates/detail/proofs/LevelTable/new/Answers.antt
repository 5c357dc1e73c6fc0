use Rattle.std.proofs.Common.{refl}
use lib.Ieee.{of_bits}
use Rattle.detail.proofs.Grid.{thresholds}
use Rattle.detail.proofs.LevelTable.new.Goals as goal

pub invariant_of-result : goal.invariant_of-result
unfolding of_bits
invariant_of-result c = record { are_thresholds = thresholds _ tt refl }
