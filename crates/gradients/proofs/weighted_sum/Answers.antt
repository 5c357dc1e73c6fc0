use mathlib.Core.Path.{refl}
use Rattle.gradients.specs.Gradients.{sum_of}
use Rattle.gradients.proofs.weighted_sum.Goals as goal

-- Kept: by an attribute in its place the edit sums_from_the_last would be refused by a limit of the search alone (8a)
pub returns : goal.returns
unfolding sum_of
returns c = refl
