use mathlib.Core.Path.{refl}
use Rattle.gradients.specs.Gradients.{perspective_sum}
use Rattle.gradients.proofs.perspective_sum.Goals as goal

-- Kept: by an attribute in its place the edit values_before_weights would be refused by a limit of the search alone (8a)
pub returns : goal.returns
unfolding perspective_sum
returns c = refl
