use Rattle.gradients.specs.Gradients.{value_of, attribute_of}
use Rattle.gradients.proofs.perspective_attribute_with_gradients.Goals as goal

pub returns : goal.returns
unfolding value_of attribute_of
returns c = rw (c.slope-2.ensures, c.slope.ensures, c.perspective_sum-numerator_dy.ensures, c.perspective_sum-numerator_dx.ensures, c.perspective_sum.ensures)
