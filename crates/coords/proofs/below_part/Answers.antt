use lib.Ieee.{of_bits}
use Rattle.coords.proofs.Quick.{few_part, below_part, below_whole}
use Rattle.coords.proofs.below_part.Goals as goal

pub overflow_sub-result : goal.overflow_sub-result
unfolding of_bits
overflow_sub-result c = (below_whole _ _ c.requires c.whole_part-n.ensures.value c.if-y.true).0

pub returns-then-y : goal.returns-then-y
unfolding of_bits
returns-then-y c = let w = below_whole _ _ c.requires c.whole_part-n.ensures.value c.if-y.true in (w.1, w.2)

pub returns : goal.returns
unfolding of_bits
returns c = below_part _ _ c.requires c.whole_part-n.ensures.value c.if-y.false

pub whole_part-n-requires-clause-part : goal.whole_part-n-requires-clause-part
unfolding of_bits
whole_part-n-requires-clause-part c = few_part _ (c.requires)
