use lib.Ieee.{of_bits}
use mathlib.Core.Path.{refl}
use native.Mathlib.Omega.{arith}
use Rattle.coords.proofs.Quick.{few_part, floored_above, floored_below, small_float, minus_above, held_whole, held_below}
use Rattle.coords.proofs.near_floor.Goals as goal

pub int_to_float-result : goal.int_to_float-result
int_to_float-result c = small_float _ (omega (arith, c.whole_part-n.ensures.few))

pub returns-then-x-2 : goal.returns-then-x-2
returns-then-x-2 c = held_whole _ _ _ (record { sfits = c.from.type_inv }) _ c.from.ensures (floored_above _ _ (record { above = c.if-x.true; below = c.if-x-2.true }) c.whole_part-n.ensures.value)

pub below_part-n-requires : goal.below_part-n-requires
below_part-n-requires c = record { above = minus_above _ c.if-x-3.true; below = c.if-x-4.true }

pub int_to_float-result-then-x-4 : goal.int_to_float-result-then-x-4
int_to_float-result-then-x-4 c = small_float _ (omega (arith, c.below_part-n.ensures.0))

pub returns-then-x-4 : goal.returns-then-x-4
returns-then-x-4 c = held_below _ _ _ (record { sfits = c.from-then-x-4.type_inv }) _ c.below_part-n.ensures.0 c.from-then-x-4.ensures (floored_below _ _ _ refl c.below_part-n.ensures.1)

pub whole_part-n-requires-clause-part : goal.whole_part-n-requires-clause-part
unfolding of_bits
whole_part-n-requires-clause-part c = few_part _ (record { above = c.if-x.true; below = c.if-x-2.true })
