use mathlib.Core.Path.{refl, ◌∙◌}
use lib.Ieee.{of_bits, lt}
use Rattle.channels.proofs.Scaled.{scaled_part, scaled_byte}
use Rattle.channels.proofs.to_byte.Goals as goal

-- Kept: tried without it: the check does not compute of_bits and lt, an attribute cannot name what is of lib, and held-requires stays open (8a)
pub held-requires : goal.held-requires
unfolding of_bits lt
held-requires c = refl

pub whole_part-requires-clause-part : goal.whole_part-requires-clause-part
unfolding of_bits
whole_part-requires-clause-part c = scaled_part _ _ c.held.ensures

pub returns : goal.returns
unfolding of_bits
returns c = c.whole_part.ensures.value ∙ scaled_byte _ _ c.held.ensures
