use lib.Ieee.{of_bits, lt, ne}
use Rattle.floats.specs.Num.{max_of}
use Rattle.channels.proofs.from_zero.Goals as goal

pub returns : goal.returns
unfolding max_of of_bits lt ne
returns c = c.max.ensures
