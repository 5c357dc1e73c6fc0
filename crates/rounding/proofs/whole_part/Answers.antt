use lib.Ieee.{of_bits}
use Rattle.lists.proofs.Choice.{yes, no}
use Rattle.rounding.proofs.LastBits.{part_fast, shifted, last_bits}
use Rattle.rounding.proofs.whole_part.Goals as goal
use Rattle.rounding.proofs.whole_part.Goals.{then-r-t, else-r-t}

pub float_to_bits-result : goal.float_to_bits-result
unfolding of_bits
float_to_bits-result g c = (part_fast g.row.W c.requires.width _ c.requires.part).number

pub returns-clause-value : goal.returns-clause-value
unfolding of_bits
returns-clause-value g c =
    last_bits g.row.W _ _ c.if-r-t.up (shifted g.row.W c.requires.width) (part_fast g.row.W c.requires.width _ c.requires.part)
    (elim c.if-r-t.branch [ then-r-t w ↦ yes _ w.if-r-t.true w.up-is | else-r-t w ↦ no _ w.if-r-t.false w.up-is ])
