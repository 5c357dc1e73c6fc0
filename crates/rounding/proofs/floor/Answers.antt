use Rattle.std.proofs.Common.{T, sym, subst}
use lib.Ieee.{of_bits}
use Rattle.lists.proofs.Choice.{yes, no}
use Rattle.rounding.proofs.Floors.{above_near, floor_above, below_near, floor_below, floor_zero}
use Rattle.rounding.proofs.floor.Goals as goal
use Rattle.rounding.proofs.floor.Goals.{then-near-x, else-near-x, then-near-y, else-near-y}

pub returns-then-x-2 : goal.returns-then-x-2
unfolding of_bits
returns-then-x-2 c = above_near _ _ c.if-x.true c.if-x-2.true (elim c.if-near-x.branch [ then-near-x w ↦ yes _ w.if-near-x.true w.past-is | else-near-x w ↦ no _ w.if-near-x.false w.past-is ])

pub returns-then-x : goal.returns-then-x
unfolding of_bits
returns-then-x c = floor_above _ (subst T (sym c.well_formed.0.1) tt) c.if-x.true c.if-x-2.false

pub returns-then-y : goal.returns-then-y
unfolding of_bits
returns-then-y c = below_near _ _ c.if-x-3.true c.if-y.true (elim c.if-near-y.branch [ then-near-y w ↦ yes _ w.if-near-y.true w.short-is | else-near-y w ↦ no _ w.if-near-y.false w.short-is ])

pub returns-else-y : goal.returns-else-y
unfolding of_bits
returns-else-y c = floor_below _ (subst T (sym c.well_formed.0.1) tt) c.if-x-3.true c.if-y.false

pub returns-else-x-3 : goal.returns-else-x-3
unfolding of_bits
returns-else-x-3 c = floor_zero _ (subst T (sym c.well_formed.0.1) tt) c.if-x.false c.if-x-3.false
