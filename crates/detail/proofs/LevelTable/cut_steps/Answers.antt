use Rattle.std.proofs.Common.{T, sym, ◌∙◌, subst}
use lib.Ieee.{of_bits, div}
use Rattle.detail.proofs.Cut.{cut_fin, cut_inf}
use Rattle.detail.proofs.LevelTable.cut_steps.Goals as goal

pub steps-requires-clause-finite : goal.steps-requires-clause-finite
unfolding of_bits div
steps-requires-clause-finite c = subst T (sym c.if-q.true) tt

pub returns-then-q : goal.returns-then-q
unfolding of_bits div
returns-then-q c = let a = c.args in c.min.ensures ∙ cut_fin a.q _ a.top c.if-q.true c.steps.ensures c.requires.above_one

pub returns : goal.returns
unfolding of_bits div
returns c = cut_inf _ _ c.if-q.false c.requires.above_one
