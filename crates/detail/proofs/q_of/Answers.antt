use Rattle.std.proofs.Common.{◌∙◌}
use Rattle.detail.specs.Pairs.{q_of}
use Rattle.detail.proofs.Greater.{pair_greater}
use Rattle.detail.proofs.q_of.Goals as goal

pub returns : goal.returns
unfolding q_of
returns c = pair_greater _ _ _ _ _ _ _ c.pair-along_x.ensures c.pair-along_y.ensures c.max.ensures.value ∙ rw (c.nearest_u32_to_f32-w.ensures, c.nearest_u32_to_f32-h.ensures)
