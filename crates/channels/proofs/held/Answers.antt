use Rattle.channels.proofs.Cuts.{cut_is_held}
use Rattle.channels.proofs.held.Goals as goal

pub returns : goal.returns
returns c = cut_is_held _ _ c.requires c.from_zero.ensures c.min.ensures
