use Rattle.std.proofs.Common.{◌∙◌}
use Rattle.rounding.proofs.Methods.{round_is}
use Rattle.rounding.proofs.round.Goals as goal

pub returns : goal.returns
returns c = c.round.ensures ∙ round_is _
