use Rattle.std.proofs.Common.{ap, ◌∙◌}
use lib.Ieee.{neg}
use Rattle.rounding.proofs.Floors.{ceil_is}
use Rattle.rounding.proofs.ceil.Goals as goal

pub returns : goal.returns
returns c = ap neg c.floor.ensures ∙ ceil_is _
