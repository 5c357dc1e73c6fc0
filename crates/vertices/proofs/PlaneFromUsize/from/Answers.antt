use Rattle.std.proofs.Common.{arith}
use Rattle.vertices.proofs.PlaneFromUsize.from.Goals as goal

pub returns : goal.returns
returns c = rw (c.unwrap_or.ensures, c.copied.ensures) (c.get.ensures.lookup.4 (omega arith) _)
