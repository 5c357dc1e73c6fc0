use Rattle.coverage.specs.Coverage.{weights_of}
use Rattle.coverage.proofs.weights_at.Goals as goal

pub returns : goal.returns
unfolding weights_of
returns c = rw (c.edge-w1.ensures, c.edge-w0.ensures, c.centre-sy.ensures, c.centre-sx.ensures)
