use Rattle.clip.proofs.Walks.{Walking}
use Rattle.clip.proofs.walk_edges.Given as goal

abbrev pub invariant-loop-i : goal.invariant-loop-i
invariant-loop-i l = Walking l.plane l.polygon l.out l.i
