-- The worked runs of document 01 hold of the draw's definition. Assumes nothing.
use mathlib.Core.Path.{refl}
use Rattle.worked_draws.specs.Runs.{Runs}
use Rattle.worked_draws.proofs.Opened.{opened}

pub runs : Runs
unfolding opened
runs = record {
  first_writes = refl;
  first_depths = refl;
  second_writes = refl;
  less_first = refl;
  less_second = refl;
  infinity_writes = refl;
  depth_below_0 = refl;
}
