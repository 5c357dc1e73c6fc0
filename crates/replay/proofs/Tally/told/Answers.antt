use Rattle.std.proofs.Common.{◌≡◌, refl, Bool, true, false}
use Rattle.std.specs.Prelude.{cond}
use Rattle.std.specs.Int.{from_bool}
use Rattle.replay.specs.Record.{told_of}
use Rattle.replay.proofs.Tally.told.Goals as goal

one_if : (right : Bool) → from_bool right ≡ cond right 1 0
one_if true = refl
one_if false = refl

pub returns : goal.returns
unfolding told_of
returns c = rw (c.from.ensures, one_if, c.sum_bytes.ensures, c.step.ensures)
