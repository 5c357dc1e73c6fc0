use lib.Seq.{set-get_or}
use mathlib.Core.Path.{sym}
use Rattle.pixels.proofs.write_depth.Goals as goal

pub returns-then-state : goal.returns-then-state
returns-then-state c = rw c.if-state.true

pub returns-else-state : goal.returns-else-state
returns-else-state c = rw c.if-state.false (sym (set-get_or _ _ _))
