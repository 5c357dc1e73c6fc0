use mathlib.Core.Path.{◌≡◌}
use lib.ListN.{length}
use Rattle.lists.specs.Lists.{iter}
use Rattle.stages.specs.Stages.{stage_step}
use Rattle.stages.proofs.Stages.color.Given as goal

abbrev pub invariant-loop-stage : goal.invariant-loop-stage
invariant-loop-stage l = l.color ≡ iter (length l.yielded) (stage_step l.self.store.now l.self.stages.now l.self.textures.now l.t l.w l.rec) l.initial.color
