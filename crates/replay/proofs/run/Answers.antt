use Rattle.std.proofs.Common.{of_calls, refl}
use Rattle.std.proofs.lemmas.Fn.{FoldsTo-push}
use Rattle.replay.proofs.run.Goals as goal

pub loop-preserved : goal.loop-preserved
loop-preserved g c = (
  search of_calls,
  (
    _,
    FoldsTo-push _ _ _ _ _ _ c.loop.invariant.1.1 (c.is_right.result, record { shown = c.in-Some.entry; shows = refl; called = c.is_right.ensures }, c.told-tally.ensures),
    FoldsTo-push _ _ _ _ _ _ c.loop.invariant.1.2 (c.in-Some.ensures.bytes),
  ),
)
