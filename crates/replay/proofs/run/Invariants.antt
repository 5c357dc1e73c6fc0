use Rattle.std.proofs.Common.{ℕ, List}
use Rattle.std.specs.List.{FoldsTo}
use Rattle.replay.specs.Record.{start_of}
use Rattle.replay.specs.Entries.{ConsumesEntry}
use Rattle.replay.specs.Calls.{TellsCall}
use Rattle.replay.proofs.run.Given as goal

abbrev pub invariant-loop : goal.invariant-loop
invariant-loop g l =
    goal.F-IsAlwaysCallable g l.is_right
    × ((entries : List (List ℕ))
    × FoldsTo (TellsCall g.F.FnMut) (start_of, l.fn.is_right) entries (l.tally, l.is_right)
    × FoldsTo ConsumesEntry (g.R.Read.remaining l.fn.input) entries (g.R.Read.remaining l.input))
