-- A tally of the entries that calls of a function judge.
use Rattle.std.specs.Prelude.{◌≡◌, ℕ, Bool, Option, List}
use Rattle.std.specs.List.{FoldsTo}
use Rattle.std.specs.Fn.{Mut, CalledAt}
use Rattle.std.specs.Borrow.{Bor}
use Rattle.replay.specs.Entries.{ConsumesEntry}
use Rattle.replay.specs.Record.{start_of, told_of}
use Rattle.replay.specs.declared.Tally.{Tally}

module _ {F : Type 0} (g : Mut F (Bor (List ℕ) × Unit {0}) Bool) where
  -- a call at the entry says whether its answer is right, and the entry is told
  abbrev pub TellsCall : Tally × F → List ℕ → Tally × F → Type 0
  TellsCall p entry q = (right : Bool) × CalledAt g p.1 entry right q.1 × (q.0 ≡ told_of p.0 entry right)

  -- t is the tally of entries that the known bytes begin with, each judged by a call in turn, from f on
  abbrev pub IsTallyOfRecord : Option (List ℕ) → F → Tally → Type 0
  IsTallyOfRecord known f t =
      (entries : List (List ℕ)) × (last : F) × (left : Option (List ℕ)) × FoldsTo TellsCall (start_of, f) entries (t, last) × FoldsTo ConsumesEntry known entries left
