-- An entry as it stands in a record.
use Rattle.std.specs.Prelude.{◌≡◌, ℕ, Option, List, ◌++◌, length}
use Rattle.std.specs.Int.{w32, from_le_bytes}
use Rattle.std.specs.Io.KnownBytes.{Consumes}

-- known bytes begin with the entry's length, in 4 bytes, and its bytes, and lose them
abbrev pub ConsumesEntry : Option (List ℕ) → List ℕ → Option (List ℕ) → Type 0
ConsumesEntry old entry new =
    (head : List ℕ) × (length head ≡ 4) × (length entry ≡ from_le_bytes w32 head) × Consumes old new (head ++ entry)
