-- Items of one size that stand one after another.
use Rattle.std.specs.Prelude.{ℕ, ◌+◌, ◌*◌, min}

-- where item i of those from `at` on stands, held to the largest index
abbrev pub place_of : ℕ → ℕ → ℕ → ℕ
place_of at size i = min (at + min (i * size) 18446744073709551615) 18446744073709551615
