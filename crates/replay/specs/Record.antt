-- Counting the answers of a record, and its checksum.
use Rattle.std.specs.Prelude.{ℕ, ◌+◌, ◌*◌, ◌%◌, ◌^◌, Bool, false, cond, List, length, slice_index, Float}
use Rattle.std.specs.Float.Ieee as Ieee
use Rattle.std.specs.List.{fold}
use Rattle.floats.specs.Num.{◌⊘◌, zero32, one32}
use Rattle.replay.specs.declared.Tally.{Tally}

-- the checksum after one more number: 257 is prime to the modulus, a prime, so a single changed byte changes every later sum
unfoldable pub step_of : ℕ → ℕ → ℕ
step_of s v = ((s % 4294967291) * 257 + v % 4294967291 + 1) % 4294967291

-- the checksum after a list of bytes
abbrev pub sum_of : ℕ → List ℕ → ℕ
sum_of s l = fold step_of s l

abbrev pub start_of : Tally
start_of = record { right = 0; answers = 0; bytes = 0; sum = 0 }

-- one entry more: its length counts as 4 bytes, and is summed before them
unfoldable pub told_of : Tally → List ℕ → Bool → Tally
told_of t entry right =
    record {
      right = (t.right + cond right 1 0) % 2 ^ 64;
      answers = (t.answers + 1) % 2 ^ 64;
      bytes = (t.bytes + (length entry + 4) % 2 ^ 64) % 2 ^ 64;
      sum = sum_of (step_of t.sum (length entry)) entry;
    }

-- first, first + step, first + 2 step, .. in bytes
abbrev pub ascending : ℕ → ℕ → ℕ → ℕ
ascending first step i = (first + step * (i % 256) % 256) % 256

-- the byte at an index, 0 past the end
abbrev pub byte_or0 : List ℕ → ℕ → ℕ
byte_or0 l i = slice_index l i

-- 2, 4 and 8 bytes, the low one first
unfoldable pub word16_of : List ℕ → ℕ → ℕ
word16_of l i = byte_or0 l i + 256 * byte_or0 l (i + 1)

unfoldable pub word32_of : List ℕ → ℕ → ℕ
word32_of l i = word16_of l i + 65536 * word16_of l (i + 2)

unfoldable pub word64_of : List ℕ → ℕ → ℕ
word64_of l i = word32_of l i + 4294967296 * word32_of l (i + 4)

-- the zero a: a zero of the same sign, which is that of its reciprocal
unfoldable pub same_zero_of : Float → Float → Bool
same_zero_of a b = cond (Ieee.eq b zero32) (Ieee.eq (one32 ⊘ a) (one32 ⊘ b)) false

-- the same float: NaN is NaN, and a zero has its sign
unfoldable pub same_of : Float → Float → Bool
same_of a b = cond (Ieee.ne a a) (Ieee.ne b b) (cond (Ieee.eq a zero32) (same_zero_of a b) (Ieee.eq a b))
