-- Numbers in a byte layout, the low byte first: docs/INTERFACE.md.
use Rattle.std.specs.Prelude.{ℕ, ◌+◌, ◌*◌, ◌/◌, ◌%◌, List, get_or}

-- four and eight bytes at i
unfoldable pub word : List ℕ → ℕ → ℕ
word b i = get_or b i 0 + 256 * get_or b (i + 1) 0 + 65536 * get_or b (i + 2) 0 + 16777216 * get_or b (i + 3) 0

unfoldable pub long : List ℕ → ℕ → ℕ
long b i = word b i + 4294967296 * word b (i + 4)

abbrev pub byte_of : ℕ → ℕ → ℕ
byte_of n unit = n / unit % 256
