-- The length of words' bytes, and a switch's word. Assumes nothing.
use mathlib.Core.Path.{◌≡◌, refl}
use mathlib.Core.List.{List}
use mathlib.Core.Bool.{Bool, true, false}
use mir.Val.{bool_byte}
use Prim.Native.Nat.{ℕ, ◌*◌}
use lib.ListN.{length}
use Rattle.lists.proofs.Rows.{length_flat}
use Rattle.draw_bytes.specs.Write.{word_bytes, word_bytes_at, bytes_of, switch_word}

pub length_word : (ws : List ℕ) (i : ℕ) → length (word_bytes_at ws i) ≡ 4
unfolding word_bytes_at word_bytes
length_word ws i = refl

pub length_bytes : (ws : List ℕ) → length (bytes_of ws) ≡ length ws * 4
unfolding bytes_of
length_bytes ws = length_flat 4 (word_bytes_at ws) (λ n. length_word ws n) (length ws)

-- a switch's word, as the machine makes it
pub switch_is : (p : Bool) → bool_byte p ≡ switch_word p
switch_is true = refl
switch_is false = refl
