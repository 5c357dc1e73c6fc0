use Rattle.std.proofs.Common.{◌≡◌, ◌++◌, ◌*◌, drop}
use Rattle.lists.specs.Lists.{flat}
use Rattle.draw_bytes.specs.Write.{word_bytes_at}
use Rattle.draw_bytes.proofs.put_words.Given as goal

abbrev pub invariant-loop-i : goal.invariant-loop-i
invariant-loop-i l = l.b ≡ flat l.i (word_bytes_at l.words) ++ drop (l.i * 4) l.initial.b
