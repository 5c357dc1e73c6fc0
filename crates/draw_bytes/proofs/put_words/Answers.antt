use Rattle.std.proofs.Common.{◌≡◌, ◌∙◌, ◌*◌, refl, length, arith}
use Rattle.std.proofs.lemmas.Slice.{put_mid-paste}
use Rattle.lists.proofs.Rows.{flat_none, flat_more, flat_all}
use Rattle.draw_bytes.specs.Write.{word_bytes, word_bytes_at, bytes_of}
use Rattle.draw_bytes.proofs.Words.{length_word}
use Rattle.draw_bytes.proofs.put_words.Goals as goal

pub loop-i-init : goal.loop-i-init
loop-i-init c = flat_none 4 (word_bytes_at c.args.words.now) (λ n. length_word c.args.words.now n) _

pub loop-i-preserved : goal.loop-i-preserved
unfolding word_bytes_at word_bytes
loop-i-preserved c =
    put_mid-paste (c.loop-i.i * 4) _ c.loop-i.b _ (word_bytes_at c.args.words.now c.loop-i.i) 4 (c.copy_from_slice.ensures.after ∙ c.to_le_bytes.ensures) (omega arith) refl
    ∙ rw c.loop-i.invariant (flat_more 4 (word_bytes_at c.args.words.now) (λ n. length_word c.args.words.now n) c.loop-i.i _)

pub returns : goal.returns
unfolding bytes_of
returns c =
    let e : c.loop-i.i ≡ length c.args.words.now = omega arith in
    c.loop-i.invariant ∙ rw e (flat_all 4 (word_bytes_at c.args.words.now) (λ n. length_word c.args.words.now n) (length c.args.words.now) _ (omega (arith, c.requires)))
