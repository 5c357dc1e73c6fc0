use Rattle.std.proofs.Common.{[], ◌∷◌, ◌∙◌, ap, slice_index_or}
use Rattle.lists.specs.Lists.{tab}
use Rattle.draw_bytes.specs.Write.{float_bits_at, stage_words}
use Rattle.draw_bytes.proofs.stage_words.Goals as goal

pub returns : goal.returns
unfolding stage_words tab
returns c =
    let words = c.float_words.ensures ∙ ap (λ l. tab 4 (float_bits_at l)) c.from.ensures in
    λ t.
    c.args.x.unit
    ∷ c.from-2.ensures t
    ∷ slice_index_or (words t) 0 0
    ∷ slice_index_or (words t) 1 0
    ∷ slice_index_or (words t) 2 0
    ∷ slice_index_or (words t) 3 0 ∷ []
