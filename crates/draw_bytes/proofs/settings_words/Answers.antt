use mathlib.Core.List.{[], ◌∷◌}
use mathlib.Core.Path.{ap, ◌∙◌}
use lib.ListN.{get_or}
use Rattle.lists.specs.Lists.{tab}
use Rattle.draw_bytes.specs.Write.{float_bits_at, switch_word, settings_words}
use Rattle.draw_bytes.proofs.Words.{switch_is}
use Rattle.draw_bytes.proofs.settings_words.Goals as goal

pub returns : goal.returns
unfolding settings_words tab
returns c =
    let words = c.float_words.ensures ∙ ap (λ l. tab 4 (float_bits_at l)) c.from.ensures in
    λ t. get_or (c.viewport_words.ensures t) 0 0
    ∷ get_or (c.viewport_words.ensures t) 1 0
    ∷ get_or (c.viewport_words.ensures t) 2 0
    ∷ get_or (c.viewport_words.ensures t) 3 0
    ∷ c.float_bits.ensures t
    ∷ c.float_bits-2.ensures t
    ∷ (c.from-2.ensures ∙ switch_is _ ∙ ap switch_word c.is_some.ensures) t
    ∷ get_or (c.box_words.ensures t) 0 0
    ∷ get_or (c.box_words.ensures t) 1 0
    ∷ get_or (c.box_words.ensures t) 2 0
    ∷ get_or (c.box_words.ensures t) 3 0
    ∷ (c.from-3.ensures ∙ switch_is _) t
    ∷ c.from-4.ensures t
    ∷ (c.from-5.ensures ∙ switch_is _) t
    ∷ (c.from-6.ensures ∙ switch_is _) t
    ∷ c.from-7.ensures t
    ∷ c.float_bits-3.ensures t
    ∷ (c.from-8.ensures ∙ switch_is _) t
    ∷ c.from-9.ensures t
    ∷ c.from-10.ensures t
    ∷ c.cull_code.ensures t
    ∷ c.from-11.ensures t
    ∷ (c.from-12.ensures ∙ switch_is _) t
    ∷ (c.from-13.ensures ∙ switch_is _) t
    ∷ (c.from-14.ensures ∙ switch_is _) t
    ∷ (c.from-15.ensures ∙ switch_is _) t
    ∷ (c.from-16.ensures ∙ switch_is _) t
    ∷ c.from-17.ensures t
    ∷ get_or (words t) 0 0
    ∷ get_or (words t) 1 0
    ∷ get_or (words t) 2 0
    ∷ get_or (words t) 3 0
    ∷ c.float_bits-4.ensures t
    ∷ c.float_bits-5.ensures t
    ∷ c.float_bits-6.ensures t
    ∷ (c.from-18.ensures ∙ switch_is _) t ∷ []
