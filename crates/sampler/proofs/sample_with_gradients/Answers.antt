use mathlib.Core.Logic.{inl, inr}
use mathlib.Core.Path.{◌∙◌}
use Rattle.levels.specs.Levels.{level_of, levels_of}
use Rattle.mipmaps.proofs.Choices.{chosen_within}
use Rattle.sampler.specs.Addresses.{levels_for}
use Rattle.sampler.proofs.Records.{no_width, no_height, both_sides, readable}
use Rattle.sampler.proofs.Chosen.{incomplete, complete_sample}
use Rattle.std.proofs.Common.{rules}
use Rattle.sampler.proofs.sample_with_gradients.Goals as goal

pub returns-then-first-eq0 : goal.returns-then-first-eq0
returns-then-first-eq0 c =
    let x = c.args.texture.now in
    c.white_texel.ensures ∙ incomplete _ x _ (elim c.then-first-eq0.either [ inl e ↦ no_width x e | inr e ↦ no_height x e.1 ])

pub chosen_levels-chosen-requires : goal.chosen_levels-chosen-requires
chosen_levels-chosen-requires c =
    let x = c.args.texture.now in
    record { top_in = (readable _ x c.requires (both_sides x c.if-first-eq0.false c.if-first-eq0-2.false) (search rules)).few }

pub sample_chosen-requires : goal.sample_chosen-requires
sample_chosen-requires c =
    let x = c.args.texture.now in
    record { readable = readable _ x c.requires (both_sides x c.if-first-eq0.false c.if-first-eq0-2.false) (search rules); chosen_within = rw c.chosen_levels-chosen.ensures (chosen_within _ _ _ _ _ _) }

pub returns : goal.returns
unfolding levels_for level_of levels_of
returns c =
    let x = c.args.texture.now in
    c.sample_chosen.ensures ∙ complete_sample _ x c.args.p (both_sides x c.if-first-eq0.false c.if-first-eq0-2.false) _ c.chosen_levels-chosen.ensures
