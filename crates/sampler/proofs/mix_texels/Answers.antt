use Rattle.std.proofs.Common.{rules, ◌∙◌, refl, get_or}
use Rattle.lists.specs.Lists.{tab}
use Rattle.lists.proofs.Made.{tab_from_fn}
use Rattle.sampler.specs.Texels.{texel_at, mix_byte, mix_texel}
use Rattle.sampler.proofs.mix_texels.Goals as goal

pub returns : goal.returns
unfolding tab texel_at mix_texel
returns c =
    c.from.ensures
    ∙ rw (tab_from_fn _ _ (λ k. mix_byte c.args.weight (get_or c.from-a.result k 0) (get_or c.from-b.result k 0)) (λ i q y k. search rules) 4 _ c.from_fn.ensures.items, c.from-a.ensures, c.from-b.ensures) refl
