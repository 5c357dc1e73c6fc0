use Rattle.std.proofs.Common.{rules, ◌∙◌, refl, get_or}
use Rattle.lists.specs.Lists.{tab}
use Rattle.lists.proofs.Made.{tab_from_fn}
use Rattle.sampler.specs.Texels.{texel_at, linear_byte, linear_texel}
use Rattle.sampler.proofs.linear_texel.Goals as goal

pub returns : goal.returns
unfolding tab texel_at linear_texel
returns c =
    let a = c.args in
    c.from.ensures
    ∙ rw (
      tab_from_fn _ _ (λ k. linear_byte a.wx a.wy (get_or c.from-c00.result k 0) (get_or c.from-c10.result k 0) (get_or c.from-c01.result k 0) (get_or c.from-c11.result k 0)) (λ i q y k. search rules) 4 _ c.from_fn.ensures.items,
      c.from-c00.ensures,
      c.from-c10.ensures,
      c.from-c01.ensures,
      c.from-c11.ensures,
    )
    refl
