use Rattle.std.specs.Float.{nan}
use Rattle.std.proofs.Common.{rules, refl, get_or, ◌+◌, ◌*◌}
use Rattle.lists.specs.Lists.{tab}
use Rattle.lists.proofs.Made.{tab_from_fn}
use Rattle.probes.specs.Corners.{vertex_at}
use Rattle.probes.proofs.flat_polygon.corner.Goals as goal

pub returns : goal.returns
unfolding tab vertex_at
returns c =
    let s = c.args.polygon.now in
    let at = c.args.i * 17 in
    rw (
      tab_from_fn _ _ (λ j. get_or s (at + j) nan) (λ i q y k. search rules) 4 _ c.from_fn.ensures.items,
      tab_from_fn _ _ (λ j. get_or s (at + (4 + j)) nan) (λ i q y k. search rules) 4 _ c.from_fn-2.ensures.items,
      tab_from_fn _ _ (λ j. get_or s (at + (8 + j)) nan) (λ i q y k. search rules) 8 _ c.from_fn-3.ensures.items,
    )
    refl
