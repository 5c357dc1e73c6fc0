use Rattle.std.proofs.Common.{rules, ◌+◌, ◌*◌}
use Rattle.lists.proofs.Made.{tab_from_fn}
use Rattle.draw_layouts.specs.Numbers.{float_at}
use Rattle.draw_layouts.proofs.floats_at.Goals as goal

pub returns : goal.returns
unfolding float_at
returns g c = tab_from_fn _ _ (λ i. float_at c.args.b.now (c.args.at + i * 4)) (λ i q y k. search rules) g.row.N _ c.from_fn.ensures.items
