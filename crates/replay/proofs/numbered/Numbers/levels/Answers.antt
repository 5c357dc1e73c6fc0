use Rattle.std.proofs.Common.{rules}
use Rattle.lists.specs.Lists.{tab}
use Rattle.lists.proofs.Made.{tab_from_fn}
use Rattle.replay.specs.Numbered.{level_from, levels_from}
use Rattle.replay.proofs.numbered.Numbers.levels.Goals as goal

pub returns : goal.returns
unfolding tab levels_from
returns c = tab_from_fn _ _ (level_from c.args.self.now.all.now) (λ i q y k. search rules) 11 _ c.from_fn.ensures.items
