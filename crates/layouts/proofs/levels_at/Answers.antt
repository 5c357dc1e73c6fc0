use Rattle.std.proofs.Common.{rules}
use Rattle.lists.proofs.Made.{tab_from_fn}
use Rattle.layouts.specs.Records.{read_level}
use Rattle.layouts.proofs.levels_at.Goals as goal

pub returns : goal.returns
returns c = tab_from_fn _ _ (read_level c.args.b.now) (λ i q y k. search rules) 11 _ c.from_fn.ensures.items
