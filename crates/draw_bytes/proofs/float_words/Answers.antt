use Rattle.std.proofs.Common.{rules}
use Rattle.lists.proofs.Made.{tab_from_fn}
use Rattle.draw_bytes.specs.Write.{float_bits_at}
use Rattle.draw_bytes.proofs.float_words.Goals as goal

pub returns : goal.returns
returns g c = tab_from_fn _ _ (float_bits_at c.args.x.now) (λ i q y k. search rules) g.row.N _ c.from_fn.ensures.items
