use Rattle.std.proofs.Common.{rules, ◌+◌, ap, ◌∙◌, slice_index, ◌<◌, subst}
use Rattle.lists.proofs.Tables.{get_or_tab}
use Rattle.lists.proofs.Made.{tab_from_fn}
use Rattle.replay.specs.Record.{byte_or0}
use Rattle.replay.proofs.bytes_at.Goals as goal

pub returns : goal.returns
returns g c = λ i h.
    let made = tab_from_fn _ _ (λ k. byte_or0 c.args.b.now (c.args.at + k)) (λ i q y k. search rules) g.row.N _ c.from_fn.ensures.items in
    ap (λ l. slice_index l i) made ∙ get_or_tab _ g.row.N i 0 (subst (λ n. i < n) c.from_fn.ensures.items.long h)
