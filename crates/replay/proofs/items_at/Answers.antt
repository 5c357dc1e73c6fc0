use Rattle.std.proofs.Common.{rules, ap, ◌∙◌, ℕ, ◌<◌, subst, Some, get_or}
use Rattle.std.proofs.lemmas.Option.{slice_get-get_or}
use Rattle.lists.proofs.Made.{tab_from_fn}
use Rattle.lists.proofs.Tables.{get_or_tab}
use Rattle.replay.specs.Items.{place_of}
use Rattle.replay.proofs.items_at.Goals as goal

pub returns : goal.returns
returns g c = λ i h.
    let item = λ (k : ℕ). g.T.Item.item_of c.args.b.now (place_of c.args.at g.T.Item.SIZE k) in
    let made = tab_from_fn _ _ item (λ i q y k. search rules) g.row.N _ c.from_fn.ensures.items in
    slice_get-get_or c.from_fn.result i (item i) h
    ∙ ap Some (ap (λ l. get_or l i (item i)) made ∙ get_or_tab item g.row.N i (item i) (subst (λ n. i < n) c.from_fn.ensures.items.long h))
