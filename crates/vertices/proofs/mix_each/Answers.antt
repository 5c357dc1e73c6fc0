use Rattle.std.specs.Float.{nan}
use Rattle.std.proofs.Common.{rules}
use Rattle.std.proofs.lemmas.List.FromFn.{fill_by_all}
use Rattle.lists.proofs.Made.{tab_from_fn}
use Rattle.lists.proofs.Tables.{length_tab, get_or_tab}
use Rattle.vertices.specs.Vertex.{mixed, mix_at}
use Rattle.vertices.proofs.mix_each.Goals as goal

pub returns : goal.returns
unfolding mixed
returns g c =
    let n = g.row.N in
    let at = mix_at c.args.t c.args.a.now c.args.b.now in
    rw (tab_from_fn _ _ at (λ i q y k. search rules) n _ c.from_fn.ensures.items) (fill_by_all at _ n nan (length_tab at n) (λ k h. get_or_tab at n k nan h))
