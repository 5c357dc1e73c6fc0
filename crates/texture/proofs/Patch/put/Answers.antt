use Rattle.std.proofs.Common.{◌≡◌, ◌∙◌, arith}
use Rattle.lists.proofs.Turns.{iter_more}
use Rattle.texture.specs.Patch.{patch_store}
use Rattle.texture.proofs.Patch.put.Goals as goal

pub loop-r-preserved : goal.loop-r-preserved
loop-r-preserved c = c.put_row.ensures ∙ rw c.loop-r.invariant (iter_more _ _ _)

pub returns : goal.returns
unfolding patch_store
returns c =
    let e : c.loop-r.r ≡ c.args.self.area.height = omega arith in
    c.loop-r.invariant ∙ rw e
