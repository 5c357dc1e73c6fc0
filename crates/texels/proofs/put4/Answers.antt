use lib.ListN.{length-set}
use native.Mathlib.Omega.{arith}
use Rattle.lists.proofs.Stores.{paste_four}
use Rattle.texels.proofs.put4.Goals as goal

-- written out: using(..) of an attribute takes no name with a hyphen
pub bounds-out-at-2 : goal.bounds-out-at-2
bounds-out-at-2 c = simp length-set (omega arith)

pub bounds-out-at-3 : goal.bounds-out-at-3
bounds-out-at-3 c = simp length-set (omega arith)

pub bounds-out-at-4 : goal.bounds-out-at-4
bounds-out-at-4 c = simp length-set (omega arith)

pub returns : goal.returns
returns c =
    let a = c.args in paste_four a.out.now a.at a.c 0 (omega arith) (omega arith)
