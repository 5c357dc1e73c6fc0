use Prim.Native.Nat.{◌^◌}
use mathlib.Core.Path.{refl, sym, subst}
use lib.Dec.{T}
use lib.Ieee.{in_float}
use native.Mathlib.Omega.{arith}
use borrow.Author.Tests.{le-leb}
use Rattle.sampler.specs.Texels.{part_of}
use Rattle.sampler.proofs.part_weight.Goals as goal

pub int_to_float-result : goal.int_to_float-result
unfolding in_float
int_to_float-result c = subst T (sym (le-leb c.args.part (2 ^ 24) (omega arith))) tt

-- Kept: with it the edit parts_of_255 is refused for the equation, and not where a search gives up (8a)
pub returns : goal.returns
unfolding part_of
returns c = refl
