-- Where a box starts and ends: a signed number cut to 0, as std cuts it. Assumes nothing.
use Rattle.std.proofs.Common.{◌≡◌, ℤ, pos, negsuc, w32, ◌+ℤ◌, ap, ◌∙◌, arith, to_z, of_z}
use Rattle.std.proofs.lemmas.Int.{ints, clamps, to_z-of_z}
use Rattle.std.specs.Int.{int_max, saturate_signed}
use lib.IntN.{nat_abs}
use mir.Val.{SFits}
use Rattle.rounding.specs.Rounding.{next_of}
use Rattle.rounding.proofs.Next.{next_is}
use Rattle.scissor.specs.Scissor.{from_zero}

from_zero_is : (z : ℤ) → nat_abs (int_max z (pos 0)) ≡ from_zero z
from_zero_is (pos n) = omega (arith, ints, clamps)
from_zero_is (negsuc n) = omega (arith, ints, clamps)

pub cut : (z m : ℤ) → SFits w32 z → SFits w32 m → m ≡ int_max (to_z w32 (of_z w32 z)) (pos 0) → nat_abs (to_z w32 (of_z w32 m)) ≡ from_zero z
cut z m f g e = ap nat_abs (to_z-of_z w32 m g ∙ e ∙ ap (λ (y : ℤ). int_max y (pos 0)) (to_z-of_z w32 z f)) ∙ from_zero_is z

pub one_more : (z n : ℤ) → SFits w32 z → n ≡ saturate_signed w32 (to_z w32 (of_z w32 z) +ℤ pos 1) → n ≡ next_of 31 z
one_more z n f e = e ∙ ap (λ (y : ℤ). saturate_signed w32 (y +ℤ pos 1)) (to_z-of_z w32 z f) ∙ next_is w32 z f
