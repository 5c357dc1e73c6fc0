-- One more than a signed number, as std adds it: the sum is cut to the largest number of its width. Assumes nothing.
use Rattle.std.proofs.Common.{◌≡◌, ℕ, zero, suc, ℤ, pos, negsuc, ◌+ℤ◌, refl, ap, ◌∙◌, arith}
use Rattle.std.proofs.lemmas.Int.{ints}
use Rattle.std.specs.Int.{saturate_to_bits}
use Rattle.std.specs.Int.RustNames.{FitsSigned}
use mir.Syntax.{Width}
use mir.Val.{hbits}
use Rattle.rounding.specs.Rounding.{next_of}

up : (n : ℕ) → negsuc (suc n) +ℤ pos 1 ≡ negsuc n
up n = omega (arith, ints)

pub next_is : (w : Width) (z : ℤ) → FitsSigned w z → saturate_to_bits (hbits w) (z +ℤ pos 1) ≡ next_of (hbits w) z
unfolding next_of
next_is w (pos n) f = refl
next_is w (negsuc zero) f = ap pos (omega arith)
next_is w (negsuc (suc n)) f = ap (saturate_to_bits (hbits w)) (up n) ∙ ap negsuc (omega (arith, f.sfits))
