-- One more than n or -1 - n, as the flag and the number. Assumes nothing.
use Rattle.std.proofs.Common.{◌≡◌, ℕ, zero, suc, ◌+◌, ◌-◌, ◌^◌, min, Bool, true, false, cond, nat_eq, pos, negsuc, refl, arith}
use borrow.Author.Tests.{ne_eqb}
use Rattle.std.proofs.Math.Numerals.{sub-one}
use Rattle.rounding.specs.Rounding.{next_of}

pub next_pair : (h : ℕ) (b : Bool) (m : ℕ) → cond b (cond (nat_eq m 0) (pos 0) (negsuc (m - 1))) (pos (min (m + 1) (2 ^ h - 1))) ≡ next_of h (cond b (negsuc m) (pos m))
unfolding next_of
next_pair h true zero = refl
next_pair h true (suc n) = rw (ne_eqb (suc n) 0 (λ e. omega arith), sub-one (suc n))
next_pair h false n = refl
