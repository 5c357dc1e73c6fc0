-- Powers of powers. Assumes nothing.
use Rattle.std.proofs.Common.{◌≡◌, ℕ, zero, suc, ◌*◌, ◌^◌, sym, ap, ◌∙◌, pow-suc, mul-zero, mul-suc, pow-add}
use native.Mathlib.Nat.{pow-zero}

pub pow_pow : (a j k : ℕ) → (a ^ j) ^ k ≡ a ^ (j * k)
pow_pow a j zero = pow-zero (a ^ j) ∙ sym (ap (λ (x : ℕ). a ^ x) (mul-zero j) ∙ pow-zero a)
pow_pow a j (suc k) = pow-suc (a ^ j) k ∙ ap (λ (x : ℕ). x * a ^ j) (pow_pow a j k) ∙ sym (pow-add a (j * k) j) ∙ ap (λ (x : ℕ). a ^ x) (sym (mul-suc j k))
