-- A channel of so many bits is a byte as eight, and that of 4, 5 and 6 the byte that texture.rs makes. Assumes nothing.
use mathlib.Core.Path.{◌≡◌, sym, ◌∙◌}
use mathlib.Core.Bool.{cond}
use mathlib.Core.List.{[], ◌∷◌}
use mathlib.Core.Logic.{◌⊎◌, inl, inr}
use Prim.Native.Nat.{ℕ, zero, suc, ◌+◌, ◌-◌, ◌*◌, ◌/◌, ◌%◌, ◌^◌, ◌≤◌, ◌<◌}
use native.Mathlib.Nat.{div-eq_of_lt}
use native.Mathlib.Omega.{arith}
use lib.Dec.{ltb}
use lib.Pow.{pow_mono}
use Rattle.std.proofs.lemmas.Bool.{cases_lt, cond_below, cond_above}
use Rattle.texels.specs.Texels.{expand, expand4, expand5, expand6, rgb, rgb565}

pub four_bits : (v : ℕ) → expand 4 v ≡ expand4 v
four_bits v = omega arith

pub five_bits : (v : ℕ) → expand 5 v ≡ expand5 v
five_bits v = omega arith

pub six_bits : (v : ℕ) → expand 6 v ≡ expand6 v
six_bits v = omega arith

pub rgb_565 : (p : ℕ) → rgb 6 p ≡ rgb565 p
rgb_565 p =
    let red : p / 32 / 64 ≡ p / 2048 = omega arith in
    rw (five_bits (p / 32 / 64), six_bits (p / 32), five_bits p, red)

pub rgb_555 : (p : ℕ) → rgb 5 p ≡ expand5 (p / 1024) ∷ expand5 (p / 32) ∷ expand5 p ∷ []
rgb_555 p =
    let red : p / 32 / 32 ≡ p / 1024 = omega arith in
    rw (five_bits (p / 32 / 32), five_bits (p / 32), five_bits p, red)

-- a number of k bits has none from the k-th on
shifted_out : (k n h : ℕ) → h < 2 ^ k → k ≤ n → h / 2 ^ n ≡ 0
shifted_out k n h l m =
    let p : 2 ^ k ≤ 2 ^ n = pow_mono m in
    div-eq_of_lt (omega arith)

-- so a shift by any number of bits is a quotient
pub shifted : (k n h : ℕ) → h < 2 ^ k → h / 2 ^ n ≡ cond (ltb n k) (h / 2 ^ n) 0
shifted k n h l = by_size (cases_lt n k)
  where
    by_size : ((n < k) ⊎ (k ≤ n)) → h / 2 ^ n ≡ cond (ltb n k) (h / 2 ^ n) 0
    by_size (inl a) = cond_below n k (h / 2 ^ n) 0 a
    by_size (inr b) = cond_above n k (h / 2 ^ n) 0 (h / 2 ^ n) b (shifted_out k n h l b)

pub expand_byte : (n v : ℕ) → expand n v < 256
expand_byte zero v = omega arith
expand_byte (suc zero) v = omega arith
expand_byte (suc (suc zero)) v = omega arith
expand_byte (suc (suc (suc zero))) v = omega arith
expand_byte (suc (suc (suc (suc zero)))) v = omega arith
expand_byte (suc (suc (suc (suc (suc zero))))) v = omega arith
expand_byte (suc (suc (suc (suc (suc (suc zero)))))) v = omega arith
expand_byte (suc (suc (suc (suc (suc (suc (suc zero))))))) v = omega arith
expand_byte (suc (suc (suc (suc (suc (suc (suc (suc m)))))))) v =
    let n : ℕ = suc (suc (suc (suc (suc (suc (suc (suc m))))))) in
    omega (arith, shifted_out 8 n (v * 2 ^ (8 - n) % 256) (omega arith) (omega arith))

-- what the code adds up: v shifted by s bits, and by n bits back
pub expanded : (n v s r : ℕ) → s ≡ 8 - n → r ≡ cond (ltb n 32) (v * 2 ^ s % 4294967296 % 256 / 2 ^ n) 0
    → v * 2 ^ s % 4294967296 % 256 + r ≡ expand n v
expanded n v s r e f =
    let high : v * 2 ^ s % 4294967296 % 256 ≡ v * 2 ^ (8 - n) % 256 = rw e (omega arith) in
    rw (f ∙ sym (shifted 32 n (v * 2 ^ s % 4294967296 % 256) (omega arith)), high)
