-- A mixture of two bytes is a byte; a selector of three bits is below eight; selectors of a number are those of its two parts. Assumes nothing.
use mathlib.Core.List.{List}
use mathlib.Core.Path.{◌≡◌, sym, ap, ◌∙◌}
use Prim.Native.Nat.{ℕ, suc, ◌+◌, ◌-◌, ◌*◌, ◌/◌, ◌%◌, ◌^◌, ◌≤◌, ◌<◌}
use native.Mathlib.Nat.{mul-le-mul_left, div-le_of_le-mul, mul-add, mul-suc}
use native.Mathlib.Decide.{dec_lt}
use native.Mathlib.Omega.{arith}
use lib.Pow.{shr-shr, high, low, field, mod-mod-pow}
use lib.ListN.{get_or, get_or-eq_default}
use Rattle.lists.specs.Lists.{tab}
use Rattle.lists.proofs.Tables.{get_or_tab, length_tab}
use Rattle.alpha_blocks.specs.AlphaBlocks.{mixed, selector, three_bytes, six_bytes, alpha_selectors, ThreeBits}

pub mixed_byte : (k n a b : ℕ) → k ≤ n → a < 256 → b < 256 → mixed k n a b ≤ 255
mixed_byte k n a b h p q =
    let left : (n - k) * a ≤ (n - k) * 255 = mul-le-mul_left (n - k) (omega arith) in
    let right : k * b ≤ k * 255 = mul-le-mul_left k (omega arith) in
    div-le_of_le-mul n (omega arith)

at_or_past : (s : List ℕ) (at i : ℕ) → Dec (i < 16) → get_or (alpha_selectors s at) i 0 < 8
unfolding alpha_selectors
at_or_past s at i (yes h) = rw (get_or_tab (selector 3 (six_bytes s at)) 16 i 0 h) (omega arith)
at_or_past s at i (no h) =
    rw (get_or-eq_default (tab 16 (selector 3 (six_bytes s at))) 0 {n = i} (rw (length_tab (selector 3 (six_bytes s at)) 16) (omega arith))) (omega arith)

pub three_bits : (s : List ℕ) (at : ℕ) → ThreeBits (alpha_selectors s at)
three_bits s at i = at_or_past s at i (dec_lt i 16)

-- Selectors of k bits in two parts: those of the lower number, then those of the higher one.
module _ (k m up : ℕ) {down : ℕ} (h : down < 2 ^ (k * m)) where
  abbrev whole : ℕ
  whole = up * 2 ^ (k * m) + down

  pub lower_part : (i r : ℕ) → suc r + i ≡ m → selector k (up * 2 ^ (k * m) + down) i ≡ selector k down i
  lower_part i r e =
      let a : k * m ≡ k * suc r + k * i = ap (λ z. k * z) (sym e) ∙ mul-add k (suc r) i in
      sym (mod-mod-pow (whole / 2 ^ (k * i)) (k * r) k)
      ∙ ap (λ z. whole / 2 ^ (k * i) % 2 ^ z % 2 ^ k) (sym (mul-suc k r))
      ∙ ap (λ z. z % 2 ^ k) (sym (field whole (k * suc r) (k * i)))
      ∙ ap (λ z. whole % 2 ^ z / 2 ^ (k * i) % 2 ^ k) (sym a)
      ∙ ap (λ z. z / 2 ^ (k * i) % 2 ^ k) (low up (k * m) h)

  pub higher_part : (i j : ℕ) → m + j ≡ i → selector k (up * 2 ^ (k * m) + down) i ≡ selector k up j
  higher_part i j e =
      ap (λ z. whole / 2 ^ z % 2 ^ k) (ap (λ z. k * z) (sym e) ∙ mul-add k m j)
      ∙ ap (λ z. z % 2 ^ k) (sym (shr-shr whole (k * m) (k * j)))
      ∙ ap (λ z. z / 2 ^ (k * j) % 2 ^ k) (high up (k * m) h)

-- the two halves of an alpha block's selectors are its one number
pub two_halves : (s : List ℕ) (at : ℕ) → three_bytes s (at + 3) * 16777216 + three_bytes s at ≡ six_bytes s at
two_halves s at =
    let a : at + 2 + 1 ≡ at + 3 = omega arith in
    let b : at + 3 + 1 ≡ at + 4 = omega arith in
    let c : at + 3 + 2 ≡ at + 5 = omega arith in
    let d : at + 4 + 1 ≡ at + 5 = omega arith in
    rw (a, b, c, d) (omega arith)
