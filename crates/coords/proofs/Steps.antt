-- The texel after one that is known, where a side repeats: one more, and at the end the first. Assumes nothing.
use Prim.Native.Nat.{ℕ, zero, suc, ◌+◌, ◌-◌, ◌*◌, ◌/◌, ◌%◌, ◌^◌, ◌≤◌, ◌<◌, min}
use mathlib.Core.Path.{◌≡◌, sym, ap, ◌∙◌}
use mathlib.Core.Logic.{◌⊎◌, inl, inr}
use lib.IntN.{ℤ, pos, negsuc}
use lib.Arith.{digits_mod}
use native.Mathlib.Nat.{mod-lt, mod-eq_of_lt, eq-or-lt_of_le, div-add-mod', suc-mul}
use native.Mathlib.Omega.{arith}
use Rattle.rounding.specs.Rounding.{next_of}
use Rattle.levels.specs.declared.Wrap.TheVariants.{Repeat}
use Rattle.coords.specs.Coords.{rem_of, wrap_texel}

-- the remainder of the next number: one more, or 0 where that is the side
abbrev Next : ℕ → ℕ → Type 0
Next k size = ((k % size + 1 < size) × ((k + 1) % size ≡ k % size + 1)) ⊎ ((k % size + 1 ≡ size) × ((k + 1) % size ≡ 0))

next : (k size : ℕ) → 0 < size → Next k size
next k size h = go (eq-or-lt_of_le (mod-lt k h))
  where
    go : (suc (k % size) ≡ size) ⊎ (suc (k % size) < size) → Next k size
    go (inr l) = inl (omega arith, ap (λ (z : ℕ). z % size) more ∙ digits_mod (k / size) (less l))
      where
        more : k + 1 ≡ k / size * size + (k % size + 1)
        more = omega (arith, div-add-mod' k size)

        less : suc (k % size) < size → k % size + 1 < size
        less l = omega arith
    go (inl e) = inr (omega arith, ap (λ (z : ℕ). z % size) more ∙ digits_mod (suc (k / size)) h)
      where
        more : k + 1 ≡ suc (k / size) * size + 0
        more = omega (arith, div-add-mod' k size, suc-mul (k / size) size, e)

-- not the last number
abbrev pub Before : ℤ → Type 0
Before (pos n) = n + 1 ≤ 2 ^ 63 - 1
Before (negsuc n) = ℕ

module _ (first size : ℕ) (h : 0 < size) where
  pub one_more : (z : ℤ) → Before z → first ≡ wrap_texel Repeat z size → first + 1 < size → first + 1 ≡ wrap_texel Repeat (next_of 63 z) size
  unfolding wrap_texel rem_of next_of
  one_more (pos n) f e l = go (next n size h)
    where
      few : min (n + 1) (2 ^ 63 - 1) ≡ n + 1
      few = omega arith

      go : Next n size → first + 1 ≡ min (n + 1) (2 ^ 63 - 1) % size
      go (inl p) = omega (arith, p.1, e, ap (λ (z : ℕ). z % size) few)
      go (inr p) = absurd (omega (arith, p.0, e))
  one_more (negsuc zero) f e l = absurd (omega (arith, mod-eq_of_lt h, e))
  one_more (negsuc (suc k)) f e l = go (next k size h)
    where
      same : suc k % size ≡ (k + 1) % size
      same = ap (λ (z : ℕ). z % size) (omega arith)

      go : Next k size → first + 1 ≡ size - 1 - k % size
      go (inl p) = omega (arith, p.0, p.1, same, e)
      go (inr p) = absurd (omega (arith, p.1, same, e))

  pub at_end : (z : ℤ) → Before z → first ≡ wrap_texel Repeat z size → size ≤ first + 1 → 0 ≡ wrap_texel Repeat (next_of 63 z) size
  unfolding wrap_texel rem_of next_of
  at_end (pos n) f e l = go (next n size h)
    where
      few : min (n + 1) (2 ^ 63 - 1) ≡ n + 1
      few = omega arith

      go : Next n size → 0 ≡ min (n + 1) (2 ^ 63 - 1) % size
      go (inl p) = absurd (omega (arith, p.0, e))
      go (inr p) = omega (arith, p.1, ap (λ (z : ℕ). z % size) few)
  at_end (negsuc zero) f e l = sym (mod-eq_of_lt h)
  at_end (negsuc (suc k)) f e l = go (next k size h)
    where
      same : suc k % size ≡ (k + 1) % size
      same = ap (λ (z : ℕ). z % size) (omega arith)

      go : Next k size → 0 ≡ size - 1 - k % size
      go (inl p) = absurd (omega (arith, p.0, p.1, same, e))
      go (inr p) = omega (arith, p.0)
