-- A side that is a power of two: the last bits of a whole number are its remainder. Assumes nothing.
use Rattle.std.proofs.Common.{◌≡◌, ℕ, zero, suc, ◌+◌, ◌-◌, ◌*◌, ◌/◌, ◌%◌, ◌^◌, ◌<◌, ◌≤◌, true, ℤ, pos, negsuc, w64, bit_and, refl, sym, ap, ◌∙◌, mod-lt, div-add-mod', suc-mul, add-mul, div-lt_iff_lt-mul, pow-suc, pow-add, pow_pos, arith, lit<, of_z}
use Rattle.std.proofs.lemmas.Nat.{and_mask, zero_from_ones, ones_le_self}
use Rattle.std.specs.Int.{is_power_of_two}
use Rattle.std.specs.Int.RustNames.{count_ones}
use lib.Arith.{digits_mod}
use lib.Count.{ones_step}
use mir.Val.{SFits}
use borrow.Author.Tests.{eqb-true}
use Rattle.levels.specs.declared.Wrap.{Wrap}
use Rattle.levels.specs.declared.Wrap.TheVariants.{Repeat}
use Rattle.coords.specs.Coords.{rem_of, wrap_texel}

-- ---- one bit that is set
record Power (n k : ℕ) : Type 0 where
  exponent : ℕ
  few : exponent ≤ k
  is : n ≡ 2 ^ exponent

power : (k n : ℕ) → n < 2 ^ k → count_ones n ≡ 1 → Power n k
power zero n h e = absurd (omega (arith, ones_le_self n))
power (suc k) n h e = go (n % 2) refl (power k (n / 2) ((div-lt_iff_lt-mul {x = n} {y = 2 ^ k} (lit< tt)).1 (omega (arith, pow-suc 2 k))))
  where
    halves : n / 2 * 2 + n % 2 ≡ n
    halves = div-add-mod' n 2

    go : (b : ℕ) → n % 2 ≡ b → (count_ones (n / 2) ≡ 1 → Power (n / 2) k) → Power n (suc k)
    go zero p f = let r = f (omega (arith, ones_step n)) in record { exponent = suc r.exponent; few = omega (arith, r.few); is = omega (arith, halves, r.is, pow-suc 2 r.exponent) }
    go (suc zero) p f = let z : n / 2 ≡ 0 = zero_from_ones (n / 2) (omega (arith, ones_step n)) in record { exponent = 0; few = omega arith; is = omega (arith, halves) }
    go (suc (suc b)) p f = absurd (omega (arith, mod-lt n (lit< {m = 0} {n = 2} tt)))

-- ---- the remainder of -1 - n, from its bits
low : (c s n : ℕ) → 0 < s → n < c * s → (c * s - suc n) % s ≡ s - 1 - n % s
low c s n h l =
    let q = n / s in
    let e : q * s + n % s ≡ n = div-add-mod' n s in
    let d : n % s < s = mod-lt n h in
    let m : q < c = (div-lt_iff_lt-mul {x = n} {y = c} h).1 l in
    let k : c - 1 - q + suc q ≡ c = omega arith in
    let p : c * s ≡ (c - 1 - q) * s + suc q * s = ap (λ (z : ℕ). z * s) (sym k) ∙ add-mul (c - 1 - q) (suc q) s in
    let g : c * s - suc n ≡ (c - 1 - q) * s + (s - 1 - n % s) = omega (arith, p, suc-mul q s, e, d) in
    ap (λ (z : ℕ). z % s) g ∙ digits_mod (c - 1 - q) (omega arith)

rest : (z : ℤ) (j : ℕ) → SFits w64 z → j ≤ 11 → of_z w64 z % 2 ^ j ≡ rem_of z (2 ^ j)
unfolding rem_of
rest (pos n) j f h = refl
rest (negsuc n) j f h =
    let e : 64 - j + j ≡ 64 = omega arith in
    let c : 2 ^ (64 - j) * 2 ^ j ≡ 2 ^ 64 = sym (pow-add 2 (64 - j) j) ∙ ap (λ (k : ℕ). 2 ^ k) e in
    ap (λ (k : ℕ). (k - suc n) % 2 ^ j) (sym c) ∙ low (2 ^ (64 - j)) (2 ^ j) n (pow_pos j) (omega (arith, f.sfits, c))

pub masked : (w : Wrap) (z : ℤ) (size : ℕ) → SFits w64 z → size ≤ 1024 → is_power_of_two size ≡ true → w ≡ Repeat → bit_and (of_z w64 z) (size - 1) ≡ wrap_texel w z size
unfolding wrap_texel
masked w z size f h p i =
    let r = power 11 size (omega arith) (eqb-true _ _ p) in
    rw i (ap (λ (k : ℕ). bit_and (of_z w64 z) (k - 1)) r.is ∙ and_mask (of_z w64 z) r.exponent ∙ rest z r.exponent f r.few ∙ ap (rem_of z) (sym r.is))
