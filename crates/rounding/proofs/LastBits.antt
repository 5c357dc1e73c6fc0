-- The whole part of a t from 0 up to 2 ^ w, by the sum t + 2 ^ 23: it is a whole number, whose last digits are the sum's last bits.
-- Less 2 ^ 23 it is the whole part or one more, and it is one more exactly if it lies above t. Assumes nothing.
use Prim.Native.Nat.{ℕ, suc, ◌+◌, ◌-◌, ◌*◌, ◌/◌, ◌%◌, ◌^◌, ◌≤◌, ◌<◌, min}
use mathlib.Core.Path.{◌≡◌, refl, sym, ap, subst, ◌∙◌}
use mathlib.Core.Bool.{Bool, true, false, cond, not}
use mathlib.Core.Logic.{◌⊎◌, inl, inr}
use lib.Dec.{T, ltb}
use lib.IntN.{ℤ}
use lib.Pow.{pow_pos, pow_mono}
use Rattle.std.proofs.lemmas.Bool.{true≢false}
use Rattle.std.proofs.Math.Nat.{add-mul-mod_self_right, mod-eq_of_lt, mod_self, mul_assoc}
use Rattle.std.proofs.Common.{pow-add}
use lib.Ieee.{Float, nan, inf, fin, up, down, lt, add, sub, size, to_unsigned, to_bits, is_nan, binary32}
use lib.Ieee.Fits.{down_pos}
use lib.Ieee.Exact.{HasValue}
use lib.Ieee.Back.{round_whole}
use native.Mathlib.Nat.{div-lt_iff_lt-mul, mul-one, mul_right_comm, mul-div_cancel, mul-le-mul_right, mul-lt-mul_of_pos_right, lt_of_lt_of_le, eq-or-lt_of_le, div-mul-le_self, lt-suc_self}
use native.Mathlib.Omega.{arith}
use borrow.Author.Tests.{lt-ltb, le-ltb}
use lib.Ieee.Casts.{to_unsigned-lt}
use Rattle.rounding.specs.Rounding.{Part}
use Rattle.rounding.proofs.Near.{big, sized, less, above_is, Summed, summed, summed_to}

-- ---- the bits of a whole number with 24 digits
bits_at : (n : ℕ) → n * 2 ^ 149 / 2 ^ (size (n * 2 ^ 149) - 24) + (size (n * 2 ^ 149) - 24) * 2 ^ 23 ≡ n + 149 * 2 ^ 23 → (z : ℕ) → z ≡ n * 2 ^ 149 → 0 + (size z - 24) * 2 ^ 23 + z / 2 ^ (size z - 24) ≡ n + 149 * 2 ^ 23
bits_at n h z e = rw e (omega arith)

whole_bits : (n : ℕ) → 2 ^ 23 ≤ n → n < 2 ^ 24 → n * 2 ^ 149 / 2 ^ (size (n * 2 ^ 149) - 24) + (size (n * 2 ^ 149) - 24) * 2 ^ 23 ≡ n + 149 * 2 ^ 23
whole_bits n lo hi =
    ap (λ (k : ℕ). n * 2 ^ 149 / 2 ^ (k - 24) + (k - 24) * 2 ^ 23) (sized (n * 2 ^ 149) (mul-le-mul_right (2 ^ 149) lo) (mul-lt-mul_of_pos_right hi (pow_pos 149)))
    ∙ ap (λ (z : ℕ). z + 149 * 2 ^ 23) (mul-div_cancel n (pow_pos 149))

pub bits : (x : Float) (n : ℕ) → HasValue x false n 1 → 2 ^ 23 ≤ n → n < 2 ^ 24 → to_bits binary32 x ≡ n + 149 * 2 ^ 23
unfolding to_bits
bits nan n h lo hi = absurd h
bits (inf s) n h lo hi = absurd h
bits (fin true m e) n h lo hi = absurd (true≢false h.0)
bits (fin false m e) n h lo hi =
    bits_at n (whole_bits n lo hi) (m * up e * 2 ^ 149 / down e)
    (ap (λ (z : ℕ). z * 2 ^ 149 / down e) (sym (mul-one (m * up e)) ∙ h.1) ∙ ap (λ (z : ℕ). z / down e) (mul_right_comm n (down e) (2 ^ 149)) ∙ mul-div_cancel (n * 2 ^ 149) (down_pos e))

is_number : (x : Float) (n : ℕ) → HasValue x false n 1 → T (not (is_nan x))
unfolding is_nan
is_number nan n h = absurd h
is_number (inf s) n h = tt
is_number (fin s m e) n h = tt

-- ---- n is 2 ^ 23 + q, or one more, where q is the whole part. 2 ^ 23 and the exponent's field are no part of the last w bits.
record Ends (w : ℕ) : Type 0 where
  few : 2 ^ w ≤ 2 ^ 22
  same_end : (q n u : ℕ) → q < 2 ^ w → n ≡ 2 ^ 23 + q → u ≡ 0 → ((n + 149 * 2 ^ 23) % 2 ^ w + u) % 2 ^ w ≡ q
  next_end : (q n u : ℕ) → q < 2 ^ w → n ≡ suc (2 ^ 23 + q) → u ≡ 2 ^ w - 1 → ((n + 149 * 2 ^ 23) % 2 ^ w + u) % 2 ^ w ≡ q

halves : (w : ℕ) → w ≤ 22 → 150 * 2 ^ (23 - w) * 2 ^ w ≡ 150 * 2 ^ 23
halves w h = let e : 23 - w + w ≡ 23 = omega arith in mul_assoc 150 (2 ^ (23 - w)) (2 ^ w) ∙ ap (λ (z : ℕ). 150 * z) (sym (pow-add 2 (23 - w) w) ∙ ap (λ (z : ℕ). 2 ^ z) e)

tail : (w : ℕ) → w ≤ 22 → (n q : ℕ) → n + 149 * 2 ^ 23 ≡ q + 150 * 2 ^ 23 → (n + 149 * 2 ^ 23) % 2 ^ w ≡ q % 2 ^ w
tail w h n q e = ap (λ (z : ℕ). z % 2 ^ w) (e ∙ ap (λ (z : ℕ). q + z) (sym (halves w h))) ∙ add-mul-mod_self_right q (150 * 2 ^ (23 - w)) (2 ^ w)

wrapped : (p q : ℕ) → q < p → (suc q % p + (p - 1)) % p ≡ q
wrapped p q h = go (eq-or-lt_of_le h)
  where
    go : (suc q ≡ p) ⊎ (suc q < p) → (suc q % p + (p - 1)) % p ≡ q
    go (inl e) =
        let z : suc q % p ≡ 0 = ap (λ (k : ℕ). k % p) e ∙ mod_self p in
        ap (λ (k : ℕ). (k + (p - 1)) % p) z ∙ ap (λ (k : ℕ). k % p) (let g : 0 + (p - 1) ≡ q = omega arith in g) ∙ mod-eq_of_lt h
    go (inr l) =
        let z : suc q % p ≡ suc q = mod-eq_of_lt l in
        let g : suc q + (p - 1) ≡ q + 1 * p = omega arith in
        ap (λ (k : ℕ). (k + (p - 1)) % p) z ∙ ap (λ (k : ℕ). k % p) g ∙ add-mul-mod_self_right q 1 p ∙ mod-eq_of_lt h

ends : (w : ℕ) → w ≤ 22 → Ends w
ends w h = record {
  few = pow_mono h;
  same_end = λ q n u a b d.
      let t : (n + 149 * 2 ^ 23) % 2 ^ w ≡ q = tail w h n q (omega (arith, b)) ∙ mod-eq_of_lt a in
      let g : q + u ≡ q = omega (arith, d) in
      ap (λ (k : ℕ). (k + u) % 2 ^ w) t ∙ ap (λ (k : ℕ). k % 2 ^ w) g ∙ mod-eq_of_lt a;
  next_end = λ q n u a b d.
      ap (λ (k : ℕ). (k + u) % 2 ^ w) (tail w h n (suc q) (omega (arith, b))) ∙ ap (λ (k : ℕ). (suc q % 2 ^ w + k) % 2 ^ w) d ∙ wrapped (2 ^ w) q a;
}

least : (q k : ℕ) → q < k → q ≡ min q (k - 1)
least q k h = omega arith

one_of : (q n : ℕ) → q ≤ n → n ≤ suc q → (n ≡ q) ⊎ (n ≡ suc q)
one_of q n a b = go (eq-or-lt_of_le a)
  where
    go : (q ≡ n) ⊎ (q < n) → (n ≡ q) ⊎ (n ≡ suc q)
    go (inl e) = inl (sym e)
    go (inr l) = inr (omega arith)

last : (w : ℕ) → Ends w → (q n u : ℕ) (l : Bool) → q < 2 ^ w → u ≡ cond l (2 ^ w - 1) 0 → (n ≡ 2 ^ 23 + q → l ≡ false) → (n ≡ suc (2 ^ 23 + q) → l ≡ true)
    → (n ≡ 2 ^ 23 + q) ⊎ (n ≡ suc (2 ^ 23 + q)) → ((n + 149 * 2 ^ 23) % 2 ^ w + u) % 2 ^ w ≡ min q (2 ^ w - 1)
last w E q n u l h e f g (inl k) = E.same_end q n u h k (e ∙ ap (λ (b : Bool). cond b (2 ^ w - 1) 0) (f k)) ∙ least q (2 ^ w) h
last w E q n u l h e f g (inr k) = E.next_end q n u h k (e ∙ ap (λ (b : Bool). cond b (2 ^ w - 1) 0) (g k)) ∙ least q (2 ^ w) h

same : (q n : ℕ) → n ≡ 2 ^ 23 + q → q ≡ n - 2 ^ 23
same q n h = omega arith

same_up : (q n : ℕ) → n ≡ suc (2 ^ 23 + q) → suc q ≡ n - 2 ^ 23
same_up q n h = omega arith

-- ---- the last w bits of the sum, less one where it lies above t
pub record Fast (w : ℕ) (t : Float) : Type 0 where
  pub number : T (not (is_nan (add binary32 t big)))
  pub up_is : (u : ℕ) → u ≡ cond (lt t (sub binary32 (add binary32 t big) big)) (2 ^ w - 1) 0 → (to_bits binary32 (add binary32 t big) % 2 ^ w + u) % 2 ^ w ≡ to_unsigned w t

fast : (w : ℕ) → Ends w → (m : ℕ) (e : ℤ) → m * up e < 2 ^ w * down e → Fast w (fin false m e)
unfolding to_unsigned
fast w E m e h =
    let few-down : 2 ^ w * down e ≤ 2 ^ 22 * down e = mul-le-mul_right (down e) E.few in
    let q = m * up e / down e in
    let q-lt : q < 2 ^ w = (div-lt_iff_lt-mul (down_pos e)).1 h in
    let q_few : q < 2 ^ 22 = lt_of_lt_of_le q-lt E.few in
    let n = summed_to m e in
    let S : Summed m e n = summed m e (omega arith) in
    let r = add binary32 (fin false m e) big in
    let k = n - 2 ^ 23 in
    let k-value : HasValue (sub binary32 r big) false k 1 = subst (λ (v : Float). HasValue v false k 1) (sym (less r big n (2 ^ 23) S.value (refl, refl) S.low)) (round_whole binary32 false k (omega (arith, S.high))) in
    let l = lt (fin false m e) (sub binary32 r big) in
    let l-is : l ≡ ltb (m * up e) (k * down e) = above_is m e k (sub binary32 r big) k-value in
    let down_to : n ≡ 2 ^ 23 + q → l ≡ false = λ g.
    l-is ∙ le-ltb (m * up e) (k * down e) (subst (λ (z : ℕ). z * down e ≤ m * up e) (same q n g) (div-mul-le_self (m * up e) (down e))) in
    let up_to : n ≡ suc (2 ^ 23 + q) → l ≡ true = λ g.
    l-is ∙ lt-ltb (m * up e) (k * down e) (subst (λ (z : ℕ). m * up e < z * down e) (same_up q n g) ((div-lt_iff_lt-mul {x = m * up e} {y = suc q} (down_pos e)).0 (lt-suc_self q))) in
    record {
      number = is_number r n S.value;
      up_is = λ u eu. ap (λ (z : ℕ). (z % 2 ^ w + u) % 2 ^ w) (bits r n S.value S.low (omega (arith, S.next))) ∙ last w E q n u l q-lt eu down_to up_to (one_of (2 ^ 23 + q) n S.floor S.next);
    }

pub part_fast : (w : ℕ) → w ≤ 22 → (t : Float) → Part w t → Fast w t
part_fast w h nan p = absurd p
part_fast w h (inf s) p = absurd p
part_fast w h (fin true m e) p = absurd p
part_fast w h (fin false m e) p = fast w (ends w h) m e p

pub unsigned_few : (w : ℕ) (t : Float) (n : ℕ) → n ≡ to_unsigned w t → n < 2 ^ w
unsigned_few w t n e = subst (λ (k : ℕ). k < 2 ^ w) (sym e) (to_unsigned-lt w t)

-- 2 ^ w as the code shifts it
pub shifted : (w : ℕ) → w ≤ 22 → 1 * 2 ^ w % 2 ^ 32 ≡ 2 ^ w
shifted w h = let l : 2 ^ w ≤ 2 ^ 22 = pow_mono h in let e : 1 * 2 ^ w ≡ 2 ^ w = omega arith in ap (λ (k : ℕ). k % 2 ^ 32) e ∙ mod-eq_of_lt (omega (arith, l))

pub last_bits : (w size : ℕ) (t : Float) (u : ℕ) → size ≡ 2 ^ w → Fast w t → u ≡ cond (lt t (sub binary32 (add binary32 t big) big)) (size - 1) 0
    → (to_bits binary32 (add binary32 t big) % size + u) % size ≡ to_unsigned w t
last_bits w size t u e f h = rw e (f.up_is u (rw (sym e) h))
