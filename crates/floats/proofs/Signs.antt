-- A float's sign, kind and size, by the comparisons that the code makes. Assumes nothing.
use Rattle.std.proofs.lemmas.Bool.{true≢false, false≢true}
use Rattle.std.proofs.Common.{◌≡◌, ℕ, zero, suc, ◌+◌, ◌*◌, ◌^◌, ◌<◌, ◌≤◌, Bool, true, false, ◌&&◌, ◌||◌, T, eqb, ltb, leb, ◌⊎◌, ℤ, pos, negsuc, sym, refl, ap, ◌∙◌, inl, inr, eq-or-lt_of_le, mul-one, arith, eqb→eq, pow_pos, ltb-false, ltb-true, lt-ltb, eq-eqb, eqb-true, le-leb, leb-true}
use lib.Ieee.{Float, nan, inf, fin, up, down, lt, le, eq, ne, neg, fits, is_nan, of_bits, binary32}
use Rattle.std.specs.Float.{float_with_sign, float_is_finite}
use lib.Ieee.Fits.{down_pos}
use native.Mathlib.Nat.{pow-succ'}
use borrow.Author.Tests.{lt-leb}
use Rattle.floats.specs.Num.{abs_of, finite_of, bounded_of}
use Rattle.floats.proofs.Cut.{two_to}

abbrev pub nought : Float
nought = fin false 0 (pos 0)

-- ---- std's words for the sign and the kind are ours
pub abs_is : (x : Float) → float_with_sign false x ≡ abs_of x
unfolding float_with_sign abs_of
abs_is nan = refl
abs_is (inf s) = refl
abs_is (fin s m e) = refl

pub finite_is : (x : Float) → float_is_finite x ≡ finite_of x
unfolding float_is_finite finite_of
finite_is nan = refl
finite_is (inf s) = refl
finite_is (fin s m e) = refl

-- a zero of the format has the exponent 0
pub zero_exponent : (s : Bool) (e : ℤ) → T (fits binary32 (fin s zero e)) → e ≡ pos 0
unfolding fits
zero_exponent s (pos zero) f = refl
zero_exponent s (pos (suc k)) f = absurd (omega (arith, eqb→eq (2 ^ suc k * 1) 1 f, pow-succ' 2 k, pow_pos k))
zero_exponent s (negsuc k) f = absurd (omega (arith, eqb→eq (1 * 2 ^ suc k) 1 f, pow-succ' 2 k, pow_pos k))

-- ---- NaN is the one value that differs from itself
pub nan_is : (x : Float) → ne x x ≡ is_nan x
unfolding ne is_nan
nan_is nan = refl
nan_is (inf true) = refl
nan_is (inf false) = refl
nan_is (fin true m e) = rw (eq-eqb (m * up e * down e) (m * up e * down e) refl)
nan_is (fin false m e) = rw (eq-eqb (m * up e * down e) (m * up e * down e) refl)

-- ---- the rule of 4
-- a < b or a = b, as one test
at_most : (a b : ℕ) (e : Bool) → (e ≡ true → a ≡ b) → (a ≡ b → e ≡ true) → ltb a b || (e && true) ≡ leb a b
at_most a b e f g = go (ltb a b) e (ltb-true a b) (ltb-false a b) f g
  where
    strict : (e : Bool) → (a ≡ b → e ≡ true) → e ≡ false → (b ≡ a) ⊎ (b < a) → b < a
    strict e g n (inl q) = absurd (true≢false (sym (g (sym q)) ∙ n))
    strict e g n (inr l) = l

    go : (l e : Bool) → (l ≡ true → a < b) → (l ≡ false → b ≤ a) → (e ≡ true → a ≡ b) → (a ≡ b → e ≡ true) → l || (e && true) ≡ leb a b
    go true e p q r s = sym (le-leb a b (omega (arith, p refl)))
    go false true p q r s = sym (le-leb a b (omega (arith, r refl)))
    go false false p q r s = sym (lt-leb a b (strict false s refl (eq-or-lt_of_le (q refl))))

same : (a d : ℕ) → leb (a * 1) (1 * 2 ^ 20 * d) ≡ leb a (1048576 * d)
same a d = ap (λ (z : ℕ). leb z (1 * 2 ^ 20 * d)) (mul-one a)

abbrev limit : Float
limit = two_to 20

plain : (m : ℕ) (d : ℤ) → le (fin false m d) limit ≡ leb (m * up d * 1) (1 * 2 ^ 20 * down d)
unfolding le lt eq
plain m d = at_most (m * up d * 1) (1 * 2 ^ 20 * down d) (eqb (m * up d * 1) (1 * 2 ^ 20 * down d)) (eqb-true (m * up d * 1) (1 * 2 ^ 20 * down d)) (eq-eqb (m * up d * 1) (1 * 2 ^ 20 * down d))

pub bounded_below : (x : Float) → le x (of_bits binary32 0x4980_0000) ≡ true → le (neg (of_bits binary32 0x4980_0000)) x ≡ bounded_of x
unfolding of_bits le lt eq neg bounded_of
bounded_below nan e = refl
bounded_below (inf true) e = refl
bounded_below (inf false) e = absurd (false≢true e)
bounded_below (fin true m d) e =
    at_most (m * up d * 1) (1 * 2 ^ 20 * down d) (eqb (1 * 2 ^ 20 * down d) (m * up d * 1)) (λ h. sym (eqb-true (1 * 2 ^ 20 * down d) (m * up d * 1) h)) (λ h. eq-eqb (1 * 2 ^ 20 * down d) (m * up d * 1) (sym h))
    ∙ same (m * up d) (down d)
bounded_below (fin false m d) e =
    let h : m * up d ≤ 1048576 * down d = omega (arith, leb-true (m * up d * 1) (1 * 2 ^ 20 * down d) (sym (plain m d) ∙ e)) in
    rw (lt-ltb 0 (1 * 2 ^ 20 * down d + m * up d * 1) (omega (arith, down_pos d))) (sym (le-leb (m * up d) (1048576 * down d) h))

pub bounded_above : (x : Float) → le x (of_bits binary32 0x4980_0000) ≡ false → le x (of_bits binary32 0x4980_0000) ≡ bounded_of x
unfolding of_bits le lt eq bounded_of
bounded_above nan e = e
bounded_above (inf true) e = absurd (true≢false e)
bounded_above (inf false) e = e
bounded_above (fin true m d) e = absurd (true≢false (sym (rw (lt-ltb 0 (m * up d * 1 + 1 * 2 ^ 20 * down d) (omega (arith, down_pos d)))) ∙ e))
bounded_above (fin false m d) e = plain m d ∙ same (m * up d) (down d)
