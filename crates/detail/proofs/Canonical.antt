-- Two floats of one format that are no NaN, have no minus and compare equal are the same. Assumes nothing.
use Rattle.std.proofs.Common.{◌≡◌, ℕ, zero, suc, ◌+◌, ◌*◌, ◌%◌, ◌^◌, ◌<◌, Bool, true, false, not, ◌&&◌, T, eqb, ltb, leb, ℤ, pos, negsuc, sym, refl, ap, ◌∙◌, mul_assoc, mul-one, mul-pos, arith, pow_pos, pow-add}
use native.Mathlib.Nat.{one-mul, zero-lt-suc, zero-mul, pow-succ', pow-suc, mul_left_comm, eq_of_mul-eq-mul_right}
use lib.Dec.{eqb→eq}
use lib.Ieee.{Float, nan, inf, fin, up, down, eq, fits, binary64}
use lib.Ieee.Fits.{and_l, up_pos, down_pos}

-- ---- odd numbers times powers of two
even_odd : (m t : ℕ) → m % 2 ≡ 1 → m ≡ 2 * t → ⊥
even_odd m t o h = omega arith

odd_pow : (m n a b : ℕ) → m % 2 ≡ 1 → n % 2 ≡ 1 → m * 2 ^ a ≡ n * 2 ^ b → (m ≡ n) × (a ≡ b)
odd_pow m n zero zero o p h = (sym (mul-one m) ∙ h ∙ mul-one n, refl)
odd_pow m n zero (suc b) o p h = absurd (even_odd m (n * 2 ^ b) o (sym (mul-one m) ∙ h ∙ ap (λ (x : ℕ). n * x) (pow-succ' 2 b) ∙ mul_left_comm n 2 (2 ^ b)))
odd_pow m n (suc a) zero o p h = absurd (even_odd n (m * 2 ^ a) p (sym (mul-one n) ∙ sym h ∙ ap (λ (x : ℕ). m * x) (pow-succ' 2 a) ∙ mul_left_comm m 2 (2 ^ a)))
odd_pow m n (suc a) (suc b) o p h =
    let r = odd_pow m n a b o p (eq_of_mul-eq-mul_right 2 (zero-lt-suc 1) (m * 2 ^ a) (n * 2 ^ b)
    (mul_assoc m (2 ^ a) 2 ∙ ap (λ (x : ℕ). m * x) (sym (pow-suc 2 a)) ∙ h ∙ ap (λ (x : ℕ). n * x) (pow-suc 2 b) ∙ sym (mul_assoc n (2 ^ b) 2))) in
    (r.0, ap suc r.1)

-- ---- how a float is held: m is odd, or it is 0 with the exponent 0
is_odd : (m : ℕ) (e : ℤ) → T (fits binary64 (fin false (suc m) e)) → suc m % 2 ≡ 1
unfolding fits
is_odd m e t =
    let A = eqb (suc m % 2) 1 in
    let B = ltb (suc m) (2 ^ 53) in
    let C = leb (down e) (2 ^ 1074) in
    let D = ltb (suc m * up e) (2 ^ 1024 * down e) in
    eqb→eq (suc m % 2) 1 (and_l A B (and_l (A && B) C (and_l (A && B && C) D t)))

two_up : (p : ℕ) → 0 < p → 2 * p ≡ 1 → ⊥
two_up p h e = omega arith

flat : (e : ℤ) → up e * down e ≡ 1 → e ≡ pos 0
flat (pos zero) h = refl
flat (pos (suc k)) h = absurd (two_up (2 ^ k) (pow_pos k) (sym (pow-succ' 2 k) ∙ sym (mul-one (2 ^ suc k)) ∙ h))
flat (negsuc k) h = absurd (two_up (2 ^ k) (pow_pos k) (sym (pow-succ' 2 k) ∙ sym (one-mul (2 ^ suc k)) ∙ h))

zero_exp : (e : ℤ) → T (fits binary64 (fin false zero e)) → e ≡ pos 0
unfolding fits
zero_exp e t = flat e (eqb→eq (up e * down e) 1 t)

no_value : (n : ℕ) (d e : ℤ) → zero * up e * down d ≡ suc n * up d * down e → ⊥
no_value n d e h =
    omega (arith, h, ap (λ (z : ℕ). z * down d) (zero-mul (up e)), zero-mul (down d), mul-pos (mul-pos (zero-lt-suc n) (up_pos d)) (down_pos e))

less : (a b : ℕ) → suc a ≡ suc b → a ≡ b
less a b h = omega arith

some : (a b : ℕ) → a + suc b ≡ 0 → ⊥
some a b h = omega arith

odd_same : (m n : ℕ) (e d : ℤ) → m % 2 ≡ 1 → n % 2 ≡ 1 → m * up e * down d ≡ n * up d * down e → (m ≡ n) × (e ≡ d)
odd_same m n (pos a) (pos b) o p h = let r = odd_pow m n a b o p (sym (mul-one (m * 2 ^ a)) ∙ h ∙ mul-one (n * 2 ^ b)) in (r.0, ap pos r.1)
odd_same m n (pos a) (negsuc b) o p h =
    absurd (some a b (odd_pow m n (a + suc b) 0 o p (ap (λ (z : ℕ). m * z) (pow-add 2 a (suc b)) ∙ sym (mul_assoc m (2 ^ a) (2 ^ suc b)) ∙ h ∙ mul-one (n * 1))).1)
odd_same m n (negsuc a) (pos b) o p h =
    absurd (some b a (odd_pow n m (b + suc a) 0 p o (ap (λ (z : ℕ). n * z) (pow-add 2 b (suc a)) ∙ sym (mul_assoc n (2 ^ b) (2 ^ suc a)) ∙ sym h ∙ mul-one (m * 1))).1)
odd_same m n (negsuc a) (negsuc b) o p h =
    let r = odd_pow m n (suc b) (suc a) o p (ap (λ (z : ℕ). z * 2 ^ suc b) (sym (mul-one m)) ∙ h ∙ ap (λ (z : ℕ). z * 2 ^ suc a) (mul-one n)) in
    (r.0, ap negsuc (less a b (sym r.1)))

one_way : (m : ℕ) (e : ℤ) (n : ℕ) (d : ℤ) → T (fits binary64 (fin false m e)) → T (fits binary64 (fin false n d)) → m * up e * down d ≡ n * up d * down e → fin false m e ≡ fin false n d
one_way zero e zero d f g h = ap (λ (z : ℤ). fin false zero z) (zero_exp e f ∙ sym (zero_exp d g))
one_way zero e (suc n) d f g h = absurd (no_value n d e h)
one_way (suc m) e zero d f g h = absurd (no_value m e d (sym h))
one_way (suc m) e (suc n) d f g h = let r = odd_same (suc m) (suc n) e d (is_odd m e f) (is_odd n d g) h in λ i. fin false (r.0 i) (r.1 i)

-- no minus
abbrev pub plus : Float → Bool
plus nan = true
plus (inf s) = not s
plus (fin s m e) = not s

pub same : (x y : Float) → T (fits binary64 x) → T (fits binary64 y) → T (plus x) → T (plus y) → T (eq x y) → x ≡ y
unfolding eq
same nan y f g p q h = absurd h
same (inf true) y f g p q h = absurd p
same (inf false) nan f g p q h = absurd h
same (inf false) (inf true) f g p q h = absurd q
same (inf false) (inf false) f g p q h = refl
same (inf false) (fin t n d) f g p q h = absurd h
same (fin true m e) y f g p q h = absurd p
same (fin false m e) nan f g p q h = absurd h
same (fin false m e) (inf t) f g p q h = absurd h
same (fin false m e) (fin true n d) f g p q h = absurd q
same (fin false m e) (fin false n d) f g p q h =
    one_way m e n d f g (eqb→eq (m * up e * down d) (n * up d * down e) (and_l (eqb (m * up e * down d) (n * up d * down e)) true h))
