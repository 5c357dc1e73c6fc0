-- What `whole_by` leaves as it is: a zero, an f32 from 2 ^ 23 on, which has no fraction, an infinity and a NaN. Assumes nothing.
use Rattle.std.proofs.lemmas.Bool.{false≢true}
use Rattle.std.proofs.Common.{◌≡◌, ℕ, zero, suc, ◌+◌, ◌-◌, ◌*◌, ◌/◌, ◌%◌, ◌^◌, ◌<◌, ◌≤◌, Bool, true, false, cond, not, ◌&&◌, T, eqb, ltb, leb, ℤ, pos, negsuc, sym, refl, ap, ◌∙◌, subst, le_trans, add-zero, zero-lt-suc, mul_assoc, div-lt_iff_lt-mul, add-mul, le_antisymm, mul-pos, div-add-mod', le-div_iff_mul-le, mul-one, div-le_self, not-le_of_lt, div-one, arith, ltb→lt, pow_pos, pow-add, shl_lt, ltb-false, ltb-true}
use Prim.Native.Nat.{compare}
use lib.Ieee.{Float, nan, inf, fin, Format, prec, emax, low, up, down, lt, neg, size, nearest, odd, units, round, fits, binary32}
use lib.Ieee.Fits.{down_pos, up_pos, and_l, and_r, round-fits, round_is}
use lib.Ieee.Exact.{HasValue, round_exact}
use lib.Ieee.Back.{round_whole, whole_unique}
use native.Mathlib.Nat.{mod-one, pow-succ'}
use Rattle.floats.proofs.Cut.{two_to, over}
use Rattle.floats.proofs.Signs.{nought, zero_exponent}
use Rattle.rounding.specs.Rounding.{up_div, half_div, whole_by}

-- ---- a quotient by its bounds
pub div_is : (a d n : ℕ) → 0 < d → n * d ≤ a → a < (n + 1) * d → a / d ≡ n
div_is a d n D lo hi = le_antisymm (under ((div-lt_iff_lt-mul {x = a} {y = n + 1} D).1 hi)) ((le-div_iff_mul-le D).1 lo)
  where
    under : a / d < n + 1 → a / d ≤ n
    under h = omega arith

pub up_is : (a d n : ℕ) → 0 < d → a ≤ n * d → n * d < a + d → up_div a d ≡ n
up_is a d n D hi lo = div_is (a + (d - 1)) d n D (omega arith) (omega (arith, add-mul n 1 d))

pub half_is : (a d n : ℕ) → 0 < d → n * (d * 2) ≤ a * 2 + d → a * 2 + d < (n + 1) * (d * 2) → half_div a d ≡ n
half_is a d n D lo hi = div_is (a * 2 + d) (d * 2) n (omega arith) lo hi

-- ---- a division that gives n at n times the divisor
abbrev pub Exact : (ℕ → ℕ → ℕ) → Type 0
Exact f = (a d n : ℕ) → 0 < d → a ≡ n * d → f a d ≡ n

pub div_exact : Exact ◌/◌
div_exact a d n D e = div_is a d n D (omega arith) (omega (arith, add-mul n 1 d))

pub up_exact : Exact up_div
up_exact a d n D e = up_is a d n D (omega arith) (omega arith)

pub half_exact : Exact half_div
half_exact a d n D e = half_is a d n D (omega (arith, twice n d)) (omega (arith, twice n d, twice (n + 1) d, add-mul n 1 d))
  where
    twice : (n d : ℕ) → n * (d * 2) ≡ n * d * 2
    twice n d = sym (mul_assoc n d 2)

-- ---- what it says that x fits an f32
module _ (s : Bool) (m : ℕ) (e : ℤ) (f : T (fits binary32 (fin s (suc m) e))) where
  pub digits : suc m < 2 ^ 24
  unfolding fits
  digits =
      let A = eqb (suc m % 2) 1 in
      let B = ltb (suc m) (2 ^ 24) in
      let C = leb (down e) (2 ^ 149) in
      let D = ltb (suc m * up e) (2 ^ 128 * down e) in
      ltb→lt (suc m) (2 ^ 24) (and_r A B (and_l (A && B) C (and_l (A && B && C) D f)))

  bound : suc m * up e < 2 ^ 128 * down e
  unfolding fits
  bound =
      let A = eqb (suc m % 2) 1 in
      let B = ltb (suc m) (2 ^ 24) in
      let C = leb (down e) (2 ^ 149) in
      let D = ltb (suc m * up e) (2 ^ 128 * down e) in
      ltb→lt (suc m * up e) (2 ^ 128 * down e) (and_r (A && B && C) D f)

-- ---- the whole part of an f32, as an f32, is itself
abbrev whole : ℕ → ℤ → ℕ
whole m d = m * up d / down d

whole_value : (s : Bool) (m : ℕ) (e : ℤ) → T (fits binary32 (fin s (suc m) e)) → HasValue (round binary32 s (whole (suc m) e) 1) s (whole (suc m) e) 1
whole_value s m (negsuc k) f =
    round_whole binary32 s (whole (suc m) (negsuc k)) (le_trans (div-le_self (suc m * 1) (2 ^ suc k)) (omega (arith, digits s m (negsuc k) f)))
whole_value s m (pos k) f =
    let is : suc m * 2 ^ k / 1 ≡ suc m * 2 ^ k = div-one (suc m * 2 ^ k) in
    let pw : suc m * 2 ^ k * 2 ^ 149 ≡ suc m * 2 ^ (k + 149) = mul_assoc (suc m) (2 ^ k) (2 ^ 149) ∙ ap (λ (z : ℕ). suc m * z) (sym (pow-add 2 k 149)) in
    subst (λ (z : ℕ). HasValue (round binary32 s z 1) s z 1) (sym is)
    (round_exact binary32 s (suc m * 2 ^ k) 1 (suc m) (k + 149) (zero-lt-suc 0) (digits s m (pos k) f)
    (subst (λ (z : ℕ). z < 2 ^ (149 + 128)) pw (shl_lt 128 149 (bound s m (pos k) f)))
    (pw ∙ sym (mul-one (suc m * 2 ^ (k + 149)))))

-- ---- from 2 ^ 23 on there is no fraction
double : (a b : ℕ) → 0 < b → 2 ^ 23 * (2 * b) ≤ a → 2 ^ 24 ≤ a
double a b h l = omega arith

no_part : (s : Bool) (m : ℕ) (e : ℤ) → T (fits binary32 (fin s (suc m) e)) → 2 ^ 23 ≤ whole (suc m) e → suc m * up e % down e ≡ 0
no_part s m (pos k) f h = mod-one (suc m * 2 ^ k)
no_part s m (negsuc k) f h =
    absurd (not-le_of_lt (digits s m (negsuc k) f)
    (double (suc m) (2 ^ k) (pow_pos k) (subst (λ (z : ℕ). 2 ^ 23 * z ≤ suc m) (pow-succ' 2 k) (omega (arith, (le-div_iff_mul-le (pow_pos (suc k))).0 h)))))

is_whole : (s : Bool) (m : ℕ) (e : ℤ) → T (fits binary32 (fin s (suc m) e)) → 2 ^ 23 ≤ whole (suc m) e → suc m * up e ≡ whole (suc m) e * down e
is_whole s m e f h = sym (div-add-mod' (suc m * up e) (down e)) ∙ ap (λ (z : ℕ). whole (suc m) e * down e + z) (no_part s m e f h) ∙ add-zero (whole (suc m) e * down e)

-- ---- so it stays
module _ (f : Bool → ℕ → ℕ → ℕ) (F : (s : Bool) → Exact (f s)) where
  large : (s : Bool) (m : ℕ) (e : ℤ) → T (fits binary32 (fin s (suc m) e)) → lt (fin false (suc m) e) (two_to 23) ≡ false → fin s (suc m) e ≡ whole_by f (fin s (suc m) e)
  unfolding whole_by
  large s m e g h =
      let w = whole (suc m) e in
      let p = is_whole s m e g (over 23 (suc m) e h) in
      whole_unique binary32 (fin s (suc m) e) (round binary32 s w 1) s w g (round-fits binary32 s w 1) (refl, mul-one (suc m * up e) ∙ p) (whole_value s m e g)
      ∙ ap (λ (z : ℕ). round binary32 s z 1) (sym (F s (suc m * up e) (down e) w (down_pos e) p))

  none : (s : Bool) (e : ℤ) → T (fits binary32 (fin s zero e)) → fin s zero e ≡ whole_by f (fin s zero e)
  unfolding whole_by round
  none s e g = ap (fin s zero) (zero_exponent s e g) ∙ ap (λ (z : ℕ). round binary32 s z 1) (sym (F s (0 * up e) (down e) 0 (down_pos e) (omega arith)))

  pub kept_above : (x : Float) → T (fits binary32 x) → lt nought x ≡ true → lt x (two_to 23) ≡ false → x ≡ whole_by f x
  unfolding lt whole_by
  kept_above nan g a b = refl
  kept_above (inf s) g a b = refl
  kept_above (fin true m d) g a b = absurd (false≢true a)
  kept_above (fin false zero d) g a b = none false d g
  kept_above (fin false (suc m) d) g a b = large false m d g b

  pub kept_below : (x : Float) → T (fits binary32 x) → lt x nought ≡ true → lt (neg x) (two_to 23) ≡ false → x ≡ whole_by f x
  unfolding lt neg whole_by
  kept_below nan g a b = refl
  kept_below (inf s) g a b = refl
  kept_below (fin s zero d) g a b = none s d g
  kept_below (fin false (suc m) d) g a b = absurd (omega (arith, ltb-true (suc m * up d * 1) (0 * 1 * down d) a))
  kept_below (fin true (suc m) d) g a b = large true m d g b

  pub kept_zero : (x : Float) → T (fits binary32 x) → lt nought x ≡ false → lt x nought ≡ false → x ≡ whole_by f x
  unfolding lt whole_by
  kept_zero nan g a b = refl
  kept_zero (inf s) g a b = refl
  kept_zero (fin s zero d) g a b = none s d g
  kept_zero (fin false (suc m) d) g a b = absurd (omega (arith, ltb-false (0 * 1 * down d) (suc m * up d * 1) a, mul-pos (zero-lt-suc m) (up_pos d)))
  kept_zero (fin true (suc m) d) g a b = absurd (omega (arith, ltb-false 0 (suc m * up d * 1 + 0 * 1 * down d) b, mul-pos (zero-lt-suc m) (up_pos d)))

-- ---- the negative of a rounded number
neg_pick : (b : Bool) (x y : Float) → neg (cond b x y) ≡ cond b (neg x) (neg y)
neg_pick true x y = refl
neg_pick false x y = refl

neg_odd : (d : ℕ) (s : Bool) (q k l : ℕ) → neg (odd d s q k l) ≡ odd d (not s) q k l
unfolding odd neg
neg_odd d s zero k l = refl
neg_odd d s (suc q) k l = refl

neg_units : (f : Format) (s : Bool) (q k : ℕ) → neg (units f s q k) ≡ units f (not s) q k
unfolding units neg
neg_units f s q k =
    let b = ltb (q * 2 ^ k) (2 ^ (low f + suc (emax f))) in
    neg_pick b (odd (suc (prec f)) s q k (low f)) (inf s) ∙ ap (λ (z : Float). cond b z (inf (not s))) (neg_odd (suc (prec f)) s q k (low f))

pub neg_round : (f : Format) (s : Bool) (a c : ℕ) → neg (round f s a c) ≡ round f (not s) a c
neg_round f s a c =
    let n = a * 2 ^ low f in
    let k = size (n / c) - prec f in
    let u = c * 2 ^ k in
    ap neg (round_is f s a c) ∙ neg_units f s (nearest (n / u) (compare (n % u * 2) u)) k ∙ sym (round_is f (not s) a c)

-- the negative of what is made of -x
pub neg_whole : (f g : Bool → ℕ → ℕ → ℕ) → ((s : Bool) (a d : ℕ) → f (not s) a d ≡ g s a d) → (x : Float) → neg (whole_by f (neg x)) ≡ whole_by g x
unfolding whole_by neg
neg_whole f g e nan = refl
neg_whole f g e (inf true) = refl
neg_whole f g e (inf false) = refl
neg_whole f g e (fin true m d) = neg_round binary32 false (f false (m * up d) (down d)) 1 ∙ ap (λ (z : ℕ). round binary32 true z 1) (e true (m * up d) (down d))
neg_whole f g e (fin false m d) = neg_round binary32 true (f true (m * up d) (down d)) 1 ∙ ap (λ (z : ℕ). round binary32 false z 1) (e false (m * up d) (down d))
