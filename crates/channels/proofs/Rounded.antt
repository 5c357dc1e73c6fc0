-- The byte of a rounded float, by the whole part of 2x. Assumes nothing.
use Prim.Native.Nat.{ℕ, zero, suc, ◌+◌, ◌-◌, ◌*◌, ◌/◌, ◌%◌, ◌^◌, ◌≤◌, ◌<◌, compare}
use mathlib.Core.Path.{◌≡◌, refl, sym, ap, subst, ◌∙◌}
use mathlib.Core.Bool.{Bool, true, false, cond}
use lib.Dec.{T, ltb}
use lib.IntN.{ℤ, pos}
use lib.Ieee.{Float, nan, inf, fin, up, down, lt, le, mul, size, nearest, odd, units, round, to_unsigned, fits, of_bits, binary32}
use lib.Ieee.Fits.{down_pos, up_pos, round_is}
use lib.Ieee.Exact.{HasValue}
use lib.Ieee.Back.{round_whole}
use lib.Ieee.Casts.{to_unsigned-lt}
use lib.Ieee.Nearest.{div_same}
use lib.Ieee.Order.{round_mono}
use lib.Ieee.Positive.{num, den, positive, above, above_of_le, le→cross}
use native.Mathlib.Nat.{div-lt_iff_lt-mul, le-div_iff_mul-le, div-one, zero-lt-suc, mul-pos, mul-le-mul_right, lt_of_mul-lt-mul_right, mul-lt-mul_of_pos_right, lt_of_lt_of_le, le_of_eq, mul_right_comm}
use native.Mathlib.Omega.{arith}
use borrow.Author.Tests.{ltb-true, ltb-false, le-ltb}
use Rattle.std.proofs.lemmas.Bool.{true≢false, false≢true}
use Rattle.floats.specs.Num.{clamp_of}
use Rattle.floats.proofs.Signs.{nought}
use Rattle.rounding.specs.Rounding.{half_div, whole_by, round_of, Part}
use Rattle.rounding.proofs.Kept.{half_exact}
use Rattle.rounding.proofs.Halves.{two, double, half}
use Rattle.channels.specs.Channel.{held_of, round_byte_of}
use Rattle.channels.proofs.Scaled.{full, at_255}

-- ---- the byte of a rounded float
abbrev byte : Float → ℕ
byte r = to_unsigned 8 (clamp_of r nought full)

byte_whole : (v : Float) (n : ℕ) → HasValue v false n 1 → n ≤ 255 → n ≡ byte v
unfolding clamp_of to_unsigned lt
byte_whole nan n h l = absurd h
byte_whole (inf s) n h l = absurd h
byte_whole (fin true m e) n h l = absurd (true≢false h.0)
byte_whole (fin false m e) n h l =
    let q : m * up e / down e ≡ n = div_same (m * up e) (down e) n 1 (down_pos e) (zero-lt-suc 0) h.1 ∙ div-one n in
    let k : n * down e ≤ 255 * down e = mul-le-mul_right (down e) l in
    let z : ltb (m * up e * 1) (0 * 1 * down e) ≡ false = le-ltb (m * up e * 1) (0 * 1 * down e) (omega arith) in
    let y : ltb (255 * 1 * down e) (m * up e * 1) ≡ false = le-ltb (255 * 1 * down e) (m * up e * 1) (omega (arith, h.1)) in
    rw (z, y) (omega arith)

byte_high : (r : Float) → T (le full r) → 255 ≡ byte r
unfolding clamp_of to_unsigned lt
byte_high r h = go r (above_of_le full r tt h) (λ p. le→cross full r tt p h)
  where
    pick : (b : Bool) (r : Float) → 255 ≡ to_unsigned 8 r → 255 ≡ to_unsigned 8 (cond b full r)
    pick true r e = refl
    pick false r e = e

    go : (r : Float) → T (above r) → (T (positive r) → 255 * 1 * den r ≤ num r * 1) → 255 ≡ byte r
    go nan a k = absurd a
    go (inf true) a k = absurd a
    go (inf false) a k = refl
    go (fin true n d) a k = absurd a
    go (fin false n d) a k =
        let q : 255 ≤ n * up d / down d = (le-div_iff_mul-le (down_pos d)).1 (omega (arith, k a)) in
        let z : ltb (n * up d * 1) (0 * 1 * down d) ≡ false = le-ltb (n * up d * 1) (0 * 1 * down d) (omega arith) in
        rw z (pick (ltb (255 * 1 * down d) (n * up d * 1)) (fin false n d) (omega arith))

byte_minus : (m : ℕ) (e : ℤ) → 0 ≡ byte (fin true m e)
unfolding clamp_of to_unsigned lt
byte_minus m e = go (ltb 0 (m * up e * 1 + 0 * 1 * down e))
  where
    go : (b : Bool) → 0 ≡ to_unsigned 8 (cond b nought (fin true m e))
    go true = refl
    go false = refl

byte_odd : (d q k l : ℕ) → 0 ≡ byte (odd d true q k l)
unfolding odd
byte_odd d zero k l = byte_minus _ _
byte_odd d (suc q) k l = byte_minus _ _

byte_inf : 0 ≡ byte (inf true)
unfolding clamp_of to_unsigned lt
byte_inf = refl

byte_below : (n : ℕ) → 0 ≡ byte (round binary32 true n 1)
unfolding units
byte_below n =
    let N = n * 2 ^ 149 in
    let k = size (N / 1) - 24 in
    let u = 1 * 2 ^ k in
    subst (λ (v : Float). 0 ≡ byte v) (sym (round_is binary32 true n 1)) (at (nearest (N / u) (compare (N % u * 2) u)) k)
  where
    pick : (b : Bool) (x y : Float) → 0 ≡ byte x → 0 ≡ byte y → 0 ≡ byte (cond b x y)
    pick true x y p q = p
    pick false x y p q = q

    at : (q k : ℕ) → 0 ≡ byte (units binary32 true q k)
    at q k = pick (ltb (q * 2 ^ k) (2 ^ (149 + 128))) _ _ (byte_odd 25 q k 149) byte_inf

byte_is : (s : Bool) (m : ℕ) (e : ℤ) → byte (round binary32 s (half_div (m * up e) (down e)) 1) ≡ round_byte_of (fin s m e)
unfolding round_byte_of round_of whole_by of_bits
byte_is s m e = refl

-- ---- from 255 on, and up to 0
at_least : (a d : ℕ) → 0 < d → 255 * d ≤ a → 255 ≤ half_div a d
at_least a d h l = (le-div_iff_mul-le {k = d * 2} {x = 255} {y = a * 2 + d} (omega arith)).1 (omega arith)

high_byte : (x : Float) → lt nought x ≡ true → lt x full ≡ false → 255 ≡ round_byte_of x
unfolding lt round_byte_of round_of whole_by of_bits clamp_of to_unsigned
high_byte nan a b = absurd (false≢true a)
high_byte (inf true) a b = absurd (false≢true a)
high_byte (inf false) a b = refl
high_byte (fin true m d) a b = absurd (false≢true a)
high_byte (fin false m d) a b =
    let n = half_div (m * up d) (down d) in
    let l : 255 ≤ n = at_least (m * up d) (down d) (down_pos d) (omega (arith, ltb-false (m * up d * 1) (255 * 1 * down d) b)) in
    byte_high (round binary32 false n 1) (subst (λ (v : Float). T (le v (round binary32 false n 1))) at_255 (round_mono binary32 255 1 n 1 (zero-lt-suc 0) (zero-lt-suc 0) (omega arith)))

no_byte : (x : Float) → lt nought x ≡ false → 0 ≡ round_byte_of x
unfolding lt round_byte_of round_of whole_by of_bits clamp_of to_unsigned
no_byte nan a = refl
no_byte (inf true) a = refl
no_byte (inf false) a = absurd (true≢false a)
no_byte (fin true m d) a = byte_below _
no_byte (fin false zero d) a =
    let z : half_div (0 * up d) (down d) ≡ 0 = half_exact (0 * up d) (down d) 0 (down_pos d) (omega arith) in
    byte_whole (round binary32 false 0 1) 0 (round_whole binary32 false 0 (omega arith)) (omega arith) ∙ ap (λ (y : ℕ). byte (round binary32 false y 1)) (sym z)
no_byte (fin false (suc m) d) a = absurd (omega (arith, ltb-false (0 * 1 * down d) (suc m * up d * 1) a, mul-pos (zero-lt-suc m) (up_pos d)))

-- ---- between: 2x is exact, and below 510
abbrev pub Right : Float → Float → Type 0
Right x v = Part 9 v × ((to_unsigned 9 v + 1) / 2 ≡ round_byte_of x)

part_value : (v : Float) (a c : ℕ) → 0 < c → HasValue v false a c → a < 510 * c → Part 9 v × (to_unsigned 9 v ≡ a / c)
unfolding to_unsigned
part_value nan a c C h l = absurd h
part_value (inf s) a c C h l = absurd h
part_value (fin true m e) a c C h l = absurd (true≢false h.0)
part_value (fin false m e) a c C h l = (
  (lt_of_mul-lt-mul_right c (subst (λ (z : ℕ). z < 2 ^ 9 * down e * c) (sym h.1) (lt_of_lt_of_le (mul-lt-mul_of_pos_right (more a c l) (down_pos e)) (le_of_eq (mul_right_comm (2 ^ 9) c (down e)))))),
  omega (arith, div_same (m * up e) (down e) a c (down_pos e) C h.1, (div-lt_iff_lt-mul {k = c} {x = a} {y = 510} C).1 l),
)
  where
    more : (a c : ℕ) → a < 510 * c → a < 2 ^ 9 * c
    more a c l = omega arith

between : (x : Float) → T (fits binary32 x) → lt nought x ≡ true → lt x full ≡ true → Right x (mul binary32 x two)
unfolding lt
between nan f a b = absurd (false≢true a)
between (inf true) f a b = absurd (false≢true a)
between (inf false) f a b = absurd (false≢true b)
between (fin true m d) f a b = absurd (false≢true a)
between (fin false zero d) f a b = absurd (omega (arith, ltb-true (0 * 1 * down d) (0 * up d * 1) a))
between (fin false (suc m) d) f a b =
    let A = suc m * up d in
    let l : A < 255 * down d = omega (arith, ltb-true (suc m * up d * 1) (255 * 1 * down d) b) in
    let n = half_div A (down d) in
    let s : n < 256 = (div-lt_iff_lt-mul {k = down d * 2} {x = A * 2 + down d} {y = 256} (omega (arith, down_pos d))).1 (omega arith) in
    let v = part_value (mul binary32 (fin false (suc m) d) two) (A * 2) (down d * 1) (omega (arith, down_pos d)) (double m d f (omega (arith, down_pos d))) (omega arith) in
    (v.0, ap (λ (z : ℕ). (z + 1) / 2) v.1 ∙ half A (down d) (down_pos d) ∙ byte_whole (round binary32 false n 1) n (round_whole binary32 false n (omega arith)) (omega arith) ∙ byte_is false (suc m) d)

zero_two : mul binary32 nought two ≡ nought
unfolding mul
zero_two = refl

full_two : mul binary32 full two ≡ fin false 255 (pos 1)
unfolding mul
full_two = refl

right : (x : Float) → T (fits binary32 x) → Right x (mul binary32 (held_of x full) two)
unfolding held_of of_bits to_unsigned
right x f = go (lt nought x) (lt x full) refl refl
  where
    go : (a b : Bool) → lt nought x ≡ a → lt x full ≡ b → Right x (mul binary32 (cond a (cond b x full) nought) two)
    go true true a b = between x f a b
    go true false a b = (subst (Part 9) (sym full_two) (omega arith), ap (λ (z : Float). (to_unsigned 9 z + 1) / 2) full_two ∙ high_byte x a b)
    go false b a e = (subst (Part 9) (sym zero_two) (omega arith), ap (λ (z : Float). (to_unsigned 9 z + 1) / 2) zero_two ∙ no_byte x a)

-- ---- as the code has it: y is x held to 0 to 255
pub doubled : (y x : Float) → T (fits binary32 x) → y ≡ held_of x full → Right x (mul binary32 y two)
doubled y x f e = subst (λ (z : Float). Right x (mul binary32 z two)) (sym e) (right x f)

pub small : (x : Float) → round_byte_of x < 2 ^ 8
unfolding round_byte_of
small x = to_unsigned-lt 8 _
