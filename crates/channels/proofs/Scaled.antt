-- A channel held to 0 to 1, times 255, and a half: it is below 256, and its whole part is the byte. Assumes nothing.
use Prim.Native.Nat.{ℕ, zero, suc, ◌+◌, ◌-◌, ◌*◌, ◌/◌, ◌%◌, ◌^◌, ◌≤◌, ◌<◌, compare}
use mathlib.Core.Path.{◌≡◌, refl, sym, ap, subst, ◌∙◌}
use mathlib.Core.Bool.{Bool, true, false, cond, not, ◌&&◌, ◌||◌}
use lib.Dec.{T, ltb, eqb, ltb→lt, eqb→eq}
use lib.IntN.{ℤ, pos, negsuc}
use lib.Ieee.{Float, nan, inf, fin, up, down, lt, le, eq, add, sum, mul, size, nearest, odd, units, round, to_unsigned, of_bits, binary32}
use lib.Ieee.Fits.{down_pos, and_l, round_is}
use lib.Ieee.Order.{round_mono}
use lib.Ieee.Scale.{round_same}
use native.Mathlib.Nat.{mul-one, zero-lt-suc, le_of_lt, le_of_eq, mul_right_comm}
use native.Mathlib.Omega.{arith}
use borrow.Author.Tests.{ltb-true, ltb-false, le-ltb}
use Rattle.floats.specs.Num.{clamp_of}
use Rattle.floats.proofs.Cut.{two_to}
use Rattle.floats.proofs.Signs.{nought}
use Rattle.rounding.specs.Rounding.{Part}
use Rattle.channels.specs.Channel.{byte_of, held_of}

abbrev one : Float
one = two_to 0

abbrev half : Float
half = fin false 1 (negsuc 0)

abbrev pub full : Float
full = fin false 255 (pos 0)

-- c * 255 + 0.5
abbrev scaled : Float → Float
scaled c = add binary32 (mul binary32 c full) half

-- ---- a rounded fraction is not negative
abbrev plus : Float → Bool
plus nan = false
plus (inf s) = not s
plus (fin s m e) = not s

plus_pick : (b : Bool) (x y : Float) → T (plus x) → T (plus y) → T (plus (cond b x y))
plus_pick true x y p q = p
plus_pick false x y p q = q

plus_odd : (d q k l : ℕ) → T (plus (odd d false q k l))
unfolding odd
plus_odd d zero k l = tt
plus_odd d (suc q) k l = tt

plus_units : (q k : ℕ) → T (plus (units binary32 false q k))
unfolding units
plus_units q k = plus_pick (ltb (q * 2 ^ k) (2 ^ (149 + 128))) (odd 25 false q k 149) (inf false) (plus_odd 25 q k 149) tt

plus_round : (a c : ℕ) → T (plus (round binary32 false a c))
plus_round a c =
    let n = a * 2 ^ 149 in
    let k = size (n / c) - 24 in
    let u = c * 2 ^ k in
    subst (λ (v : Float). T (plus v)) (sym (round_is binary32 false a c)) (plus_units (nearest (n / u) (compare (n % u * 2) u)) k)

-- ---- up to a finite bound it is finite
or_le : (a b : ℕ) (z : Bool) → T (ltb a b || (eqb a b && z)) → a ≤ b
or_le a b z t = go (ltb a b) (ltb→lt a b) t
  where
    go : (x : Bool) → (T x → a < b) → T (x || (eqb a b && z)) → a ≤ b
    go true f t = le_of_lt (f tt)
    go false f t = le_of_eq (eqb→eq a b (and_l (eqb a b) z t))

record Plain (x : Float) (n g : ℕ) : Type 0 where
  pub digits : ℕ
  pub exponent : ℤ
  pub is : x ≡ fin false digits exponent
  pub bound : digits * up exponent * g ≤ n * down exponent

plain : (x : Float) (n : ℕ) (g : ℤ) → T (plus x) → T (le x (fin false n g)) → Plain x (n * up g) (down g)
unfolding le lt eq
plain nan n g p h = absurd p
plain (inf true) n g p h = absurd p
plain (inf false) n g p h = absurd h
plain (fin true m e) n g p h = absurd p
plain (fin false m e) n g p h = record { digits = m; exponent = e; is = refl; bound = or_le (m * up e * down g) (n * up g * down e) _ h }

pub at_255 : round binary32 false 255 1 ≡ full
unfolding round
at_255 = refl

at_511 : round binary32 false 511 2 ≡ fin false 511 (negsuc 0)
unfolding round
at_511 = refl

product : (k : ℕ) (d : ℤ) → k * up d ≤ down d → Plain (mul binary32 (fin false k d) full) 255 1
unfolding mul
product k d h =
    plain (round binary32 false (k * up d * 255) (down d * 1)) 255 (pos 0) (plus_round (k * up d * 255) (down d * 1))
    (subst (λ (v : Float). T (le (round binary32 false (k * up d * 255) (down d * 1)) v)) at_255
    (round_mono binary32 (k * up d * 255) (down d * 1) 255 1 (omega (arith, down_pos d)) (zero-lt-suc 0) (omega arith)))

moved : (m : ℕ) (e : ℤ) → m * up e * 1 ≤ 255 * down e → Plain (add binary32 (fin false m e) half) 511 2
unfolding add sum
moved m e h =
    plain (round binary32 false (m * up e * 2 + 1 * down e) (down e * 2)) 511 (negsuc 0) (plus_round (m * up e * 2 + 1 * down e) (down e * 2))
    (subst (λ (v : Float). T (le (round binary32 false (m * up e * 2 + 1 * down e) (down e * 2)) v)) at_511
    (round_mono binary32 (m * up e * 2 + 1 * down e) (down e * 2) 511 2 (omega (arith, down_pos e)) (zero-lt-suc 1) (omega arith)))

part_unit : (k : ℕ) (d : ℤ) → k * up d ≤ down d → Part 8 (scaled (fin false k d))
part_unit k d h =
    let p = product k d h in
    let q = moved p.digits p.exponent p.bound in
    subst (Part 8) (sym (ap (λ (v : Float). add binary32 v half) p.is ∙ q.is)) (omega (arith, q.bound, down_pos q.exponent))

-- ---- every v
held_part : (v : Float) → Part 8 (scaled (held_of v one))
unfolding held_of of_bits lt
held_part nan = part_unit 0 (pos 0) (omega arith)
held_part (inf true) = part_unit 0 (pos 0) (omega arith)
held_part (inf false) = part_unit 1 (pos 0) (omega arith)
held_part (fin true k d) = part_unit 0 (pos 0) (omega arith)
held_part (fin false k d) = go (ltb (0 * 1 * down d) (k * up d * 1)) (ltb (k * up d * 1) (1 * 1 * down d)) (ltb→lt (k * up d * 1) (1 * 1 * down d))
  where
    go : (a b : Bool) → (T b → k * up d * 1 < 1 * 1 * down d) → Part 8 (scaled (cond a (cond b (fin false k d) one) nought))
    go true true h = part_unit k d (omega (arith, h tt))
    go true false h = part_unit 1 (pos 0) (omega arith)
    go false b h = part_unit 0 (pos 0) (omega arith)

-- equal fractions have equal products
product_same : (k : ℕ) (d : ℤ) (n : ℕ) → k * up d ≡ n * down d → mul binary32 (fin false k d) full ≡ round binary32 false (n * 255) 1
unfolding mul
product_same k d n h = round_same binary32 false (k * up d * 255) (down d * 1) (n * 255) 1 (omega (arith, down_pos d)) (zero-lt-suc 0) (crossed (k * up d) (down d) n h)
  where
    crossed : (x y n : ℕ) → x ≡ n * y → x * 255 * 1 ≡ n * 255 * (y * 1)
    crossed x y n h = mul-one (x * 255) ∙ ap (λ (z : ℕ). z * 255) h ∙ mul_right_comm n y 255 ∙ ap (λ (z : ℕ). n * 255 * z) (sym (mul-one y))

minus_zero : (k : ℕ) (d : ℤ) → k * up d ≡ 0 → mul binary32 (fin true k d) full ≡ round binary32 true 0 1
unfolding mul
minus_zero k d h = round_same binary32 true (k * up d * 255) (down d * 1) 0 1 (omega (arith, down_pos d)) (zero-lt-suc 0) (omega arith)

zero_byte : to_unsigned 8 (scaled nought) ≡ 0
unfolding add mul to_unsigned
zero_byte = refl

minus_byte : to_unsigned 8 (add binary32 (round binary32 true 0 1) half) ≡ 0
unfolding add round to_unsigned
minus_byte = refl

one_is : mul binary32 one full ≡ round binary32 false (1 * 255) 1
unfolding mul
one_is = refl

zero_is : mul binary32 nought full ≡ round binary32 false (0 * 255) 1
unfolding mul
zero_is = refl

nan_byte : to_unsigned 8 (scaled nan) ≡ 0
unfolding add mul to_unsigned
nan_byte = refl

held_byte : (v : Float) → to_unsigned 8 (scaled (held_of v one)) ≡ byte_of v
unfolding held_of byte_of clamp_of of_bits lt
held_byte nan = zero_byte ∙ sym nan_byte
held_byte (inf true) = refl
held_byte (inf false) = refl
held_byte (fin true k d) = go (ltb 0 (k * up d * 1 + 0 * 1 * down d)) (ltb-false 0 (k * up d * 1 + 0 * 1 * down d))
  where
    go : (b : Bool) → (b ≡ false → k * up d * 1 + 0 * 1 * down d ≤ 0) → to_unsigned 8 (scaled nought) ≡ to_unsigned 8 (scaled (cond b nought (fin true k d)))
    go true h = refl
    go false h = zero_byte ∙ sym (ap (λ (p : Float). to_unsigned 8 (add binary32 p half)) (minus_zero k d (omega (arith, h refl))) ∙ minus_byte)
held_byte (fin false k d) =
    rw (le-ltb (k * up d * 1) (0 * 1 * down d) (omega arith))
    (go (ltb (0 * 1 * down d) (k * up d * 1)) (ltb (k * up d * 1) (1 * 1 * down d)) (ltb (1 * 1 * down d) (k * up d * 1))
    (ltb-false (0 * 1 * down d) (k * up d * 1)) (ltb-true (k * up d * 1) (1 * 1 * down d)) (ltb-false (k * up d * 1) (1 * 1 * down d)) (ltb-true (1 * 1 * down d) (k * up d * 1)) (ltb-false (1 * 1 * down d) (k * up d * 1)))
  where
    go : (a b c : Bool) → (a ≡ false → k * up d * 1 ≤ 0 * 1 * down d) → (b ≡ true → k * up d * 1 < 1 * 1 * down d) → (b ≡ false → 1 * 1 * down d ≤ k * up d * 1)
        → (c ≡ true → 1 * 1 * down d < k * up d * 1) → (c ≡ false → k * up d * 1 ≤ 1 * 1 * down d)
        → to_unsigned 8 (scaled (cond a (cond b (fin false k d) one) nought)) ≡ to_unsigned 8 (scaled (cond c one (fin false k d)))
    go true true true f g h i j = absurd (omega (arith, g refl, i refl))
    go true true false f g h i j = refl
    go true false true f g h i j = refl
    go true false false f g h i j = ap (λ (p : Float). to_unsigned 8 (add binary32 p half)) (one_is ∙ sym (product_same k d 1 (omega (arith, h refl, j refl))))
    go false b true f g h i j = absurd (omega (arith, f refl, i refl))
    go false b false f g h i j = ap (λ (p : Float). to_unsigned 8 (add binary32 p half)) (zero_is ∙ sym (product_same k d 0 (omega (arith, f refl))))

-- ---- as the code has it: x is v held to 0 to 1
pub scaled_part : (x v : Float) → x ≡ held_of v one → Part 8 (scaled x)
scaled_part x v e = subst (λ (y : Float). Part 8 (scaled y)) (sym e) (held_part v)

pub scaled_byte : (x v : Float) → x ≡ held_of v one → to_unsigned 8 (scaled x) ≡ byte_of v
scaled_byte x v e = ap (λ (y : Float). to_unsigned 8 (scaled y)) e ∙ held_byte v
