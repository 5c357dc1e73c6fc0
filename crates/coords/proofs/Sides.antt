-- The index of a sample lies within the side. Assumes nothing.
use Prim.Native.Nat.{ℕ, zero, suc, min, ◌-◌, ◌*◌, ◌/◌, ◌^◌, ◌≤◌, ◌<◌}
use mathlib.Core.Path.{◌≡◌, refl, sym, ap, subst, ◌∙◌}
use mathlib.Core.Bool.{Bool, true, false, cond, ◌&&◌, ◌||◌}
use lib.Dec.{T, ltb, eqb}
use lib.IntN.{ℤ, pos, neg_ℤ}
use lib.Ieee.{Float, nan, inf, fin, up, down, lt, le, eq, binary32, of_bits, of_int, in_float, to_unsigned, to_signed}
use lib.Ieee.Back.{round_whole}
use lib.Ieee.Exact.{HasValue}
use lib.Ieee.Fits.{down_pos}
use lib.Ieee.Order.{le_of_values}
use native.Mathlib.Decide.{dec_lt}
use native.Mathlib.Nat.{div-lt_iff_lt-mul, le-div_iff_mul-le, le_of_mul-le-mul_right, mul-one, mul_right_comm, mul-pos}
use native.Mathlib.Omega.{arith}
use borrow.Author.Tests.{le-leb, le-ltb, ltb-true, eqb-true, ne_eqb}
use Rattle.std.proofs.lemmas.Bool.{and_right, true≢false, false≢true}
use Rattle.floats.specs.Num.{◌⊗◌, zero32, of_nat32}
use Rattle.levels.specs.declared.Wrap.{Wrap}
use Rattle.levels.specs.declared.Wrap.TheVariants.{Repeat, ClampToEdge}
use Rattle.rounding.specs.Rounding.{floor_of}
use Rattle.coords.specs.declared.Axis.{Axis}
use Rattle.coords.specs.Coords.{edge_of, edge_coord, wrap_texel, wrap_coord, first_of, second_of, axis_of}
use Rattle.coords.proofs.Wraps.{rest_below, wrap_below}

-- a side is a whole f32
pub side_fits : (size : ℕ) → size ≤ 1024 → T (in_float binary32 (pos size))
unfolding in_float
side_fits size h = subst T (sym (le-leb size (2 ^ 24) (omega arith))) tt

side_value : (size : ℕ) → size ≤ 1024 → HasValue (of_nat32 size) false size 1
unfolding of_int
side_value size h = round_whole binary32 false size (omega arith)

-- no side is above the infinity
below_infinite : (v : Float) (n : ℕ) → HasValue v false n 1 → le v (inf false) ≡ false → ⊥
unfolding le lt
below_infinite nan n h e = h
below_infinite (inf s) n h e = h
below_infinite (fin s m d) n h e = true≢false e

-- ---- the edge by a float is the edge by its whole number
edge_below_zero : (k n : ℕ) → 0 ≡ edge_of (neg_ℤ (pos k)) n
unfolding edge_of
edge_below_zero zero n = omega arith
edge_below_zero (suc k) n = refl

neither : (a b : Bool) (k : ℕ) → b ≡ false → cond a 0 (cond b k 0) ≡ 0
neither true b k e = refl
neither false b k e = rw e

or_le : (a b : ℕ) (t : Bool) → (ltb a b || (eqb a b && t)) ≡ true → a ≤ b
or_le a b t = go (ltb a b) (eqb a b) (ltb-true a b) (eqb-true a b)
  where
    go : (l e : Bool) → (l ≡ true → a < b) → (e ≡ true → a ≡ b) → (l || (e && t)) ≡ true → a ≤ b
    go true e f g h = omega (arith, f refl)
    go false true f g h = omega (arith, g refl)
    go false false f g h = absurd (false≢true h)

module _ (n : ℕ) (some : 0 < n) (few : n ≤ 1024) where
  picked : (q : ℕ) (b : Bool) → (b ≡ true → n ≤ q) → (b ≡ false → q < n) → cond b (n - 1) (min q (2 ^ 32 - 1)) ≡ min (min q (2 ^ 63 - 1)) (n - 1)
  picked q true f g = omega (arith, f refl)
  picked q false f g = omega (arith, g refl)

  against : (v : Float) → HasValue v false n 1 → ((m : ℕ) (e : ℤ) → le v (fin false m e) ≡ false → m * up e / down e < n) → (c : Float)
      → cond (lt c zero32) 0 (cond (le v c) (n - 1) (to_unsigned 32 c)) ≡ edge_of (to_signed 63 c) n
  unfolding lt eq le of_bits edge_of to_unsigned to_signed
  against nan h f c = absurd h
  against (inf s) h f c = absurd h
  against (fin true j d) h f c = absurd (true≢false h.0)
  against (fin false j d) h f nan = omega arith
  against (fin false j d) h f (inf true) = refl
  against (fin false j d) h f (inf false) = omega arith
  against (fin false j d) h f (fin true m e) =
      let a : j * up d ≡ n * down d = sym (mul-one (j * up d)) ∙ h.1 in
      let p : 0 < n * down d * down e = mul-pos (mul-pos some (down_pos d)) (down_pos e) in
      let A = j * up d * down e in
      let z : eqb A 0 ≡ false = ne_eqb A 0 (λ w. omega (arith, ap (λ (y : ℕ). y * down e) a, p, w)) in
      neither _ _ (n - 1) (and_right (eqb A (m * up e * down d)) (eqb A 0) z) ∙ edge_below_zero (min (m * up e / down e) (2 ^ 63)) n
  against (fin false j d) h f (fin false m e) =
      let a : j * up d ≡ n * down d = sym (mul-one (j * up d)) ∙ h.1 in
      let A = j * up d * down e in
      let B = m * up e * down d in
      let high : le (fin false j d) (fin false m e) ≡ true → n ≤ m * up e / down e = λ t.
      (le-div_iff_mul-le (down_pos e)).1
      (le_of_mul-le-mul_right (omega (arith, or_le A B true t, ap (λ (y : ℕ). y * down e) a, mul_right_comm n (down d) (down e))) (down_pos d)) in
      let under : ltb (m * up e * 1) (0 * 1 * down e) ≡ false = le-ltb (m * up e * 1) (0 * 1 * down e) (omega arith) in
      rw under (picked (m * up e / down e) _ high (f m e))

module _ (size : ℕ) (some : 0 < size) (few : size ≤ 1024) where
  either : (m : ℕ) (e : ℤ) → le (of_nat32 size) (fin false m e) ≡ false → Dec (m * up e < size * down e) → m * up e / down e < size
  either m e b (yes h) = (div-lt_iff_lt-mul (down_pos e)).1 h
  either m e b (no h) =
      absurd (subst T b (le_of_values (of_nat32 size) (fin false m e) size 1 (m * up e) (down e) (omega arith) (down_pos e) (side_value size few) (refl, refl) (omega arith)))

  cut_in : (c : Float) → lt c zero32 ≡ false → le (of_nat32 size) c ≡ false → to_unsigned 32 c < size
  unfolding to_unsigned
  cut_in nan a b = some
  cut_in (inf true) a b = some
  cut_in (inf false) a b = absurd (below_infinite (of_nat32 size) size (side_value size few) b)
  cut_in (fin true m e) a b = some
  cut_in (fin false m e) a b = omega (arith, either m e b (dec_lt (m * up e) (size * down e)))

  pub edge_is : (c : Float) → edge_coord c size ≡ edge_of (to_signed 63 c) size
  unfolding edge_coord
  edge_is c = against size some few (of_nat32 size) (side_value size few) (λ m e b. either m e b (dec_lt (m * up e) (size * down e))) c

  -- the texel of the scaled coordinate's floor
  pub coord_is : (w : Wrap) (v l : Float) → l ≡ of_nat32 size → wrap_texel w (to_signed 63 (floor_of (v ⊗ l))) size ≡ wrap_coord w v size
  unfolding wrap_texel wrap_coord
  coord_is Repeat v l e = rw e
  coord_is ClampToEdge v l e = rw e (sym (edge_is _))

  pick : (c : Float) (a b : Bool) → lt c zero32 ≡ a → le (of_nat32 size) c ≡ b → cond a 0 (cond b (size - 1) (to_unsigned 32 c)) < size
  pick c true b p q = some
  pick c false true p q = omega arith
  pick c false false p q = cut_in c p q

  pub coord_below : (w : Wrap) (v : Float) → wrap_coord w v size < size
  unfolding wrap_coord edge_coord
  coord_below Repeat v = rest_below _ size some
  coord_below ClampToEdge v = pick _ _ _ refl refl

  pub first_below : (w : Wrap) (v : Float) → first_of w v size < size
  unfolding first_of
  first_below w v = wrap_below w _ size some

  pub second_below : (w : Wrap) (v : Float) → second_of w v size < size
  unfolding second_of
  second_below w v = wrap_below w _ size some

  -- as a caller has them
  pub index_below : (w : Wrap) (v : Float) (x : ℕ) → x ≡ wrap_coord w v size → x < size
  index_below w v x e = subst (λ (z : ℕ). z < size) (sym e) (coord_below w v)

  pub axis_below : (w : Wrap) (v : Float) (x : Axis) → x ≡ axis_of w v size → (x.first < size) × (x.second < size)
  unfolding axis_of
  axis_below w v x e = subst (λ (z : Axis). (z.first < size) × (z.second < size)) (sym e) (first_below w v, second_below w v)
