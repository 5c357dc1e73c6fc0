-- A whole number n or -1 - n brought into a side, as the code does it, and what a remainder is. Assumes nothing.
use Rattle.std.proofs.Common.{◌≡◌, ℕ, suc, ◌+◌, ◌-◌, ◌*◌, ◌/◌, ◌%◌, ◌^◌, ◌<◌, ℤ, pos, negsuc, ◌-ℤ◌, w64, refl, sym, ap, ap₂, ◌∙◌, subst, mod-lt, div-add-mod', suc-mul, arith, to_z, of_z}
use Rattle.std.proofs.lemmas.Int.{ints, clamps, to_z-of_z}
use Rattle.std.specs.Int.{int_max, int_min, int_rem_euclid}
use lib.IntN.{nat_abs}
use mir.Val.{SFits}
use Rattle.levels.specs.declared.Wrap.{Wrap}
use Rattle.levels.specs.declared.Wrap.TheVariants.{Repeat, ClampToEdge}
use Rattle.coords.specs.Coords.{rem_of, edge_of, wrap_texel}

-- ---- what std's methods give
euclid_is : (z : ℤ) (size : ℕ) → nat_abs (int_rem_euclid z (pos size)) ≡ rem_of z size
unfolding rem_of
euclid_is (pos n) size = refl
euclid_is (negsuc n) size = refl

clamp_is : (z : ℤ) (size : ℕ) → nat_abs (int_max (pos 0) (int_min z (pos (size - 1)))) ≡ edge_of z size
unfolding edge_of
clamp_is (pos n) size = omega (arith, ints, clamps)
clamp_is (negsuc n) size = omega (arith, ints, clamps)

less_one : (size : ℕ) → 0 < size → pos size -ℤ pos 1 ≡ pos (size - 1)
less_one size h = omega (arith, ints)

module _ (w : Wrap) (z s r : ℤ) (size : ℕ) (f : SFits w64 z) (g : SFits w64 s) (h : SFits w64 r) (e : s ≡ pos size) where
  pub repeated : w ≡ Repeat → r ≡ int_rem_euclid (to_z w64 (of_z w64 z)) (to_z w64 (of_z w64 s)) → nat_abs (to_z w64 (of_z w64 r)) ≡ wrap_texel w z size
  unfolding wrap_texel
  repeated i j =
      ap nat_abs (to_z-of_z w64 r h ∙ j ∙ ap₂ int_rem_euclid (to_z-of_z w64 z f) (to_z-of_z w64 s g ∙ e)) ∙ euclid_is z size ∙ rw i

  pub clamped : 0 < size → size < 2 ^ 32 → w ≡ ClampToEdge → r ≡ int_max (pos 0) (int_min (to_z w64 (of_z w64 z)) (to_z w64 (of_z w64 (to_z w64 (of_z w64 s) -ℤ pos 1)))) → nat_abs (to_z w64 (of_z w64 r)) ≡ wrap_texel w z size
  unfolding wrap_texel
  clamped some few i j =
      let top : to_z w64 (of_z w64 (to_z w64 (of_z w64 s) -ℤ pos 1)) ≡ pos (size - 1) =
      ap (λ (y : ℤ). to_z w64 (of_z w64 y)) (ap (λ (y : ℤ). y -ℤ pos 1) (to_z-of_z w64 s g ∙ e) ∙ less_one size some) ∙ to_z-of_z w64 (pos (size - 1)) (record { sfits = omega arith }) in
      ap nat_abs (to_z-of_z w64 r h ∙ j ∙ ap₂ (λ (a b : ℤ). int_max (pos 0) (int_min a b)) (to_z-of_z w64 z f) top) ∙ clamp_is z size ∙ rw i

-- ---- for a reader: `rem_of` is the Euclidean remainder. It is below the side, and -1 - n and it differ by a multiple of the side.
pub rest_below : (z : ℤ) (size : ℕ) → 0 < size → rem_of z size < size
unfolding rem_of
rest_below (pos n) size h = mod-lt n h
rest_below (negsuc n) size h = omega arith

pub rem_multiple : (n size : ℕ) → 0 < size → suc n + rem_of (negsuc n) size ≡ suc (n / size) * size
unfolding rem_of
rem_multiple n size h =
    let a : n / size * size + n % size ≡ n = div-add-mod' n size in
    let b : n % size < size = mod-lt n h in
    let c : suc (n / size) * size ≡ n / size * size + size = suc-mul (n / size) size in
    omega arith

edge_below : (z : ℤ) (size : ℕ) → 0 < size → edge_of z size < size
unfolding edge_of
edge_below (pos n) size h = omega arith
edge_below (negsuc n) size h = h

pub wrap_below : (w : Wrap) (z : ℤ) (size : ℕ) → 0 < size → wrap_texel w z size < size
unfolding wrap_texel
wrap_below Repeat z size h = rest_below z size h
wrap_below ClampToEdge z size h = edge_below z size h

-- as a caller has it
pub first_in : (w : Wrap) (z : ℤ) (size first : ℕ) → 0 < size → first ≡ wrap_texel w z size → first < size
first_in w z size first h e = subst (λ (k : ℕ). k < size) (sym e) (wrap_below w z size h)
