-- Which values are infinite, and a NaN in a sum of squares. Assumes nothing.
use Rattle.std.proofs.lemmas.Bool.{true≢false}
use Rattle.std.proofs.Common.{◌≡◌, Bool, true, false, cond, T, sym, refl, subst}
use lib.Ieee.{Float, nan, inf, fin, is_nan, eq, ne, lt, add, mul, binary64}
use lib.Ieee.Compare.{differs_from_itself}
use Rattle.std.specs.Float.{float_is_infinite}
use Rattle.floats.specs.Num.{max_of}
use Rattle.lists.proofs.Choice.{yes, no}
use Rattle.detail.specs.Pairs.{infinite, pair_of}

-- std's word for an infinite float is ours
pub infinite_is : (x : Float) → float_is_infinite x ≡ infinite x
unfolding float_is_infinite infinite
infinite_is nan = refl
infinite_is (inf s) = refl
infinite_is (fin s m e) = refl

add_nan : (x : Float) → add binary64 x nan ≡ nan
unfolding add
add_nan nan = refl
add_nan (inf s) = refl
add_nan (fin s m e) = refl

-- where neither is infinite the sum of squares is the pair
pub squares : (a b : Float) → infinite a ≡ false → infinite b ≡ false → add binary64 (mul binary64 a a) (mul binary64 b b) ≡ pair_of a b
unfolding infinite pair_of is_nan add mul
squares nan nan p q = refl
squares nan (fin s m e) p q = refl
squares (fin s m e) nan p q = add_nan (mul binary64 (fin s m e) (fin s m e))
squares (fin s m e) (fin t n d) p q = refl
squares nan (inf t) p q = absurd (true≢false q)
squares (fin s m e) (inf t) p q = absurd (true≢false q)
squares (inf s) b p q = absurd (true≢false p)

pub first_infinite : (a b : Float) → infinite a ≡ true → inf false ≡ pair_of a b
unfolding pair_of
first_infinite a b h = yes _ h refl

pub second_infinite : (a b : Float) → infinite a ≡ false → infinite b ≡ true → inf false ≡ pair_of a b
unfolding pair_of
second_infinite a b g h = no _ g (yes _ h refl)

-- ---- for a reader: a pair that is NaN loses to the other, so q is NaN only if both are
pub first_nan : (b : Float) → max_of nan b ≡ b
unfolding max_of ne eq
first_nan b = refl

below_nan : (a : Float) → lt a nan ≡ false
unfolding lt
below_nan nan = refl
below_nan (inf s) = refl
below_nan (fin s m e) = refl

second : (a : Float) (b : Bool) → ne a a ≡ b → cond b nan (cond (lt a nan) nan a) ≡ a
second a true h = sym (differs_from_itself a (subst T (sym h) tt))
second a false h = rw (below_nan a)

pub second_nan : (a : Float) → max_of a nan ≡ a
unfolding max_of
second_nan a = second a (ne a a) refl
