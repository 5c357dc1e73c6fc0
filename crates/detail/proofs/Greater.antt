-- The greater of two pairs by std's `max`: it may answer either of two that compare equal, and those are the same. Assumes nothing.
use Rattle.std.proofs.lemmas.Bool.{true≢false, false≢true, or_from, or_left}
use Rattle.std.proofs.lemmas.Float.{lt_irrefl, le_of_lt, le_of_not-lt, lt_of_lt_of_le, lt-or-eq, T_from_true, T_from_false}
use Rattle.std.proofs.Common.{◌≡◌, ℕ, ◌+◌, ◌-◌, ◌*◌, ◌/◌, ◌%◌, ◌^◌, Bool, true, false, cond, ltb, ◌||◌, inl, inr, T, sym, refl, ap, ◌∙◌, subst, subst₂}
use lib.Ieee.{Float, nan, inf, fin, Format, binary64, is_nan, lt, le, eq, ne, odd, units, round, add, mul, sum, fits, prec, emax, low, up, down, size, nearest}
use lib.Ieee.Bits.{is_true}
use lib.Ieee.Compare.{differs_from_itself}
use lib.Ieee.Fits.{cond-fits, nan-fits, inf-fits, add-fits}
use Prim.Native.Nat.{compare}
use Rattle.std.specs.Float.{IsFloatMax}
use Rattle.floats.specs.Num.{max_of}
use Rattle.lists.proofs.Choice.{yes, no}
use Rattle.detail.specs.Pairs.{infinite, pair_of}
use Rattle.detail.proofs.Squares.{first_nan, second_nan}
use Rattle.detail.proofs.Canonical.{plus, same}

-- ---- a pair has no minus
either_plus : (b : Bool) (x y : Float) → T (plus x) → T (plus y) → T (plus (cond b x y))
either_plus true x y p q = p
either_plus false x y p q = q

odd_plus : (d q k l : ℕ) → T (plus (odd d false q k l))
unfolding odd
odd_plus d ℕ.zero k l = tt
odd_plus d (ℕ.suc q) k l = tt

units_plus : (f : Format) (q k : ℕ) → T (plus (units f false q k))
unfolding units
units_plus f q k = either_plus (ltb (q * 2 ^ k) (2 ^ (low f + ℕ.suc (emax f)))) (odd (ℕ.suc (prec f)) false q k (low f)) (inf false) (odd_plus (ℕ.suc (prec f)) q k (low f)) tt

round_plus : (f : Format) (n d : ℕ) → T (plus (round f false n d))
unfolding round
round_plus f n d =
    let m = n * 2 ^ low f in
    let k = size (m / d) - prec f in
    let u = d * 2 ^ k in
    units_plus f (nearest (m / u) (compare (m % u * 2) u)) k

square_plus : (x : Float) → T (plus (mul binary64 x x))
unfolding mul
square_plus nan = tt
square_plus (inf true) = tt
square_plus (inf false) = tt
square_plus (fin true m e) = round_plus binary64 (m * up e * (m * up e)) (down e * down e)
square_plus (fin false m e) = round_plus binary64 (m * up e * (m * up e)) (down e * down e)

sum_plus : (x y : Float) → T (plus x) → T (plus y) → T (plus (add binary64 x y))
unfolding add sum
sum_plus nan y p q = tt
sum_plus (inf true) y p q = absurd p
sum_plus (inf false) nan p q = tt
sum_plus (inf false) (inf true) p q = absurd q
sum_plus (inf false) (inf false) p q = tt
sum_plus (inf false) (fin t n d) p q = tt
sum_plus (fin true m e) y p q = absurd p
sum_plus (fin false m e) nan p q = tt
sum_plus (fin false m e) (inf true) p q = absurd q
sum_plus (fin false m e) (inf false) p q = tt
sum_plus (fin false m e) (fin true n d) p q = absurd q
sum_plus (fin false m e) (fin false n d) p q = round_plus binary64 (m * up e * down d + n * up d * down e) (down e * down d)

pair_plus : (a b : Float) → T (plus (pair_of a b))
unfolding pair_of
pair_plus a b =
    either_plus (infinite a) _ _ tt
    (either_plus (infinite b) _ _ tt
    (either_plus (is_nan a) _ _ tt
    (either_plus (is_nan b) _ _ tt (sum_plus (mul binary64 a a) (mul binary64 b b) (square_plus a) (square_plus b)))))

pair_fits : (a b : Float) → T (fits binary64 (pair_of a b))
unfolding pair_of
pair_fits a b =
    let i = inf-fits binary64 false in
    let n = nan-fits binary64 in
    cond-fits binary64 (infinite a) _ _ i
    (cond-fits binary64 (infinite b) _ _ i
    (cond-fits binary64 (is_nan a) _ _ n (cond-fits binary64 (is_nan b) _ _ n (add-fits binary64 (mul binary64 a a) (mul binary64 b b)))))

-- ---- a NaN loses
beside_nan : (y : Float) → cond (le y nan || is_nan y) nan y ≡ y
unfolding le lt eq is_nan
beside_nan nan = refl
beside_nan (inf s) = refl
beside_nan (fin s m e) = refl

nan_beside : (y : Float) → cond (le nan y || is_nan nan) y nan ≡ y
unfolding le lt eq is_nan
nan_beside y = refl

-- ---- two numbers
itself : (x : Float) → is_nan x ≡ false → (b : Bool) → ne x x ≡ b → b ≡ false
unfolding is_nan
itself x n false e = refl
itself x n true e = absurd (true≢false (sym (ap is_nan (differs_from_itself x (subst T (sym e) tt))) ∙ n))

module _ (x y : Float) (nx : is_nan x ≡ false) (ny : is_nan y ≡ false) (f : T (fits binary64 x)) (g : T (fits binary64 y)) (p : T (plus x)) (q : T (plus y)) where
  below : lt x y ≡ true → (r : Float) → IsFloatMax x y r → r ≡ y
  below h r (inl e) =
      let l : (b : Bool) → le y x ≡ b → b ≡ false = λ b k. go b k in
      e ∙ sym (no x (or_from (le y x) (is_nan y) (l _ refl) ny) refl)
    where
      go : (b : Bool) → le y x ≡ b → b ≡ false
      go false k = refl
      go true k = absurd (lt_irrefl x (lt_of_lt_of_le x y x (T_from_true _ h) (T_from_true _ k)))
  below h r (inr e) = e ∙ rw (is_true (le x y) (le_of_lt x y (T_from_true _ h))) refl

  above : lt x y ≡ false → (r : Float) → IsFloatMax x y r → r ≡ x
  above h r (inl e) = e ∙ sym (yes y (or_left (le y x) (is_nan y) (is_true (le y x) (le_of_not-lt x y (T_from_false _ nx) (T_from_false _ ny) (T_from_false _ h)))) refl)
  above h r (inr e) = go (le x y) refl
    where
      ge : T (le y x)
      ge = le_of_not-lt x y (T_from_false _ nx) (T_from_false _ ny) (T_from_false _ h)

      equal : le x y ≡ true → T (eq x y)
      equal k = elim (lt-or-eq x y (T_from_true _ k)) [ inl l ↦ absurd (lt_irrefl x (lt_of_lt_of_le x y x l ge)) | inr q ↦ q ]

      go : (b : Bool) → le x y ≡ b → r ≡ x
      go true k = e ∙ rw k refl ∙ sym (same x y f g p q (equal k))
      go false k = e ∙ rw (k, nx) refl

  order : (b : Bool) → lt x y ≡ b → (r : Float) → IsFloatMax x y r → r ≡ max_of x y
  unfolding max_of
  order true h r m = no _ (itself x nx _ refl) (yes _ h (below h r m))
  order false h r m = no _ (itself x nx _ refl) (no _ h (above h r m))

greater : (x y : Float) → T (fits binary64 x) → T (fits binary64 y) → T (plus x) → T (plus y) → (a b : Bool) → is_nan x ≡ a → is_nan y ≡ b → (r : Float) → IsFloatMax x y r → r ≡ max_of x y
unfolding is_nan
greater x y f g p q false false c d r m = order x y c d f g p q _ refl r m
greater x y f g p q true b c d r m = go x c r m
  where
    go : (x : Float) → is_nan x ≡ true → (r : Float) → IsFloatMax x y r → r ≡ max_of x y
    go nan k r (inl e) = e ∙ beside_nan y ∙ sym (first_nan y)
    go nan k r (inr e) = e ∙ nan_beside y ∙ sym (first_nan y)
    go (inf s) k r m = absurd (false≢true k)
    go (fin s n h) k r m = absurd (false≢true k)
greater x y f g p q false true c d r m = go y d r m
  where
    go : (y : Float) → is_nan y ≡ true → (r : Float) → IsFloatMax x y r → r ≡ max_of x y
    go nan k r (inl e) = e ∙ nan_beside x ∙ sym (second_nan x)
    go nan k r (inr e) = e ∙ beside_nan x ∙ sym (second_nan x)
    go (inf s) k r m = absurd (false≢true k)
    go (fin s n h) k r m = absurd (false≢true k)

pub pair_greater : (a b c d x y r : Float) → x ≡ pair_of a b → y ≡ pair_of c d → IsFloatMax x y r → r ≡ max_of (pair_of a b) (pair_of c d)
pair_greater a b c d x y r e h m =
    greater (pair_of a b) (pair_of c d) (pair_fits a b) (pair_fits c d) (pair_plus a b) (pair_plus c d) _ _ refl refl r
    (subst₂ (λ (u v : Float). IsFloatMax u v r) e h m)
