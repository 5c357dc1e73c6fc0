-- What the tests of the size query and of the compressed decode say of their definitions: each refusal's number, and what is left.
-- Assumes nothing.
use mathlib.Core.Path.{◌≡◌, refl, sym, ◌∙◌}
use mathlib.Core.Bool.{true, false}
use mathlib.Core.List.{List, [], ◌∷◌}
use Prim.Native.Nat.{ℕ, suc, ◌*◌, ◌≤◌, ◌<◌}
use native.Mathlib.Omega.{arith}
use lib.ListN.{length}
use borrow.Author.Tests.{lt-ltb, le-ltb, eq-eqb, ne_eqb}
use Rattle.lists.proofs.Choice.{yes, no}
use Rattle.answers.specs.declared.Refusal.{Refusal}
use Rattle.answers.specs.declared.Refusal.TheVariants.{Output}
use Rattle.answers.specs.Numbers.{refusal_number}
use Rattle.answers.proofs.Answered.{refused_test, done_test}
use Rattle.texels.specs.Image.{side_above}
use Rattle.std.specs.Prelude.{Option}
use Rattle.compressed.specs.declared.Compressed.{Compressed}
use Rattle.compressed.specs.Compressed.{is_unknown, size_of, size_check, size_answered, compressed_image, zero_side, known_check, known_left, empty_check, compressed_check, compressed_left}

module _ (w h : ℕ) where
  pub zero_wide : w ≡ 0 → zero_side w h ≡ true
  zero_wide p = sym (yes _ (eq-eqb w 0 p) refl)

  pub zero_high : (w ≡ 0 → ⊥) → h ≡ 0 → zero_side w h ≡ true
  zero_high q p = sym (no _ (ne_eqb w 0 q) (sym (eq-eqb h 0 p)))

  pub no_zero : (w ≡ 0 → ⊥) → (h ≡ 0 → ⊥) → zero_side w h ≡ false
  no_zero p q = sym (no _ (ne_eqb w 0 p) (sym (ne_eqb h 0 q)))

module _ (f : Option Compressed) (w h : ℕ) where
  pub size_9 : side_above w h ≡ true → 9 ≡ size_check f w h
  unfolding size_check
  size_9 p = yes _ p refl

  pub size_14 : side_above w h ≡ false → is_unknown f ≡ true → 14 ≡ size_check f w h
  unfolding size_check
  size_14 p q = no _ p (yes _ q refl)

  pub size_0 : side_above w h ≡ false → is_unknown f ≡ false → 0 ≡ size_check f w h
  unfolding size_check
  size_0 p q = no _ p (no _ q refl)

  pub size_refused : (why : Refusal) → refusal_number why ≡ size_check f w h → 0 ≡ size_answered f w h
  unfolding size_answered
  size_refused why e = no _ (refused_test why (size_check f w h) e) refl

  pub size_given : 0 ≡ size_check f w h → size_of f w h ≡ size_answered f w h
  unfolding size_answered
  size_given e = yes _ (done_test (size_check f w h) e) refl

  module _ (n m : ℕ) where
    pub known_14 : is_unknown f ≡ true → 14 ≡ known_check f w h n m
    unfolding known_check
    known_14 p = yes _ p refl

    pub known_11 : is_unknown f ≡ false → n < size_of f w h → 11 ≡ known_check f w h n m
    unfolding known_check
    known_11 p q = no _ p (yes _ (lt-ltb n (size_of f w h) q) refl)

    pub known_15 : is_unknown f ≡ false → size_of f w h ≤ n → (m ≡ h * w * 4 → ⊥) → 15 ≡ known_check f w h n m
    unfolding known_check
    known_15 p q r = no _ p (no _ (le-ltb n (size_of f w h) q) (no _ (ne_eqb m (h * w * 4) r) refl))

    pub known_0 : is_unknown f ≡ false → size_of f w h ≤ n → m ≡ h * w * 4 → 0 ≡ known_check f w h n m
    unfolding known_check
    known_0 p q r = no _ p (no _ (le-ltb n (size_of f w h) q) (yes _ (eq-eqb m (h * w * 4) r) refl))

    pub large_9 : side_above w h ≡ true → 9 ≡ compressed_check f w h n m
    unfolding compressed_check
    large_9 p = yes _ p refl

    pub empty_check_is : side_above w h ≡ false → zero_side w h ≡ true → empty_check m ≡ compressed_check f w h n m
    unfolding compressed_check
    empty_check_is p q = no _ p (yes _ q refl)

    pub known_check_is : side_above w h ≡ false → zero_side w h ≡ false → known_check f w h n m ≡ compressed_check f w h n m
    unfolding compressed_check
    known_check_is p q = no _ p (no _ q refl)

  module _ (s : List ℕ) where
    pub known_unchanged : (out : List ℕ) (why : Refusal) → refusal_number why ≡ known_check f w h (length s) (length out) → out ≡ known_left f w h s out
    unfolding known_left
    known_unchanged out why e = no _ (refused_test why (known_check f w h (length s) (length out)) e) refl

    pub known_drawn : (out : List ℕ) → 0 ≡ known_check f w h (length s) (length out) → compressed_image f w h s ≡ known_left f w h s out
    unfolding known_left
    known_drawn out e = yes _ (done_test (known_check f w h (length s) (length out)) e) refl

    pub unchanged : (out : List ℕ) (why : Refusal) → refusal_number why ≡ compressed_check f w h (length s) (length out) → out ≡ compressed_left f w h s out
    unfolding compressed_left
    unchanged out why e = no _ (refused_test why (compressed_check f w h (length s) (length out)) e) refl

    -- an output without bytes is all of a zero side's image, and any other is left
    pub empty_left : (out : List ℕ) → side_above w h ≡ false → zero_side w h ≡ true → out ≡ compressed_left f w h s out
    unfolding compressed_left empty_check
    empty_left [] p q =
        yes _ (done_test (compressed_check f w h (length s) 0) (empty_check_is (length s) 0 p q)) (yes _ q refl)
    empty_left (x ∷ out) p q = unchanged (x ∷ out) Output (no _ (ne_eqb (suc (length out)) 0 (λ e. omega arith)) refl ∙ empty_check_is (length s) (suc (length out)) p q)

    pub known_left_is : (out : List ℕ) → side_above w h ≡ false → zero_side w h ≡ false → known_left f w h s out ≡ compressed_left f w h s out
    unfolding known_left compressed_left
    known_left_is out p q = rw (sym (known_check_is (length s) (length out) p q), q)
