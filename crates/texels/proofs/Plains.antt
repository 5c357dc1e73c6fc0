-- What the tests of a plain decode say of its definition: each refusal's number, and the output that is left. Assumes nothing.
use mathlib.Core.Path.{◌≡◌, refl, sym}
use mathlib.Core.Bool.{true, false}
use mathlib.Core.List.{List}
use Prim.Native.Nat.{ℕ, ◌*◌, ◌≤◌, ◌<◌}
use lib.Dec.{eqb}
use lib.ListN.{length}
use borrow.Author.Tests.{lt-ltb, le-ltb, eq-eqb, ne_eqb}
use Rattle.lists.proofs.Choice.{yes, no}
use Rattle.answers.specs.declared.Refusal.{Refusal}
use Rattle.answers.specs.Numbers.{refusal_number}
use Rattle.answers.proofs.Answered.{refused_test, done_test}
use Rattle.lists.specs.Lists.{flat}
use Rattle.texels.specs.declared.TexelFormat.{TexelFormat}
use Rattle.texels.specs.declared.TexelFormat.TheVariants.{Alpha, Luminance, LuminanceAlpha, Rgb, Rgba, Rgb565, Rgba4444, Rgba5551}
use Rattle.std.specs.Prelude.{Option, Some, None, Result}
use Rattle.std.specs.Result.{IsErrAnd}
use Rattle.std.proofs.lemmas.Result.{err_from_is_err_and}
use Rattle.answers.specs.Results.{answer_number}
use Rattle.texels.specs.Image.{side_above}
use Rattle.texels.specs.Texels.{texel_bytes, nth_texel}
use Rattle.texels.specs.Plain.{plain_check, plain_image, plain_left}
use Rattle.texels.proofs.Images.{image_numbered}

-- the number of a refusal that a `?` passes on
pub passed_on : {T : Type 0} (r : Result T Refusal) (why : Refusal) → IsErrAnd r (λ y. y ≡ why) → answer_number r ≡ refusal_number why
passed_on r why h =
    let p = err_from_is_err_and r h in rw (p.1, p.2)

pub some_bytes : (t : TexelFormat) → eqb (texel_bytes t) 0 ≡ false
some_bytes Alpha = refl
some_bytes Luminance = refl
some_bytes LuminanceAlpha = refl
some_bytes Rgb = refl
some_bytes Rgba = refl
some_bytes Rgb565 = refl
some_bytes Rgba4444 = refl
some_bytes Rgba5551 = refl

pub none_above : (w h : ℕ) → w ≤ 1024 → h ≤ 1024 → side_above w h ≡ false
none_above w h p q = sym (no _ (le-ltb 1024 w p) (sym (le-ltb 1024 h q)))

module _ (w h n m : ℕ) where
  pub plain_14 : 14 ≡ plain_check None w h n m
  unfolding plain_check
  plain_14 = refl

  module _ (t : TexelFormat) where
    pub plain_9 : side_above w h ≡ true → 9 ≡ plain_check (Some t) w h n m
    unfolding plain_check
    plain_9 p = no _ (some_bytes t) (yes _ p refl)

    pub plain_11 : side_above w h ≡ false → n < h * w * texel_bytes t → 11 ≡ plain_check (Some t) w h n m
    unfolding plain_check
    plain_11 p q = no _ (some_bytes t) (no _ p (yes _ (lt-ltb n (h * w * texel_bytes t) q) refl))

    pub plain_15 : side_above w h ≡ false → h * w * texel_bytes t ≤ n → (m ≡ h * w * 4 → ⊥) → 15 ≡ plain_check (Some t) w h n m
    unfolding plain_check
    plain_15 p q r = no _ (some_bytes t) (no _ p (no _ (le-ltb n (h * w * texel_bytes t) q) (no _ (ne_eqb m (h * w * 4) r) refl)))

    pub plain_0 : side_above w h ≡ false → h * w * texel_bytes t ≤ n → m ≡ h * w * 4 → 0 ≡ plain_check (Some t) w h n m
    unfolding plain_check
    plain_0 p q r = no _ (some_bytes t) (no _ p (no _ (le-ltb n (h * w * texel_bytes t) q) (yes _ (eq-eqb m (h * w * 4) r) refl)))

module _ (f : Option TexelFormat) (w h : ℕ) (s out : List ℕ) where
  pub plain_unchanged : (why : Refusal) → refusal_number why ≡ plain_check f w h (length s) (length out) → out ≡ plain_left f w h s out
  unfolding plain_left
  plain_unchanged why e = no _ (refused_test why (plain_check f w h (length s) (length out)) e) refl

-- the texels in the order of the data are the image
pub plain_drawn : (t : TexelFormat) (w h : ℕ) (s out : List ℕ) → 0 ≡ plain_check (Some t) w h (length s) (length out)
    → flat (h * w) (nth_texel t s) ≡ plain_left (Some t) w h s out
unfolding plain_left plain_image
plain_drawn t w h s out e = yes _ (done_test (plain_check (Some t) w h (length s) (length out)) e) (sym (image_numbered (nth_texel t s) w h))
