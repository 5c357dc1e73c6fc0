-- A texel is four bytes whatever its format, and an image of such texels holds at (x, y) the texel it was given there. Assumes nothing.
use mathlib.Core.Path.{◌≡◌, refl, sym, ap, ◌∙◌}
use mathlib.Core.List.{List}
use Prim.Native.Nat.{ℕ, ◌+◌, ◌*◌, ◌≤◌, ◌<◌}
use native.Mathlib.Nat.{mul_assoc, add-mul, suc-mul, mul-le-mul_right}
use native.Mathlib.Omega.{arith}
use lib.ListN.{length, take, drop, length-drop}
use lib.Seq.{drop-drop, length-take-le}
use Rattle.lists.specs.Lists.{flat}
use Rattle.lists.proofs.Rows.{length_flat}
use Rattle.lists.proofs.Cells.{flat_of_cells}
use Rattle.lists.proofs.Parts.{flat_flat, flat_part, part_of_part}
use Rattle.texels.specs.declared.TexelFormat.{TexelFormat}
use Rattle.texels.specs.declared.TexelFormat.TheVariants.{Alpha, Luminance, LuminanceAlpha, Rgb, Rgba, Rgb565, Rgba4444, Rgba5551}
use Rattle.texels.specs.Texels.{texel_at, texel_bytes, nth_texel}
use Rattle.texels.specs.Image.{image}

pub texel_four : (t : TexelFormat) (s : List ℕ) (at : ℕ) → length (texel_at t s at) ≡ 4
texel_four Alpha s at = refl
texel_four Luminance s at = refl
texel_four LuminanceAlpha s at = refl
texel_four Rgb s at = refl
texel_four Rgba s at = refl
texel_four Rgb565 s at = refl
texel_four Rgba4444 s at = refl
texel_four Rgba5551 s at = refl

pub nth_four : (t : TexelFormat) (s : List ℕ) (i : ℕ) → length (nth_texel t s i) ≡ 4
unfolding nth_texel
nth_four t s i = texel_four t s (i * texel_bytes t)

module _ (f : ℕ → ℕ → List ℕ) (four : (x y : ℕ) → length (f x y) ≡ 4) (w h : ℕ) where
  row_length : (y : ℕ) → length (flat w (λ x. f x y)) ≡ w * 4
  row_length y = length_flat 4 (λ x. f x y) (λ x. four x y) w

  pub image_length : length (image w h f) ≡ h * w * 4
  unfolding image
  image_length = length_flat (w * 4) (λ y. flat w (λ x. f x y)) row_length h ∙ sym (mul_assoc h w 4)

  -- the texel at (x, y)
  pub image_texel : (x y : ℕ) → x < w → y < h → take 4 (drop ((y * w + x) * 4) (image w h f)) ≡ f x y
  unfolding image
  image_texel x y hx hy =
      let whole : List ℕ = flat h (λ y. flat w (λ x. f x y)) in
      let from : List ℕ = drop (y * (w * 4)) whole in
      let row : take (w * 4) from ≡ flat w (λ x. f x y) = flat_part (w * 4) (λ y. flat w (λ x. f x y)) row_length h y hy in
      let room : x * 4 + 4 ≤ length (take (w * 4) from) = rw (row, row_length y) (omega arith) in
      let place : (y * w + x) * 4 ≡ y * (w * 4) + x * 4 = add-mul (y * w) x 4 ∙ rw mul_assoc in
      rw (place, ← drop-drop (x * 4) (y * (w * 4)) whole, part_of_part from (x * 4) 4 (w * 4) room, row)
      (flat_part 4 (λ x. f x y) (λ x. four x y) w x hx)

-- a list that holds the right texel at each (x, y) is the image
pub image_of_texels : (f : ℕ → ℕ → List ℕ) (w h : ℕ) (l : List ℕ) → length l ≡ h * w * 4
    → ((x y : ℕ) → x < w → y < h → take 4 (drop ((y * w + x) * 4) l) ≡ f x y) → l ≡ image w h f
unfolding image
image_of_texels f w h l e cells =
    let whole : length l ≡ h * (w * 4) = e ∙ mul_assoc h w 4 in
    let row : (y : ℕ) → y < h → take (w * 4) (drop (y * (w * 4)) l) ≡ flat w (λ x. f x y) =
    λ y hy.
    let room : y * (w * 4) + w * 4 ≤ length l = rw whole (omega (arith, suc-mul y (w * 4), mul-le-mul_right (w * 4) hy)) in
    let from : List ℕ = drop (y * (w * 4)) l in
    let n : length (take (w * 4) from) ≡ w * 4 = length-take-le (w * 4) from (simp length-drop (omega arith)) in
    flat_of_cells 4 (λ x. f x y) w (take (w * 4) from) n
    (λ x hx.
    let place : (y * w + x) * 4 ≡ y * (w * 4) + x * 4 = add-mul (y * w) x 4 ∙ rw mul_assoc in
    sym (part_of_part from (x * 4) 4 (w * 4) (omega arith))
    ∙ ap (take 4) (drop-drop (x * 4) (y * (w * 4)) l)
    ∙ rw (sym place) (cells x y hx hy)) in
    flat_of_cells (w * 4) (λ y. flat w (λ x. f x y)) h l whole row

-- an image whose texels are numbered row by row
pub image_numbered : (g : ℕ → List ℕ) (w h : ℕ) → image w h (λ x y. g (y * w + x)) ≡ flat (h * w) g
unfolding image
image_numbered g w h = flat_flat g w h
