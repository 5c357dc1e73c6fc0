-- The image of a decoded palette is the paletted image. How far the loop over the entries comes. Assumes nothing.
use mathlib.Core.Path.{◌≡◌, refl}
use mathlib.Core.List.{List, []}
use Prim.Native.Nat.{ℕ, ◌+◌, ◌-◌, ◌*◌, ◌/◌, ◌%◌, ◌^◌, ◌≤◌, ◌<◌}
use native.Mathlib.Nat.{mod-lt}
use lib.Pow.{pow_pos}
use native.Mathlib.Omega.{arith}
use lib.ListN.{length, get_or, take}
use lib.Seq.{length-take-le}
use Rattle.lists.proofs.Parts.{flat_ext}
use Rattle.texels.specs.declared.TexelFormat.{TexelFormat}
use Rattle.texels.specs.declared.TexelFormat.TheVariants.{Alpha, Luminance, LuminanceAlpha, Rgb, Rgba, Rgb565, Rgba4444, Rgba5551}
use Rattle.texels.specs.Image.{image}
use Rattle.texels.specs.Texels.{nth_texel}
use Rattle.palette_images.specs.Paletted.{row_bytes, palette_bytes, index_in, index_at, paletted_texel, paletted_image, Entries, entry, entry_at}

pub index_small : (b byte x : ℕ) → index_in b byte x < 2 ^ b
index_small b byte x = mod-lt (byte / 2 ^ (8 - b - x * b % 8)) (pow_pos b)

-- a decoded entry is the texel of that number
entry_texel : (t : TexelFormat) (s : List ℕ) (table : List (List ℕ)) (i : ℕ) → get_or table i [] ≡ nth_texel t s i → entry table i ≡ nth_texel t s i
unfolding nth_texel
entry_texel Alpha s table i e = rw e
entry_texel Luminance s table i e = rw e
entry_texel LuminanceAlpha s table i e = rw e
entry_texel Rgb s table i e = rw e
entry_texel Rgba s table i e = rw e
entry_texel Rgb565 s table i e = rw e
entry_texel Rgba4444 s table i e = rw e
entry_texel Rgba5551 s table i e = rw e

-- so the image of the decoded palette is the paletted image
pub table_image : (b : ℕ) (t : TexelFormat) (w high : ℕ) (s : List ℕ) (table : List (List ℕ)) → Entries t s (2 ^ b) table
    → image w high (λ x y. entry_at b table s (palette_bytes b t + y * row_bytes b w) x) ≡ paletted_image b t w high s
unfolding image paletted_image paletted_texel entry_at index_at
table_image b t w high s table e =
    flat_ext _ _ high (λ y hy. flat_ext _ _ w (λ x hx.
    let at = palette_bytes b t + y * row_bytes b w in
    entry_texel t s table (index_at b s at x) (e (index_at b s at x) (index_small b (get_or s (at + x * b / 8) 0) x))))

pub entry_four : (b : ℕ) (table : List (List ℕ)) (s : List ℕ) (at x : ℕ) → length (entry_at b table s at x) ≡ 4
unfolding entry_at
entry_four b table s at x = refl

-- a loop past the first n of a list has come to n
pub past_taken : {A : Type 0} (n i : ℕ) (l : List A) → length (take n l) ≤ i → n ≤ length l → n ≤ i
past_taken n i l h k = omega (arith, length-take-le n l k)
