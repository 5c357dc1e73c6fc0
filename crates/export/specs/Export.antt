-- The colours as 5-6-5, two bytes a pixel, low byte first.
use Rattle.std.specs.Prelude.{ℕ, ◌+◌, ◌*◌, ◌/◌, ◌%◌, min, cond, List, [], ◌∷◌, ◌++◌, eqb, length, get_or, drop}
use Rattle.lists.specs.Lists.{flat}
use Rattle.scissor.specs.Check.{target_fits}

-- five bits of red, six of green, five of blue
abbrev pub packed : ℕ → ℕ → ℕ → ℕ
packed r g b = r / 8 * 2048 + g / 4 * 32 + b / 8

abbrev pub bytes_of : ℕ → List ℕ
bytes_of v = v % 256 ∷ v / 256 ∷ []

-- the two bytes of pixel p
unfoldable pub rgb565_at : List ℕ → ℕ → List ℕ
rgb565_at colors p = bytes_of (packed (get_or colors (p * 4) 0) (get_or colors (p * 4 + 1) 0) (get_or colors (p * 4 + 2) 0))

-- as many pixels as there are and as pairs of bytes fit; the rest of the output as found
unfoldable pub exported_of : ℕ → List ℕ → List ℕ → List ℕ
exported_of pixels colors out =
    let n = min pixels (length out / 2) in
    flat n (rgb565_at colors) ++ drop (n * 2) out

-- Document 01, 565 export: 1
unfoldable pub export_check : ℕ → ℕ → ℕ → ℕ → ℕ
export_check width height colors depths = cond (target_fits width height colors depths) 0 1

-- raster.rs, to_rgb565: the output it leaves, refused or done
unfoldable pub rgb565_of : ℕ → ℕ → ℕ → List ℕ → List ℕ → List ℕ
rgb565_of width height depths colors out =
    cond (eqb (export_check width height (length colors) depths) 0) (exported_of (width * height) colors out) out
