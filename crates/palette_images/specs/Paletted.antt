-- Paletted images, over the width b of an index in bits and the kind t of an entry: 2 to the b entries, then the rows of indices.
use Rattle.std.specs.Prelude.{List, [], ◌∷◌, ◌≡◌, ℕ, ◌+◌, ◌-◌, ◌*◌, ◌/◌, ◌%◌, ◌^◌, ◌<◌, get_or}
use Rattle.texels.specs.declared.TexelFormat.{TexelFormat}
use Rattle.texels.specs.Image.{image}
use Rattle.texels.specs.Texels.{texel_bytes, nth_texel}
use Rattle.palette_images.specs.declared.IndexBits.{IndexBits}
use Rattle.palette_images.specs.declared.IndexBits.TheVariants.{One, Two, Four, Eight}

-- the widths of an index that divide a byte's
abbrev pub index_bits : IndexBits → ℕ
index_bits One = 1
index_bits Two = 2
index_bits Four = 4
index_bits Eight = 8

-- document 01, Corners, for OES_compressed_paletted_texture: a row starts on a whole byte
abbrev pub row_bytes : ℕ → ℕ → ℕ
row_bytes b w = (w * b + 7) / 8

abbrev pub palette_bytes : ℕ → TexelFormat → ℕ
palette_bytes b t = 2 ^ b * texel_bytes t

-- texture.rs, compressed_image_size: the palette, then h rows
abbrev pub paletted_bytes : ℕ → TexelFormat → ℕ → ℕ → ℕ
paletted_bytes b t w h = palette_bytes b t + h * row_bytes b w

-- OES_compressed_paletted_texture: of the indices in a byte the first has the highest bits
abbrev pub index_in : ℕ → ℕ → ℕ → ℕ
index_in b byte x = byte / 2 ^ (8 - b - x * b % 8) % 2 ^ b

-- the x-th index of the row whose bytes stand in s from `at` on
unfoldable pub index_at : ℕ → List ℕ → ℕ → ℕ → ℕ
index_at b s at x = index_in b (get_or s (at + x * b / 8) 0) x

-- texture.rs, decode_paletted: the texel at (x, y) is the palette's entry of its index
unfoldable pub paletted_texel : ℕ → TexelFormat → ℕ → List ℕ → ℕ → ℕ → List ℕ
paletted_texel b t w s x y = nth_texel t s (index_at b s (palette_bytes b t + y * row_bytes b w) x)

unfoldable pub paletted_image : ℕ → TexelFormat → ℕ → ℕ → List ℕ → List ℕ
paletted_image b t w h s = image w h (paletted_texel b t w s)

-- The palette as the code holds it, its entries decoded.

abbrev pub Entries : TexelFormat → List ℕ → ℕ → List (List ℕ) → Type 0
Entries t s n table = (i : ℕ) → i < n → get_or table i [] ≡ nth_texel t s i

abbrev pub entry : List (List ℕ) → ℕ → List ℕ
entry table i =
    get_or (get_or table i []) 0 0
    ∷ get_or (get_or table i []) 1 0
    ∷ get_or (get_or table i []) 2 0
    ∷ get_or (get_or table i []) 3 0
    ∷ []

-- the x-th texel of the row whose indices stand in s from `at` on
unfoldable pub entry_at : ℕ → List (List ℕ) → List ℕ → ℕ → ℕ → List ℕ
entry_at b table s at x = entry table (index_at b s at x)

-- the image whose rows of indices stand in s from `start` on
abbrev pub indexed_image : ℕ → List (List ℕ) → ℕ → ℕ → List ℕ → ℕ → List ℕ
indexed_image b table w h s start = image w h (λ x y. entry_at b table s (start + y * row_bytes b w) x)
