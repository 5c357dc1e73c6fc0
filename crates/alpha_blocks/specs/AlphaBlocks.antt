-- The alphas of a block of four by four texels that has them apart, in s from `at` on, row by row; mixtures and selectors, which colours have too.
use Rattle.std.specs.Prelude.{cond, List, [], ◌∷◌, ℕ, ◌+◌, ◌-◌, ◌*◌, ◌/◌, ◌%◌, ◌^◌, ◌<◌, ltb, get_or}
use Rattle.lists.specs.Lists.{tab}
use Rattle.texels.specs.Texels.{expand4, half}

-- document 01: divisions round down. k n-ths of the way from a to b
abbrev pub mixed : ℕ → ℕ → ℕ → ℕ → ℕ
mixed k n a b = ((n - k) * a + k * b) / n

-- EXT_texture_compression_s3tc: the i-th of a run of selectors of k bits, the lowest bits first
abbrev pub selector : ℕ → ℕ → ℕ → ℕ
selector k bits i = bits / 2 ^ (k * i) % 2 ^ k

-- four bytes and six, the lowest first
abbrev pub word : List ℕ → ℕ → ℕ
word s at = half s at + half s (at + 2) * 65536

abbrev pub six_bytes : List ℕ → ℕ → ℕ
six_bytes s at = word s at + half s (at + 4) * 4294967296

-- three bytes, the lowest first: half of the selectors of an alpha block
abbrev pub three_bytes : List ℕ → ℕ → ℕ
three_bytes s at = half s at + get_or s (at + 2) 0 * 65536

-- texture.rs, decode_compressed_to_rgba, GL_ATC_RGBA_EXPLICIT_ALPHA_AMD: four bits a texel, the low half of a byte first
unfoldable pub explicit_alpha : List ℕ → ℕ → List ℕ
explicit_alpha s at = tab 16 (λ i. expand4 (get_or s (at + i / 2) 0 / 2 ^ (4 * (i % 2))))

-- texture.rs, interpolated_alpha_block: a0 > a1 has six alphas between, else there are four, 0 and 255
unfoldable pub alpha_palette : ℕ → ℕ → List ℕ
alpha_palette a0 a1 =
    cond (ltb a1 a0)
    (a0
    ∷ a1
    ∷ mixed 1 7 a0 a1
    ∷ mixed 2 7 a0 a1
    ∷ mixed 3 7 a0 a1
    ∷ mixed 4 7 a0 a1
    ∷ mixed 5 7 a0 a1
    ∷ mixed 6 7 a0 a1
    ∷ [])
    (a0 ∷ a1 ∷ mixed 1 5 a0 a1 ∷ mixed 2 5 a0 a1 ∷ mixed 3 5 a0 a1 ∷ mixed 4 5 a0 a1 ∷ 0 ∷ 255 ∷ [])

-- texture.rs, interpolated_alpha_block: sixteen selectors of three bits in six bytes
unfoldable pub alpha_selectors : List ℕ → ℕ → List ℕ
alpha_selectors s at = tab 16 (selector 3 (six_bytes s at))

-- texture.rs, interpolated_alpha_block
unfoldable pub interpolated_alpha : List ℕ → ℕ → List ℕ
interpolated_alpha s at =
    tab 16 (λ i. get_or (alpha_palette (get_or s at 0) (get_or s (at + 1) 0)) (get_or (alpha_selectors s (at + 2)) i 0) 0)

-- what the choice from eight alphas asks of its selectors
abbrev pub ThreeBits : List ℕ → Type 0
ThreeBits l = (i : ℕ) → get_or l i 0 < 8
