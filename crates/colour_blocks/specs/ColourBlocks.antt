-- The colours of a block of four by four texels, in the eight bytes of s from `at` on, row by row; and DXT1's alphas, which stand among them.
use Rattle.std.specs.Prelude.{Bool, true, cond, List, [], ◌∷◌, ℕ, ◌+◌, ◌-◌, ◌/◌, eqb, ltb, get_or}
use Rattle.lists.specs.Lists.{tab}
use Rattle.texels.specs.Texels.{expand5, rgb565, half}
use Rattle.alpha_blocks.specs.AlphaBlocks.{mixed, selector, word}

-- a mixture for each of three channels
abbrev pub mixed3 : ℕ → ℕ → List ℕ → List ℕ → List ℕ
mixed3 k n a b =
    mixed k n (get_or a 0 0) (get_or b 0 0)
    ∷ mixed k n (get_or a 1 0) (get_or b 1 0)
    ∷ mixed k n (get_or a 2 0) (get_or b 2 0)
    ∷ []

-- texture.rs, atc_rgb_block: the first endpoint is 5-5-5, its top bit the mode
abbrev pub rgb555 : ℕ → List ℕ
rgb555 c = expand5 (c / 1024) ∷ expand5 (c / 32) ∷ expand5 c ∷ []

abbrev pub black : List ℕ
black = 0 ∷ 0 ∷ 0 ∷ []

-- EXT_texture_compression_s3tc, RGB_S3TC_DXT1: color0 > color1 has two colours between, else there is the mean and black;
-- RGBA_S3TC_DXT3 and RGBA_S3TC_DXT5 always have the four, whatever the endpoints' order (2026-14)
unfoldable pub dxt_palette : Bool → ℕ → ℕ → List (List ℕ)
dxt_palette always c0 c1 =
    cond (cond always true (ltb c1 c0))
    (rgb565 c0
    ∷ rgb565 c1
    ∷ mixed3 1 3 (rgb565 c0) (rgb565 c1)
    ∷ mixed3 2 3 (rgb565 c0) (rgb565 c1)
    ∷ [])
    (rgb565 c0 ∷ rgb565 c1 ∷ mixed3 1 2 (rgb565 c0) (rgb565 c1) ∷ black ∷ [])

-- texture.rs, atc_rgb_block, mode 1: a less a quarter of b, at least 0
abbrev pub less_quarter : ℕ → ℕ → ℕ
less_quarter a b = a - b / 4

abbrev pub less_quarter3 : List ℕ → List ℕ → List ℕ
less_quarter3 a b =
    less_quarter (get_or a 0 0) (get_or b 0 0)
    ∷ less_quarter (get_or a 1 0) (get_or b 1 0)
    ∷ less_quarter (get_or a 2 0) (get_or b 2 0)
    ∷ []

-- texture.rs, atc_rgb_block: mode 0 has two colours between, mode 1 black and the first colour less a quarter
unfoldable pub atc_palette : ℕ → ℕ → List (List ℕ)
atc_palette c0 c1 =
    cond (ltb c0 32768)
    (rgb555 c0
    ∷ mixed3 3 8 (rgb555 c0) (rgb565 c1)
    ∷ mixed3 5 8 (rgb555 c0) (rgb565 c1)
    ∷ rgb565 c1
    ∷ [])
    (black ∷ less_quarter3 (rgb555 c0) (rgb565 c1) ∷ rgb555 c0 ∷ rgb565 c1 ∷ [])

-- sixteen texels chosen from a palette by selectors of two bits
unfoldable pub chosen : List (List ℕ) → ℕ → List (List ℕ)
chosen palette bits = tab 16 (λ i. get_or palette (selector 2 bits i) [])

-- EXT_texture_compression_s3tc: two endpoints, then sixteen selectors
unfoldable pub dxt : Bool → List ℕ → ℕ → List (List ℕ)
dxt always s at = chosen (dxt_palette always (half s at) (half s (at + 2))) (word s (at + 4))

-- texture.rs, atc_rgb_block
unfoldable pub atc : List ℕ → ℕ → List (List ℕ)
atc s at = chosen (atc_palette (half s at) (half s (at + 2))) (word s (at + 4))

-- document 01, Corners: alpha is 0 exactly if c0 <= c1 and the selector is 3; by 2026-02 for RGBA_S3TC_DXT1 only
unfoldable pub dxt1_alpha_of : ℕ → ℕ → ℕ → ℕ
dxt1_alpha_of c0 c1 sel = cond (ltb c1 c0) 255 (cond (eqb sel 3) 0 255)

unfoldable pub dxt1_alpha : List ℕ → ℕ → List ℕ
dxt1_alpha s at = tab 16 (λ i. dxt1_alpha_of (half s at) (half s (at + 2)) (selector 2 (word s (at + 4)) i))
