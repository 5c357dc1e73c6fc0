-- Blocks of four by four texels: the colours and the alphas of a block whose bytes stand in s from `at` on, row by row.
use Rattle.std.specs.Prelude.{Bool, true, false, cond, List, [], ◌∷◌, ℕ, ◌+◌, get_or}
use Rattle.lists.specs.Lists.{tab}
use Rattle.alpha_blocks.specs.AlphaBlocks.{explicit_alpha, interpolated_alpha}
use Rattle.colour_blocks.specs.ColourBlocks.{dxt, atc, dxt1_alpha}
use Rattle.blocks.specs.declared.Block.{Block}
use Rattle.blocks.specs.declared.Alphas.{Alphas}
use Rattle.blocks.specs.declared.Alphas.TheVariants.{Opaque, Selected, Explicit, Interpolated}
use Rattle.blocks.specs.declared.Block.TheVariants.{Dxt1Rgb, Dxt1Rgba, Dxt3, Dxt5, AtcRgb, AtcExplicit, AtcInterpolated}

-- texture.rs, decode_compressed_to_rgba: alpha of a format that has none, there GL_ATC_RGB_AMD, by 2026-02 RGB_S3TC_DXT1 too
unfoldable pub opaque : List ℕ
opaque = tab 16 (λ i. 255)

-- texture.rs, compressed_image_size: the bytes of a block. Dxt3 and Dxt5: EXT_texture_compression_s3tc, 128 bits a block (2026-14)
abbrev pub block_bytes : Block → ℕ
block_bytes Dxt1Rgb = 8
block_bytes Dxt1Rgba = 8
block_bytes Dxt3 = 16
block_bytes Dxt5 = 16
block_bytes AtcRgb = 8
block_bytes AtcExplicit = 16
block_bytes AtcInterpolated = 16

-- texture.rs, decode_compressed_to_rgba: a block of sixteen bytes has its alphas first. So have Dxt3 and Dxt5 (2026-14)
abbrev pub alpha_bytes : Block → ℕ
alpha_bytes Dxt1Rgb = 0
alpha_bytes Dxt1Rgba = 0
alpha_bytes Dxt3 = 8
alpha_bytes Dxt5 = 8
alpha_bytes AtcRgb = 0
alpha_bytes AtcExplicit = 8
alpha_bytes AtcInterpolated = 8

-- texture.rs, decode_compressed_to_rgba: colours are DXT's or ATC's. Dxt3 and Dxt5: EXT_texture_compression_s3tc (2026-14)
abbrev pub is_dxt : Block → Bool
is_dxt Dxt1Rgb = true
is_dxt Dxt1Rgba = true
is_dxt Dxt3 = true
is_dxt Dxt5 = true
is_dxt AtcRgb = false
is_dxt AtcExplicit = false
is_dxt AtcInterpolated = false

-- EXT_texture_compression_s3tc, RGBA_S3TC_DXT3 and RGBA_S3TC_DXT5: four colours, whatever the endpoints' order (2026-14)
abbrev pub always_four : Block → Bool
always_four Dxt1Rgb = false
always_four Dxt1Rgba = false
always_four Dxt3 = true
always_four Dxt5 = true
always_four AtcRgb = false
always_four AtcExplicit = false
always_four AtcInterpolated = false

-- texture.rs, decode_compressed_to_rgba: the colours in the eight bytes of s from `at` on
abbrev pub colours_in : Block → List ℕ → ℕ → List (List ℕ)
colours_in b s at = cond (is_dxt b) (dxt (always_four b) s at) (atc s at)

-- texture.rs, decode_compressed_to_rgba: a block's colours follow its alphas
abbrev pub block_rgb : Block → List ℕ → ℕ → List (List ℕ)
block_rgb b s at = cond (is_dxt b) (dxt (always_four b) s (at + alpha_bytes b)) (atc s (at + alpha_bytes b))

-- EXT_texture_compression_s3tc, RGB_S3TC_DXT1: it has no alpha, so its black is opaque (2026-02). RGBA_S3TC_DXT3: four bits a
-- texel; RGBA_S3TC_DXT5: two alphas and those between, as ATC has them (2026-14). The others: texture.rs, decode_compressed_to_rgba
abbrev pub alphas_of : Block → Alphas
alphas_of Dxt1Rgb = Opaque
alphas_of Dxt1Rgba = Selected
alphas_of Dxt3 = Explicit
alphas_of Dxt5 = Interpolated
alphas_of AtcRgb = Opaque
alphas_of AtcExplicit = Explicit
alphas_of AtcInterpolated = Interpolated

-- texture.rs, decode_compressed_to_rgba: the alphas of a block, by how they are read
abbrev pub alphas_in : Alphas → List ℕ → ℕ → List ℕ
alphas_in Opaque s at = opaque
alphas_in Selected s at = dxt1_alpha s at
alphas_in Explicit s at = explicit_alpha s at
alphas_in Interpolated s at = interpolated_alpha s at

-- texture.rs, decode_compressed_to_rgba: a block's alphas come first, or stand in its colours
abbrev pub block_alpha : Block → List ℕ → ℕ → List ℕ
block_alpha b s at = alphas_in (alphas_of b) s at

-- a texel of a block: its colour, then its alpha
abbrev pub texel_of : List ℕ → ℕ → List ℕ
texel_of c alpha = get_or c 0 0 ∷ get_or c 1 0 ∷ get_or c 2 0 ∷ alpha ∷ []

abbrev pub texel_from : List (List ℕ) → List ℕ → ℕ → List ℕ
texel_from rgb alpha i = texel_of (get_or rgb i []) (get_or alpha i 0)

unfoldable pub block_texel : Block → List ℕ → ℕ → ℕ → List ℕ
block_texel b s at i = texel_from (block_rgb b s at) (block_alpha b s at) i
