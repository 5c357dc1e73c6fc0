-- Texels of bytes and packed texels: which pairs of format and type are known, how wide a texel is, and what it decodes to.
use Rattle.std.specs.Prelude.{cond, List, [], ◌∷◌, ℕ, ◌+◌, ◌-◌, ◌*◌, ◌/◌, ◌%◌, ◌^◌, eqb, get_or, Option, Some, None}
use Rattle.consts.specs.Codes.{GL_UNSIGNED_BYTE, GL_ALPHA, GL_RGB, GL_RGBA, GL_LUMINANCE, GL_LUMINANCE_ALPHA, GL_UNSIGNED_SHORT_4_4_4_4, GL_UNSIGNED_SHORT_5_5_5_1, GL_UNSIGNED_SHORT_5_6_5}
use Rattle.texels.specs.declared.TexelFormat.{TexelFormat}
use Rattle.texels.specs.declared.TexelFormat.TheVariants.{Alpha, Luminance, LuminanceAlpha, Rgb, Rgba, Rgb565, Rgba4444, Rgba5551}

-- texture.rs, expand4, expand5 and expand6: a channel of 4, 5 or 6 bits as eight, its high bits again below
abbrev pub expand4 : ℕ → ℕ
expand4 v = v % 16 * 16 + v % 16

abbrev pub expand5 : ℕ → ℕ
expand5 v = v % 32 * 8 + v % 32 / 4

abbrev pub expand6 : ℕ → ℕ
expand6 v = v % 64 * 4 + v % 64 / 16

-- the same of n bits: they stand highest in a byte, and again below
abbrev pub expand : ℕ → ℕ → ℕ
expand n v = v * 2 ^ (8 - n) % 256 + v * 2 ^ (8 - n) % 256 / 2 ^ n

-- texture.rs, decode_to_rgba: a packed texel is two bytes, the low one first
abbrev pub half : List ℕ → ℕ → ℕ
half s at = get_or s at 0 + get_or s (at + 1) 0 * 256

-- EXT_texture_compression_s3tc, and texture.rs, decode_to_rgba: a 5-6-5 colour
abbrev pub rgb565 : ℕ → List ℕ
rgb565 p = expand5 (p / 2048) ∷ expand6 (p / 32) ∷ expand5 p ∷ []

-- a colour of five bits of red and of blue, and g of green between them
abbrev pub rgb : ℕ → ℕ → List ℕ
rgb g p = expand 5 (p / 32 / 2 ^ g) ∷ expand g (p / 32) ∷ expand 5 p ∷ []

-- texture.rs, decode_to_rgba, GL_UNSIGNED_SHORT_5_6_5
abbrev pub rgba565 : ℕ → List ℕ
rgba565 p = expand5 (p / 2048) ∷ expand6 (p / 32) ∷ expand5 p ∷ 255 ∷ []

-- texture.rs, decode_to_rgba, GL_UNSIGNED_SHORT_4_4_4_4
abbrev pub rgba4444 : ℕ → List ℕ
rgba4444 p = expand4 (p / 4096) ∷ expand4 (p / 256) ∷ expand4 (p / 16) ∷ expand4 p ∷ []

-- texture.rs, decode_to_rgba, GL_UNSIGNED_SHORT_5_5_5_1
abbrev pub rgba5551 : ℕ → List ℕ
rgba5551 p = expand5 (p / 2048) ∷ expand5 (p / 64) ∷ expand5 (p / 2) ∷ p % 2 * 255 ∷ []

-- texture.rs, bytes_per_texel: the bytes that a texel takes
abbrev pub texel_bytes : TexelFormat → ℕ
texel_bytes Alpha = 1
texel_bytes Luminance = 1
texel_bytes LuminanceAlpha = 2
texel_bytes Rgb = 3
texel_bytes Rgba = 4
texel_bytes Rgb565 = 2
texel_bytes Rgba4444 = 2
texel_bytes Rgba5551 = 2

-- texture.rs, decode_to_rgba: the texel whose bytes stand in s from `at` on
abbrev pub texel_at : TexelFormat → List ℕ → ℕ → List ℕ
texel_at Alpha s at = 255 ∷ 255 ∷ 255 ∷ get_or s at 0 ∷ []
texel_at Luminance s at = get_or s at 0 ∷ get_or s at 0 ∷ get_or s at 0 ∷ 255 ∷ []
texel_at LuminanceAlpha s at = get_or s at 0 ∷ get_or s at 0 ∷ get_or s at 0 ∷ get_or s (at + 1) 0 ∷ []
texel_at Rgb s at = get_or s at 0 ∷ get_or s (at + 1) 0 ∷ get_or s (at + 2) 0 ∷ 255 ∷ []
texel_at Rgba s at = get_or s at 0 ∷ get_or s (at + 1) 0 ∷ get_or s (at + 2) 0 ∷ get_or s (at + 3) 0 ∷ []
texel_at Rgb565 s at = rgba565 (half s at)
texel_at Rgba4444 s at = rgba4444 (half s at)
texel_at Rgba5551 s at = rgba5551 (half s at)

-- the i-th texel of a list of them, whatever its width
unfoldable pub nth_texel : TexelFormat → List ℕ → ℕ → List ℕ
nth_texel t s i = texel_at t s (i * texel_bytes t)

-- texture.rs, bytes_per_texel: the five base formats of bytes
unfoldable pub byte_format : ℕ → Option TexelFormat
byte_format format =
    cond (eqb format GL_ALPHA) (Some Alpha)
    (cond (eqb format GL_LUMINANCE) (Some Luminance)
    (cond (eqb format GL_LUMINANCE_ALPHA) (Some LuminanceAlpha)
    (cond (eqb format GL_RGB) (Some Rgb) (cond (eqb format GL_RGBA) (Some Rgba) None))))

-- texture.rs, bytes_per_texel: a packed type is known under any format
unfoldable pub format_of : ℕ → ℕ → Option TexelFormat
format_of format ty =
    cond (eqb ty GL_UNSIGNED_SHORT_5_6_5) (Some Rgb565)
    (cond (eqb ty GL_UNSIGNED_SHORT_4_4_4_4) (Some Rgba4444)
    (cond (eqb ty GL_UNSIGNED_SHORT_5_5_5_1) (Some Rgba5551)
    (cond (eqb ty GL_UNSIGNED_BYTE) (byte_format format) None)))

-- texture.rs, bytes_per_texel: 0 where it answers None
abbrev pub format_bytes : Option TexelFormat → ℕ
format_bytes (Some t) = texel_bytes t
format_bytes None = 0
