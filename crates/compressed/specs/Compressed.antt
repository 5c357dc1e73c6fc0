-- Compressed images: which format codes are known, how many bytes an image takes, what it decodes to, and the refusals in their order.
use Rattle.std.specs.Prelude.{Bool, true, false, cond, List, [], ℕ, ◌*◌, eqb, ltb, length, Option, Some, None, Result, Ok, Err}
use Rattle.consts.specs.Codes.{GL_PALETTE4_RGB8_OES, GL_PALETTE4_RGBA8_OES, GL_PALETTE4_R5_G6_B5_OES, GL_PALETTE4_RGBA4_OES, GL_PALETTE4_RGB5_A1_OES, GL_PALETTE8_RGB8_OES, GL_PALETTE8_RGBA8_OES, GL_PALETTE8_R5_G6_B5_OES, GL_PALETTE8_RGBA4_OES, GL_PALETTE8_RGB5_A1_OES, GL_ATC_RGB_AMD, GL_ATC_RGBA_EXPLICIT_ALPHA_AMD, GL_ATC_RGBA_INTERPOLATED_ALPHA_AMD, GL_COMPRESSED_RGB_S3TC_DXT1_EXT, GL_COMPRESSED_RGBA_S3TC_DXT1_EXT, GL_COMPRESSED_RGBA_S3TC_DXT3_EXT, GL_COMPRESSED_RGBA_S3TC_DXT5_EXT}
use Rattle.answers.specs.declared.Refusal.{Refusal}
use Rattle.texels.specs.Image.{side_above}
use Rattle.texels.specs.declared.TexelFormat.TheVariants.{Rgb, Rgba, Rgb565, Rgba4444, Rgba5551}
use Rattle.blocks.specs.declared.Block.TheVariants.{Dxt1Rgb, Dxt1Rgba, Dxt3, Dxt5, AtcRgb, AtcExplicit, AtcInterpolated}
use Rattle.blocks.specs.Blocks.{block_bytes, block_texel}
use Rattle.block_images.specs.Walk.{blocks_over, block_image}
use Rattle.palette_images.specs.declared.IndexBits.TheVariants.{Four, Eight}
use Rattle.palette_images.specs.Paletted.{index_bits, paletted_bytes, paletted_image}
use Rattle.compressed.specs.declared.Compressed.{Compressed}
use Rattle.compressed.specs.declared.Compressed.TheVariants.{Blocks, Palette}

-- OES_compressed_paletted_texture, New Tokens
unfoldable pub palette_of : ℕ → Option Compressed
palette_of format =
    cond (eqb format GL_PALETTE4_RGB8_OES) (Some (Palette Four Rgb))
    (cond (eqb format GL_PALETTE4_RGBA8_OES) (Some (Palette Four Rgba))
    (cond (eqb format GL_PALETTE4_R5_G6_B5_OES) (Some (Palette Four Rgb565))
    (cond (eqb format GL_PALETTE4_RGBA4_OES) (Some (Palette Four Rgba4444))
    (cond (eqb format GL_PALETTE4_RGB5_A1_OES) (Some (Palette Four Rgba5551))
    (cond (eqb format GL_PALETTE8_RGB8_OES) (Some (Palette Eight Rgb))
    (cond (eqb format GL_PALETTE8_RGBA8_OES) (Some (Palette Eight Rgba))
    (cond (eqb format GL_PALETTE8_R5_G6_B5_OES) (Some (Palette Eight Rgb565))
    (cond (eqb format GL_PALETTE8_RGBA4_OES) (Some (Palette Eight Rgba4444))
    (cond (eqb format GL_PALETTE8_RGB5_A1_OES) (Some (Palette Eight Rgba5551)) None)))))))))

-- texture.rs, compressed_image_size: the codes of blocks, then those of palettes. DXT3 and DXT5: EXT_texture_compression_s3tc,
-- New Tokens (2026-14)
unfoldable pub compressed_of : ℕ → Option Compressed
compressed_of format =
    cond (eqb format GL_COMPRESSED_RGB_S3TC_DXT1_EXT) (Some (Blocks Dxt1Rgb))
    (cond (eqb format GL_COMPRESSED_RGBA_S3TC_DXT1_EXT) (Some (Blocks Dxt1Rgba))
    (cond (eqb format GL_COMPRESSED_RGBA_S3TC_DXT3_EXT) (Some (Blocks Dxt3))
    (cond (eqb format GL_COMPRESSED_RGBA_S3TC_DXT5_EXT) (Some (Blocks Dxt5))
    (cond (eqb format GL_ATC_RGB_AMD) (Some (Blocks AtcRgb))
    (cond (eqb format GL_ATC_RGBA_EXPLICIT_ALPHA_AMD) (Some (Blocks AtcExplicit))
    (cond (eqb format GL_ATC_RGBA_INTERPOLATED_ALPHA_AMD) (Some (Blocks AtcInterpolated)) (palette_of format)))))))

abbrev pub is_unknown : Option Compressed → Bool
is_unknown (Some f) = false
is_unknown None = true

-- texture.rs, compressed_image_size
unfoldable pub size_of : Option Compressed → ℕ → ℕ → ℕ
size_of (Some (Blocks b)) w h = blocks_over h * blocks_over w * block_bytes b
size_of (Some (Palette b t)) w h = paletted_bytes (index_bits b) t w h
size_of None w h = 0

-- document 01, Size query: 9, 14. A zero side has no shortcut
unfoldable pub size_check : Option Compressed → ℕ → ℕ → ℕ
size_check f w h = cond (side_above w h) 9 (cond (is_unknown f) 14 0)

-- the size that a size query answers, 0 where it is refused
abbrev pub sized_bytes : Result ℕ Refusal → ℕ
sized_bytes (Ok n) = n
sized_bytes (Err why) = 0

unfoldable pub size_answered : Option Compressed → ℕ → ℕ → ℕ
size_answered f w h = cond (eqb (size_check f w h) 0) (size_of f w h) 0

-- texture.rs, decode_compressed_to_rgba
unfoldable pub compressed_image : Option Compressed → ℕ → ℕ → List ℕ → List ℕ
compressed_image (Some (Blocks b)) w h s = block_image (block_texel b) (block_bytes b) w h s
compressed_image (Some (Palette b t)) w h s = paletted_image (index_bits b) t w h s
compressed_image None w h s = []

abbrev pub zero_side : ℕ → ℕ → Bool
zero_side w h = cond (eqb w 0) true (eqb h 0)

-- document 01, Decode compressed: 9; zero side, then 15 or done; 14; 11; 15. n bytes of data, m bytes of output
unfoldable pub known_check : Option Compressed → ℕ → ℕ → ℕ → ℕ → ℕ
known_check f w h n m =
    cond (is_unknown f) 14 (cond (ltb n (size_of f w h)) 11 (cond (eqb m (h * w * 4)) 0 15))

-- the output of a zero side is to have no bytes
unfoldable pub empty_check : ℕ → ℕ
empty_check m = cond (eqb m 0) 0 15

unfoldable pub compressed_check : Option Compressed → ℕ → ℕ → ℕ → ℕ → ℕ
compressed_check f w h n m =
    cond (side_above w h) 9 (cond (zero_side w h) (empty_check m) (known_check f w h n m))

-- what stands in the output afterwards: nothing for a zero side, the image, or what stood there before
unfoldable pub known_left : Option Compressed → ℕ → ℕ → List ℕ → List ℕ → List ℕ
known_left f w h s out = cond (eqb (known_check f w h (length s) (length out)) 0) (compressed_image f w h s) out

unfoldable pub compressed_left : Option Compressed → ℕ → ℕ → List ℕ → List ℕ → List ℕ
compressed_left f w h s out =
    cond (eqb (compressed_check f w h (length s) (length out)) 0)
    (cond (zero_side w h) [] (compressed_image f w h s))
    out
