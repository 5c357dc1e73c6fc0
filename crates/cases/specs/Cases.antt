-- The worked cases that are proved, in one list: those of document 01, and under the number of a change request those worked out for it.
-- Each is a call of a public operation: it holds if the definitions that the operation's contract cites give the number and the bytes named.
use Rattle.std.specs.Prelude.{Bool, true, false, cond, List, [], ◌∷◌, ◌++◌, ℕ, ◌+◌, ◌*◌, eqb, length, get_or, pos, replicate, Option, Some}
use Rattle.lists.specs.Lists.{flat}
use Rattle.texels.specs.Texels.{format_of}
use Rattle.texels.specs.Plain.{plain_check, plain_left}
use Rattle.compressed.specs.Compressed.{compressed_of, size_check, size_answered, compressed_check, compressed_left}
use Rattle.levels.specs.declared.MipLevel.{MipLevel}
use Rattle.levels.specs.Levels.{level_at, size_of, new_texture}
use Rattle.texture.specs.Define.{Outcome, outcome, define_of}
use Rattle.settings.specs.declared.ScissorBox.{ScissorBox}
use Rattle.render_target.specs.Clear.{clear_color_check, clear_color_of}

pub data Case : Type 0 where
  -- decode plain, done, of one texel: a format, a type, its bytes; its red, green, blue and alpha
  texel : ℕ → ℕ → List ℕ → List ℕ → Case
  -- decode compressed, done, of four by four texels: a format, a block's bytes; each of the sixteen texels
  block : ℕ → List ℕ → List ℕ → Case
  -- the same; the sixteen texels
  texels : ℕ → List ℕ → List ℕ → Case
  -- the same, of black texels in both formats that interpolate alphas: an alpha block's bytes; the sixteen alphas
  alphas : List ℕ → List ℕ → Case
  -- the same, of an alpha block whose ends are 255 and 0: the six bytes after them; the sixteen selectors
  selectors : List ℕ → List ℕ → Case
  -- decode compressed: a format, width, height, the data, what stands in the output; the number, what stands there afterwards
  answered : ℕ → ℕ → ℕ → List ℕ → List ℕ → ℕ → List ℕ → Case
  -- size query: a format, width, height; the number, the bytes of the image
  size : ℕ → ℕ → ℕ → ℕ → ℕ → Case
  -- clear colour, done: a target's width and height, a box; its pixels row by row, 1 cleared and 0 as before
  cleared : ℕ → ℕ → Option ScissorBox → List ℕ → Case
  -- define, done for level 0, then 1, and so on, from a new record: the store's length, the levels; the record's top level
  top : ℕ → List MipLevel → ℕ → Case

abbrev pub same : List ℕ → List ℕ → Bool
same [] [] = true
same [] (y ∷ ys) = false
same (x ∷ xs) [] = false
same (x ∷ xs) (y ∷ ys) = cond (eqb x y) (same xs ys) false

-- what decode_to_rgba answers and leaves
abbrev pub plain : ℕ → ℕ → ℕ → ℕ → List ℕ → List ℕ → ℕ → List ℕ → Bool
plain format ty w h s out number left =
    cond (eqb (plain_check (format_of format ty) w h (length s) (length out)) number)
    (same (plain_left (format_of format ty) w h s out) left) false

-- what decode_compressed_to_rgba answers and leaves
abbrev pub compressed : ℕ → ℕ → ℕ → List ℕ → List ℕ → ℕ → List ℕ → Bool
compressed format w h s out number left =
    cond (eqb (compressed_check (compressed_of format) w h (length s) (length out)) number)
    (same (compressed_left (compressed_of format) w h s out) left) false

-- four by four texels, over an output of sevens
abbrev pub decoded : ℕ → List ℕ → List ℕ → Bool
decoded format bytes left = compressed format 4 4 bytes (replicate 64 7) 0 left

-- alphas, then colours that are all black: ATC and DXT5
abbrev pub black : List ℕ → List ℕ → Bool
black bytes left = cond (decoded 0x87EE (bytes ++ replicate 8 0) left) (decoded 0x83F3 (bytes ++ replicate 8 0) left) false

-- EXT_texture_compression_s3tc, alphas of falling ends: those of 255 and 0, by the selector
unfoldable pub ramp : List ℕ
ramp = 255 ∷ 0 ∷ 218 ∷ 182 ∷ 145 ∷ 109 ∷ 72 ∷ 36 ∷ []

-- what define_level leaves of level k and those after it, as far as it is done
unfoldable pub defined : ℕ → Outcome → List MipLevel → Outcome
defined k o [] = o
defined k o (m ∷ ms) =
    cond (eqb o.answer 0)
    (defined (k + 1) (define_of o.store o.texture k m.width m.height m.place (replicate (size_of m) k)) ms) o

abbrev pub is_top : Outcome → ℕ → Bool
is_top o want = cond (eqb o.answer 0) (eqb o.texture.max_mipmap_level want) false

unfoldable pub holds : Case → Bool
holds (texel format ty bytes want) = plain format ty 1 1 bytes (replicate 4 7) 0 want
holds (block format bytes want) = decoded format bytes (flat 16 (λ i. want))
holds (texels format bytes want) = decoded format bytes want
holds (alphas bytes want) = black bytes (flat 16 (λ i. 0 ∷ 0 ∷ 0 ∷ get_or want i 0 ∷ []))
holds (selectors bytes want) = black (255 ∷ 0 ∷ bytes) (flat 16 (λ i. 0 ∷ 0 ∷ 0 ∷ get_or ramp (get_or want i 8) 0 ∷ []))
holds (answered format w h s out number left) = compressed format w h s out number left
holds (size format w h number want) = cond (eqb (size_check (compressed_of format) w h) number) (eqb (size_answered (compressed_of format) w h) want) false
holds (cleared w h s want) =
    cond (eqb (clear_color_check w h (4 * (w * h)) (w * h) s) 0)
    (same (clear_color_of w h (w * h) (1 ∷ 1 ∷ 1 ∷ 1 ∷ []) s (replicate (4 * (w * h)) 0)) (flat (w * h) (λ p. replicate 4 (get_or want p 0)))) false
holds (top n ms want) = is_top (defined 0 (outcome 0 new_texture (replicate n 0)) ms) want

unfoldable pub cases : List Case
cases =
    texel 0x1907 0x8363 (0x00 ∷ 0xF8 ∷ []) (255 ∷ 0 ∷ 0 ∷ 255 ∷ [])
    ∷ texel 0x1908 0x8033 (0x34 ∷ 0x12 ∷ []) (17 ∷ 34 ∷ 51 ∷ 68 ∷ [])
    ∷ texel 0x1908 0x8034 (0x01 ∷ 0x00 ∷ []) (0 ∷ 0 ∷ 0 ∷ 255 ∷ [])
    ∷ block 0x83F0 (0x00 ∷ 0xF8 ∷ 0x1F ∷ 0x00 ∷ 0xAA ∷ 0xAA ∷ 0xAA ∷ 0xAA ∷ []) (170 ∷ 0 ∷ 85 ∷ 255 ∷ [])
    ∷ block 0x83F1 (0x00 ∷ 0xF8 ∷ 0x1F ∷ 0x00 ∷ 0xAA ∷ 0xAA ∷ 0xAA ∷ 0xAA ∷ []) (170 ∷ 0 ∷ 85 ∷ 255 ∷ [])
    -- 2026-02: 0,0,0,255 for 83F0, and document 01's 0,0,0,0 for 83F1 only; so with equal endpoints, but not their mean, nor falling ones
    ∷ block 0x83F0 (0x1F ∷ 0x00 ∷ 0x00 ∷ 0xF8 ∷ 0xFF ∷ 0xFF ∷ 0xFF ∷ 0xFF ∷ []) (0 ∷ 0 ∷ 0 ∷ 255 ∷ [])
    ∷ block 0x83F1 (0x1F ∷ 0x00 ∷ 0x00 ∷ 0xF8 ∷ 0xFF ∷ 0xFF ∷ 0xFF ∷ 0xFF ∷ []) (0 ∷ 0 ∷ 0 ∷ 0 ∷ [])
    ∷ block 0x83F0 (0x00 ∷ 0xF8 ∷ 0x00 ∷ 0xF8 ∷ 0xFF ∷ 0xFF ∷ 0xFF ∷ 0xFF ∷ []) (0 ∷ 0 ∷ 0 ∷ 255 ∷ [])
    ∷ block 0x83F1 (0x00 ∷ 0xF8 ∷ 0x00 ∷ 0xF8 ∷ 0xFF ∷ 0xFF ∷ 0xFF ∷ 0xFF ∷ []) (0 ∷ 0 ∷ 0 ∷ 0 ∷ [])
    ∷ block 0x83F0 (0x00 ∷ 0xF8 ∷ 0x00 ∷ 0xF8 ∷ 0xAA ∷ 0xAA ∷ 0xAA ∷ 0xAA ∷ []) (255 ∷ 0 ∷ 0 ∷ 255 ∷ [])
    ∷ block 0x83F1 (0x00 ∷ 0xF8 ∷ 0x00 ∷ 0xF8 ∷ 0xAA ∷ 0xAA ∷ 0xAA ∷ 0xAA ∷ []) (255 ∷ 0 ∷ 0 ∷ 255 ∷ [])
    ∷ block 0x83F0 (0x00 ∷ 0xF8 ∷ 0x1F ∷ 0x00 ∷ 0xFF ∷ 0xFF ∷ 0xFF ∷ 0xFF ∷ []) (85 ∷ 0 ∷ 170 ∷ 255 ∷ [])
    ∷ block 0x83F1 (0x00 ∷ 0xF8 ∷ 0x1F ∷ 0x00 ∷ 0xFF ∷ 0xFF ∷ 0xFF ∷ 0xFF ∷ []) (85 ∷ 0 ∷ 170 ∷ 255 ∷ [])
    -- 2026-14: rising and equal endpoints have four colours, the low half of a byte is the first alpha, and 83F3 has ATC's alphas
    ∷ block 0x83F2 (0x77 ∷ 0x77 ∷ 0x77 ∷ 0x77 ∷ 0x77 ∷ 0x77 ∷ 0x77 ∷ 0x77 ∷ 0x1F ∷ 0x00 ∷ 0x00 ∷ 0xF8 ∷ 0xFF ∷ 0xFF ∷ 0xFF ∷ 0xFF ∷ []) (170 ∷ 0 ∷ 85 ∷ 119 ∷ [])
    ∷ texels 0x83F2 (0x10 ∷ 0x32 ∷ 0x54 ∷ 0x76 ∷ 0x98 ∷ 0xBA ∷ 0xDC ∷ 0xFE ∷ 0x1F ∷ 0x00 ∷ 0x00 ∷ 0xF8 ∷ 0xFF ∷ 0xFF ∷ 0xFF ∷ 0xFF ∷ []) (flat 16 (λ i. 170 ∷ 0 ∷ 85 ∷ 17 * i ∷ []))
    ∷ texels 0x83F2 (0xF0 ∷ 0x0F ∷ 0x00 ∷ 0x00 ∷ 0x00 ∷ 0x00 ∷ 0x00 ∷ 0x00 ∷ 0x00 ∷ 0xF8 ∷ 0x1F ∷ 0x00 ∷ 0xE4 ∷ 0xE4 ∷ 0xE4 ∷ 0xE4 ∷ [])
    ((255 ∷ 0 ∷ 0 ∷ 0 ∷ 0 ∷ 0 ∷ 255 ∷ 255 ∷ 170 ∷ 0 ∷ 85 ∷ 255 ∷ 85 ∷ 0 ∷ 170 ∷ 0 ∷ [])
    ++ flat 3 (λ i. 255 ∷ 0 ∷ 0 ∷ 0 ∷ 0 ∷ 0 ∷ 255 ∷ 0 ∷ 170 ∷ 0 ∷ 85 ∷ 0 ∷ 85 ∷ 0 ∷ 170 ∷ 0 ∷ []))
    ∷ block 0x83F3 (0xFF ∷ 0x00 ∷ 0x92 ∷ 0x24 ∷ 0x49 ∷ 0x92 ∷ 0x24 ∷ 0x49 ∷ 0x1F ∷ 0x00 ∷ 0x00 ∷ 0xF8 ∷ 0xAA ∷ 0xAA ∷ 0xAA ∷ 0xAA ∷ []) (85 ∷ 0 ∷ 170 ∷ 218 ∷ [])
    ∷ block 0x83F3 (0xFF ∷ 0x00 ∷ 0x00 ∷ 0x00 ∷ 0x00 ∷ 0x00 ∷ 0x00 ∷ 0x00 ∷ 0x00 ∷ 0xF8 ∷ 0x00 ∷ 0xF8 ∷ 0xFF ∷ 0xFF ∷ 0xFF ∷ 0xFF ∷ []) (255 ∷ 0 ∷ 0 ∷ 255 ∷ [])
    ∷ block 0x8C92 (0x00 ∷ 0x7C ∷ 0x1F ∷ 0x00 ∷ 0x55 ∷ 0x55 ∷ 0x55 ∷ 0x55 ∷ []) (159 ∷ 0 ∷ 95 ∷ 255 ∷ [])
    ∷ block 0x8C92 (0x00 ∷ 0xFC ∷ 0x00 ∷ 0xF8 ∷ 0x55 ∷ 0x55 ∷ 0x55 ∷ 0x55 ∷ []) (192 ∷ 0 ∷ 0 ∷ 255 ∷ [])
    ∷ alphas (0xFF ∷ 0x00 ∷ 0x92 ∷ 0x24 ∷ 0x49 ∷ 0x92 ∷ 0x24 ∷ 0x49 ∷ []) (replicate 16 218)
    -- 2026-04: eight selectors in three bytes; the last bit of the first half and the first bit of the second
    ∷ selectors (0x92 ∷ 0x24 ∷ 0x49 ∷ 0x92 ∷ 0x24 ∷ 0x49 ∷ []) (replicate 16 2)
    ∷ selectors (0x88 ∷ 0xC6 ∷ 0xFA ∷ 0x88 ∷ 0xC6 ∷ 0xFA ∷ [])
    (0 ∷ 1 ∷ 2 ∷ 3 ∷ 4 ∷ 5 ∷ 6 ∷ 7 ∷ 0 ∷ 1 ∷ 2 ∷ 3 ∷ 4 ∷ 5 ∷ 6 ∷ 7 ∷ [])
    ∷ selectors (0xFF ∷ 0xFF ∷ 0xFF ∷ 0x00 ∷ 0x00 ∷ 0x00 ∷ []) (replicate 8 7 ++ replicate 8 0)
    ∷ selectors (0x00 ∷ 0x00 ∷ 0x80 ∷ 0x00 ∷ 0x00 ∷ 0x00 ∷ []) (replicate 7 0 ++ 4 ∷ replicate 8 0)
    ∷ alphas (0xFF ∷ 0x00 ∷ 0x00 ∷ 0x00 ∷ 0x80 ∷ 0x00 ∷ 0x00 ∷ 0x00 ∷ []) (replicate 7 255 ++ 145 ∷ replicate 8 255)
    ∷ selectors (0x00 ∷ 0x00 ∷ 0x00 ∷ 0x01 ∷ 0x00 ∷ 0x00 ∷ []) (replicate 8 0 ++ 1 ∷ replicate 7 0)
    ∷ size 0x8B90 3 2 0 52
    ∷ size 0x83F0 5 4 0 16
    ∷ size 0x83F1 5 4 0 16
    -- 2026-14
    ∷ size 0x83F2 5 4 0 32
    ∷ size 0x83F3 5 4 0 32
    ∷ size 0x83F2 1 1 0 16
    ∷ size 0x83F3 1 1 0 16
    ∷ size 0x83F2 1024 1024 0 1048576
    ∷ size 0x83F3 1024 1024 0 1048576
    ∷ size 0x83F4 5 4 14 0
    ∷ size 0x83F3 1025 1 9 0
    ∷ size 0x83F3 1 1025 9 0
    ∷ answered 0x83F2 4 4 (replicate 16 0) (replicate 64 7) 0 (replicate 64 0)
    ∷ answered 0x83F3 4 4 (replicate 16 0) (replicate 64 7) 0 (replicate 64 0)
    ∷ answered 0x83EF 4 4 (replicate 16 0) (replicate 64 7) 14 (replicate 64 7)
    ∷ answered 0x83F4 4 4 (replicate 16 0) (replicate 64 7) 14 (replicate 64 7)
    ∷ answered 0x83F3 4 4 (replicate 15 0) (replicate 64 7) 11 (replicate 64 7)
    ∷ answered 0x83F3 4 4 (replicate 16 0) (replicate 63 7) 15 (replicate 63 7)
    ∷ answered 0x83F3 1025 1 (replicate 4112 0) (replicate 4100 7) 9 (replicate 4100 7)
    ∷ answered 0x83F3 1 1025 (replicate 4112 0) (replicate 4100 7) 9 (replicate 4100 7)
    ∷ answered 0x83F3 0 4 [] [] 0 []
    ∷ cleared 4 4 (Some (record { x = pos 1; y = pos 0; width = pos 2; height = pos 1 }))
    (0 ∷ 0 ∷ 0 ∷ 0 ∷ 0 ∷ 0 ∷ 0 ∷ 0 ∷ 0 ∷ 0 ∷ 0 ∷ 0 ∷ 0 ∷ 1 ∷ 1 ∷ 0 ∷ [])
    ∷ top 168 (level_at 0 8 4 ∷ level_at 128 4 2 ∷ level_at 160 2 1 ∷ []) 2
    ∷ []
