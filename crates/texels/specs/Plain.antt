-- Decode plain (document 01): its refusals in their order, and the image that it leaves.
use Rattle.std.specs.Prelude.{cond, List, [], ℕ, ◌+◌, ◌*◌, eqb, ltb, length, Option, Some, None}
use Rattle.texels.specs.declared.TexelFormat.{TexelFormat}
use Rattle.texels.specs.Image.{image, side_above}
use Rattle.texels.specs.Texels.{nth_texel, format_bytes}

-- document 01, Decode plain: 14, 9, 11, 15. n bytes of data, m bytes of output
unfoldable pub plain_check : Option TexelFormat → ℕ → ℕ → ℕ → ℕ → ℕ
plain_check f w h n m =
    cond (eqb (format_bytes f) 0) 14
    (cond (side_above w h) 9 (cond (ltb n (h * w * format_bytes f)) 11 (cond (eqb m (h * w * 4)) 0 15)))

-- texture.rs, decode_to_rgba: the texel at (x, y) is the (y * w + x)-th of the data
unfoldable pub plain_image : Option TexelFormat → ℕ → ℕ → List ℕ → List ℕ
plain_image (Some t) w h s = image w h (λ x y. nth_texel t s (y * w + x))
plain_image None w h s = []

-- what stands in the output afterwards: the image, or what stood there before
unfoldable pub plain_left : Option TexelFormat → ℕ → ℕ → List ℕ → List ℕ → List ℕ
plain_left f w h s out =
    cond (eqb (plain_check f w h (length s) (length out)) 0) (plain_image f w h s) out
