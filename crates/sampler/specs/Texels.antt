-- Texels from their bytes, and the mixing of texels. Each sum and product is rounded once, in the order of the Rust.
use Rattle.std.specs.Prelude.{ℕ, ◌+◌, ◌*◌, List, [], ◌∷◌, get_or, Float}
use Rattle.std.specs.Float.Ieee as Ieee
use Rattle.std.specs.Float.{binary32}
use Rattle.floats.specs.Num.{◌⊕◌, ◌⊖◌, ◌⊗◌, ◌⊘◌, of_nat32}
use Rattle.channels.specs.Channel.{round_byte_of}
use Rattle.sampler.specs.declared.Texel.{Texel}

-- the texel whose bytes stand at i to i + 3
unfoldable pub texel_at : List ℕ → ℕ → Texel
texel_at l i = record { r = get_or l i 0; g = get_or l (i + 1) 0; b = get_or l (i + 2) 0; a = get_or l (i + 3) 0 }

-- a texel's four bytes
abbrev pub channels_of : Texel → List ℕ
channels_of x = x.r ∷ x.g ∷ x.b ∷ x.a ∷ []

-- a texel as one number, red in its lowest byte and alpha in its highest
abbrev pub packed_of : Texel → ℕ
packed_of x = x.r + x.g * 256 + x.b * 65536 + x.a * 16777216

-- Document 01, port order 4: an incomplete level 0 gives white
unfoldable pub white : Texel
white = record { r = 255; g = 255; b = 255; a = 255 }

-- texture.rs, sample_linear_level: one channel of the four texels
unfoldable pub linear_byte : Float → Float → ℕ → ℕ → ℕ → ℕ → ℕ
linear_byte wx wy c00 c10 c01 c11 =
    let top = of_nat32 c00 ⊕ (of_nat32 c10 ⊖ of_nat32 c00) ⊗ wx in
    let bottom = of_nat32 c01 ⊕ (of_nat32 c11 ⊖ of_nat32 c01) ⊗ wx in
    round_byte_of (top ⊕ (bottom ⊖ top) ⊗ wy)

-- texture.rs, sample_linear_level
unfoldable pub linear_texel : Float → Float → Texel → Texel → Texel → Texel → Texel
linear_texel wx wy c00 c10 c01 c11 =
    record {
      r = linear_byte wx wy c00.r c10.r c01.r c11.r;
      g = linear_byte wx wy c00.g c10.g c01.g c11.g;
      b = linear_byte wx wy c00.b c10.b c01.b c11.b;
      a = linear_byte wx wy c00.a c10.a c01.a c11.a;
    }

-- Document 01, Level of detail: the weight of the next level, (n mod 256) / 256
unfoldable pub part_of : ℕ → Float
part_of part = of_nat32 part ⊘ Ieee.of_bits binary32 0x4380_0000

-- texture.rs, sample_with_gradients: one channel of two levels
unfoldable pub mix_byte : Float → ℕ → ℕ → ℕ
mix_byte weight a b = round_byte_of (of_nat32 a ⊕ (of_nat32 b ⊖ of_nat32 a) ⊗ weight)

unfoldable pub mix_texel : Float → Texel → Texel → Texel
mix_texel weight a b =
    record {
      r = mix_byte weight a.r b.r;
      g = mix_byte weight a.g b.g;
      b = mix_byte weight a.b b.b;
      a = mix_byte weight a.a b.a;
    }
