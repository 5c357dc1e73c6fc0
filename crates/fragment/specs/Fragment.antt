-- The steps of a fragment after its colour is interpolated: texture environments, the two tests, fog, blending, the masked write.
-- Each sum and product is rounded once, in the order the Rust writes it.
use Rattle.std.specs.Prelude.{ℕ, ◌+◌, Bool, true, cond, List, get_or, set, Float}
use Rattle.std.specs.Float.Ieee as Ieee
use Rattle.std.specs.Float.{binary32}
use Rattle.floats.specs.Num.{◌⊕◌, ◌⊖◌, ◌⊗◌, ◌⊘◌, zero32, one32, min_of, max_of, clamp_of, abs_of}
use Rattle.channels.specs.Channel.{unit_of, byte_of}
use Rattle.settings.specs.declared.Rgba.{Rgba}
use Rattle.settings.specs.declared.ColorMask.{ColorMask}
use Rattle.settings.specs.declared.BlendFactor.{BlendFactor}
use Rattle.settings.specs.declared.TexEnvMode.{TexEnvMode}
use Rattle.settings.specs.declared.TexEnvMode.TheVariants as E
use Rattle.settings.specs.declared.TextureStage.{TextureStage}
use Rattle.settings.specs.declared.PipelineState.{PipelineState}
use Rattle.settings.specs.Compare.{test_of}
use Rattle.settings.specs.Factor.{resolve_of}

-- f of a texture's or another colour's channels and the fragment's: red, green and blue, with an alpha of its own
abbrev pub rgb_of : (Float → Float → Float) → Rgba → Rgba → Float → Rgba
rgb_of f frag tex a = record { r = f frag.r tex.r; g = f frag.g tex.g; b = f frag.b tex.b; a = a }

-- raster.rs, to_unit of a texel's or a pixel's four bytes
abbrev pub units_of : ℕ → ℕ → ℕ → ℕ → Rgba
units_of r g b a = record { r = unit_of r; g = unit_of g; b = unit_of b; a = unit_of a }

-- OpenGL ES 1.1, Texture Environments and Texture Functions: Modulate, C = Cf Ct, A = Af At
abbrev pub modulate_of : Rgba → Rgba → Rgba
modulate_of frag tex = rgb_of ◌⊗◌ frag tex (frag.a ⊗ tex.a)

-- OpenGL ES 1.1, Texture Environments and Texture Functions: Decal, C = Cf (1 - At) + Ct At, A = Af
abbrev pub decal_of : Rgba → Rgba → Rgba
decal_of frag tex = rgb_of (λ f t. f ⊗ (one32 ⊖ tex.a) ⊕ t ⊗ tex.a) frag tex frag.a

-- OpenGL ES 1.1, Texture Environments and Texture Functions: Blend, C = Cf (1 - Ct) + Cc Ct, A = Af At
abbrev pub env_blend_of : Rgba → Rgba → Rgba → Rgba
env_blend_of color frag tex = record {
  r = frag.r ⊗ (one32 ⊖ tex.r) ⊕ color.r ⊗ tex.r;
  g = frag.g ⊗ (one32 ⊖ tex.g) ⊕ color.g ⊗ tex.g;
  b = frag.b ⊗ (one32 ⊖ tex.b) ⊕ color.b ⊗ tex.b;
  a = frag.a ⊗ tex.a;
}

-- OpenGL ES 1.1, Texture Environments and Texture Functions: Add, C = Cf + Ct up to 1, A = Af At
abbrev pub add_of : Rgba → Rgba → Rgba
add_of frag tex = rgb_of (λ f t. min_of (f ⊕ t) one32) frag tex (frag.a ⊗ tex.a)

-- OpenGL ES 1.1, Texture Environments and Texture Functions. Replace takes the texture's colour, alpha too.
abbrev pub env_of : TexEnvMode → Rgba → Rgba → Rgba → Rgba
env_of E.Modulate color frag tex = modulate_of frag tex
env_of E.Replace color frag tex = tex
env_of E.Decal color frag tex = decal_of frag tex
env_of E.Blend color frag tex = env_blend_of color frag tex
env_of E.Add color frag tex = add_of frag tex

-- raster.rs, apply_tex_env: one stage, from the colour that the stage before it left
unfoldable pub tex_env_of : TextureStage → Rgba → Rgba → Rgba
tex_env_of stage frag tex = env_of stage.env stage.env_color frag tex

-- OpenGL ES 1.1, Depth Buffer Test: against the depth stored
unfoldable pub depth_passes : PipelineState → Float → Float → Bool
depth_passes s z stored = cond s.depth_test (test_of s.depth_func z stored) true

-- OpenGL ES 1.1, Alpha Test: against the reference value
unfoldable pub alpha_passes : PipelineState → Float → Bool
alpha_passes s alpha = cond s.alpha_test (test_of s.alpha_func alpha s.alpha_ref) true

-- 1e-9: raster.rs, fog_factor
abbrev pub tiny32 : Float
tiny32 = Ieee.of_bits binary32 0x3089705f

-- OpenGL ES 1.1, Fog: LINEAR, f = (e - c) / (e - s). A span near zero leaves 1, and a depth below 0 is 0, as raster.rs has it.
unfoldable pub linear_fog_of : Float → Float → Float → Float
linear_fog_of start end depth =
    cond (Ieee.lt (abs_of (end ⊖ start)) tiny32) one32 ((end ⊖ max_of depth zero32) ⊘ (end ⊖ start))

-- raster.rs, fog_factor, for the linear curve: a draw refuses the other two (7)
unfoldable pub fog_factor_of : PipelineState → Float → Float
fog_factor_of s depth = clamp_of (linear_fog_of s.fog_start s.fog_end depth) zero32 one32

-- OpenGL ES 1.1, Fog: C = f Cr + (1 - f) Cf, alpha kept
abbrev pub fog_mix_of : Float → Rgba → Rgba → Rgba
fog_mix_of f color frag = rgb_of (λ c k. f ⊗ c ⊕ (one32 ⊖ f) ⊗ k) frag color frag.a

unfoldable pub fogged_of : PipelineState → Float → Rgba → Rgba
fogged_of s depth frag = cond s.fog (fog_mix_of (fog_factor_of s depth) s.fog_color frag) frag

-- OpenGL ES 1.1, Blending: C = Cs S + Cd D, cut to 0 to 1
abbrev pub blend_channel : Float → Float → Float → Float → Float
blend_channel src sf dst df = clamp_of (src ⊗ sf ⊕ dst ⊗ df) zero32 one32

unfoldable pub blend_of : BlendFactor → BlendFactor → Rgba → Rgba → Rgba
blend_of sfactor dfactor src dst =
    let sf = resolve_of sfactor src dst in
    let df = resolve_of dfactor src dst in
    record {
      r = blend_channel src.r sf.r dst.r df.r;
      g = blend_channel src.g sf.g dst.g df.g;
      b = blend_channel src.b sf.b dst.b df.b;
      a = blend_channel src.a sf.a dst.a df.a;
    }

-- OpenGL ES 1.1, Fine Control of Buffer Updates: a channel that is masked off keeps its byte
abbrev pub masked_of : Bool → Float → ℕ → ℕ
masked_of on value stored = cond on (byte_of value) stored

-- a pixel's four bytes from i on
unfoldable pub put_color_of : ColorMask → Rgba → ℕ → List ℕ → List ℕ
put_color_of mask v i l =
    set (set (set (set l i (masked_of mask.r v.r (get_or l i 0)))
    (i + 1) (masked_of mask.g v.g (get_or l (i + 1) 0)))
    (i + 2) (masked_of mask.b v.b (get_or l (i + 2) 0)))
    (i + 3) (masked_of mask.a v.a (get_or l (i + 3) 0))
