-- What the codes of comparisons and blend factors stand for, and the default settings.
use Rattle.std.specs.Prelude.{ℕ, true, false, cond, eqb, pos, None, Result, Ok, Err}
use Rattle.floats.specs.Num.{zero32, one32}
use Rattle.consts.specs.Codes as GL
use Rattle.answers.specs.declared.Refusal.TheVariants.{Code}
use Rattle.settings.specs.declared.CompareFunc.TheVariants as C
use Rattle.settings.specs.declared.BlendFactor.{BlendFactor}
use Rattle.settings.specs.declared.BlendFactor.TheVariants as B
use Rattle.settings.specs.declared.FrontFace.TheVariants.{Ccw}
use Rattle.settings.specs.declared.FogMode.TheVariants.{Exp}
use Rattle.settings.specs.declared.Rgba.{Rgba}
use Rattle.settings.specs.declared.PipelineState.{PipelineState}
use Rattle.answers.specs.declared.Refusal.{Refusal}
use Rattle.settings.specs.declared.CompareFunc.{CompareFunc}

-- OpenGL ES 1.1, Alpha Test and Depth Buffer Test: the eight comparisons. Document 01: 16, unknown
unfoldable pub read_compare : ℕ → Result CompareFunc Refusal
read_compare v =
    cond (eqb v GL.GL_NEVER) (Ok C.Never)
    (cond (eqb v GL.GL_LESS) (Ok C.Less)
    (cond (eqb v GL.GL_EQUAL) (Ok C.Equal)
    (cond (eqb v GL.GL_LEQUAL) (Ok C.Lequal)
    (cond (eqb v GL.GL_GREATER) (Ok C.Greater)
    (cond (eqb v GL.GL_NOTEQUAL) (Ok C.Notequal)
    (cond (eqb v GL.GL_GEQUAL) (Ok C.Gequal)
    (cond (eqb v GL.GL_ALWAYS) (Ok C.Always) (Err Code))))))))

-- OpenGL ES 1.1, Blending: the factors. Both sides take all of them, as BlendFactor::from_enum does. Document 01: 16, unknown
unfoldable pub read_factor : ℕ → Result BlendFactor Refusal
read_factor v =
    cond (eqb v GL.GL_ZERO) (Ok B.Zero)
    (cond (eqb v GL.GL_ONE) (Ok B.One)
    (cond (eqb v GL.GL_SRC_COLOR) (Ok B.SrcColor)
    (cond (eqb v GL.GL_ONE_MINUS_SRC_COLOR) (Ok B.OneMinusSrcColor)
    (cond (eqb v GL.GL_SRC_ALPHA) (Ok B.SrcAlpha)
    (cond (eqb v GL.GL_ONE_MINUS_SRC_ALPHA) (Ok B.OneMinusSrcAlpha)
    (cond (eqb v GL.GL_DST_ALPHA) (Ok B.DstAlpha)
    (cond (eqb v GL.GL_ONE_MINUS_DST_ALPHA) (Ok B.OneMinusDstAlpha)
    (cond (eqb v GL.GL_DST_COLOR) (Ok B.DstColor)
    (cond (eqb v GL.GL_ONE_MINUS_DST_COLOR) (Ok B.OneMinusDstColor)
    (cond (eqb v GL.GL_SRC_ALPHA_SATURATE) (Ok B.SrcAlphaSaturate) (Err Code)))))))))))

-- a colour of four zeros
abbrev pub black : Rgba
black = record { r = zero32; g = zero32; b = zero32; a = zero32 }

-- raster.rs, PipelineState::default
unfoldable pub default_state : PipelineState
default_state = record {
  viewport = record { x = pos 0; y = pos 0; width = pos 0; height = pos 0 };
  depth_range = record { near = zero32; far = one32 };
  scissor = None;
  depth_test = false;
  depth_func = C.Less;
  depth_write = true;
  alpha_test = false;
  alpha_func = C.Always;
  alpha_ref = zero32;
  blend = false;
  blend_src = B.One;
  blend_dst = B.Zero;
  cull = None;
  front_face = Ccw;
  color_mask = record { r = true; g = true; b = true; a = true };
  fog = false;
  fog_mode = Exp;
  fog_color = black;
  fog_start = zero32;
  fog_end = one32;
  fog_density = one32;
  smooth_shading = true;
}
