-- The codes of faces, fog curves and texture environments, and the code that stands for each value of the settings.
use Rattle.std.specs.Prelude.{ℕ, cond, eqb, Result, Ok, Err}
use Rattle.consts.specs.Codes as GL
use Rattle.answers.specs.declared.Refusal.{Refusal}
use Rattle.answers.specs.declared.Refusal.TheVariants.{Code}
use Rattle.settings.specs.declared.CompareFunc.{CompareFunc}
use Rattle.settings.specs.declared.CompareFunc.TheVariants as C
use Rattle.settings.specs.declared.BlendFactor.{BlendFactor}
use Rattle.settings.specs.declared.BlendFactor.TheVariants as B
use Rattle.settings.specs.declared.CullMode.{CullMode}
use Rattle.settings.specs.declared.CullMode.TheVariants.{Front, Back, FrontAndBack}
use Rattle.settings.specs.declared.FrontFace.{FrontFace}
use Rattle.settings.specs.declared.FrontFace.TheVariants.{Cw, Ccw}
use Rattle.settings.specs.declared.FogMode.{FogMode}
use Rattle.settings.specs.declared.FogMode.TheVariants.{Linear, Exp, Exp2}
use Rattle.settings.specs.declared.TexEnvMode.{TexEnvMode}
use Rattle.settings.specs.declared.TexEnvMode.TheVariants.{Modulate, Replace, Decal, Blend, Add}

-- OpenGL ES 1.1, Basic Polygon Rasterization
unfoldable pub mode_of : ℕ → Result CullMode Refusal
mode_of v =
    cond (eqb v GL.GL_FRONT) (Ok Front)
    (cond (eqb v GL.GL_BACK) (Ok Back)
    (cond (eqb v GL.GL_FRONT_AND_BACK) (Ok FrontAndBack) (Err Code)))

unfoldable pub face_of : ℕ → Result FrontFace Refusal
face_of v = cond (eqb v GL.GL_CW) (Ok Cw) (cond (eqb v GL.GL_CCW) (Ok Ccw) (Err Code))

-- OpenGL ES 1.1, Fog
unfoldable pub fog_of : ℕ → Result FogMode Refusal
fog_of v =
    cond (eqb v GL.GL_LINEAR_FOG) (Ok Linear) (cond (eqb v GL.GL_EXP) (Ok Exp) (cond (eqb v GL.GL_EXP2) (Ok Exp2) (Err Code)))

-- OpenGL ES 1.1, Texture Environments and Texture Functions
unfoldable pub env_of : ℕ → Result TexEnvMode Refusal
env_of v =
    cond (eqb v GL.GL_MODULATE) (Ok Modulate)
    (cond (eqb v GL.GL_REPLACE) (Ok Replace)
    (cond (eqb v GL.GL_DECAL) (Ok Decal)
    (cond (eqb v GL.GL_BLEND) (Ok Blend)
    (cond (eqb v GL.GL_ADD) (Ok Add) (Err Code)))))

-- ---- the codes of values

abbrev pub compare_code : CompareFunc → ℕ
compare_code C.Never = GL.GL_NEVER
compare_code C.Less = GL.GL_LESS
compare_code C.Equal = GL.GL_EQUAL
compare_code C.Lequal = GL.GL_LEQUAL
compare_code C.Greater = GL.GL_GREATER
compare_code C.Notequal = GL.GL_NOTEQUAL
compare_code C.Gequal = GL.GL_GEQUAL
compare_code C.Always = GL.GL_ALWAYS

abbrev pub factor_code : BlendFactor → ℕ
factor_code B.Zero = GL.GL_ZERO
factor_code B.One = GL.GL_ONE
factor_code B.SrcColor = GL.GL_SRC_COLOR
factor_code B.OneMinusSrcColor = GL.GL_ONE_MINUS_SRC_COLOR
factor_code B.SrcAlpha = GL.GL_SRC_ALPHA
factor_code B.OneMinusSrcAlpha = GL.GL_ONE_MINUS_SRC_ALPHA
factor_code B.DstAlpha = GL.GL_DST_ALPHA
factor_code B.OneMinusDstAlpha = GL.GL_ONE_MINUS_DST_ALPHA
factor_code B.DstColor = GL.GL_DST_COLOR
factor_code B.OneMinusDstColor = GL.GL_ONE_MINUS_DST_COLOR
factor_code B.SrcAlphaSaturate = GL.GL_SRC_ALPHA_SATURATE

abbrev pub mode_code : CullMode → ℕ
mode_code Front = GL.GL_FRONT
mode_code Back = GL.GL_BACK
mode_code FrontAndBack = GL.GL_FRONT_AND_BACK

abbrev pub face_code : FrontFace → ℕ
face_code Cw = GL.GL_CW
face_code Ccw = GL.GL_CCW

abbrev pub fog_code : FogMode → ℕ
fog_code Linear = GL.GL_LINEAR_FOG
fog_code Exp = GL.GL_EXP
fog_code Exp2 = GL.GL_EXP2

abbrev pub env_code : TexEnvMode → ℕ
env_code Modulate = GL.GL_MODULATE
env_code Replace = GL.GL_REPLACE
env_code Decal = GL.GL_DECAL
env_code Blend = GL.GL_BLEND
env_code Add = GL.GL_ADD
