-- The codes of filters and wraps that document 01 takes, each way.
use Rattle.std.specs.Prelude.{cond, ℕ, eqb, Result, Ok, Err}
use Rattle.consts.specs.Codes.{GL_NEAREST, GL_LINEAR, GL_NEAREST_MIPMAP_NEAREST, GL_LINEAR_MIPMAP_NEAREST}
use Rattle.consts.specs.Codes.{GL_NEAREST_MIPMAP_LINEAR, GL_LINEAR_MIPMAP_LINEAR, GL_REPEAT, GL_CLAMP_TO_EDGE}
use Rattle.answers.specs.declared.Refusal.{Refusal}
use Rattle.answers.specs.declared.Refusal.TheVariants.{Code}
use Rattle.levels.specs.declared.MinFilter.{MinFilter}
use Rattle.levels.specs.declared.MinFilter.TheVariants as min
use Rattle.levels.specs.declared.Filter.{Filter}
use Rattle.levels.specs.declared.Filter.TheVariants as mag
use Rattle.levels.specs.declared.Wrap.{Wrap}
use Rattle.levels.specs.declared.Wrap.TheVariants as wrap

-- texture.rs, set_parameter; OpenGL ES 1.1, Texture Parameters
unfoldable pub min_filter_of : ℕ → Result MinFilter Refusal
min_filter_of v =
    cond (eqb v GL_NEAREST) (Ok min.Nearest)
    (cond (eqb v GL_LINEAR) (Ok min.Linear)
    (cond (eqb v GL_NEAREST_MIPMAP_NEAREST) (Ok min.NearestMipmapNearest)
    (cond (eqb v GL_LINEAR_MIPMAP_NEAREST) (Ok min.LinearMipmapNearest)
    (cond (eqb v GL_NEAREST_MIPMAP_LINEAR) (Ok min.NearestMipmapLinear)
    (cond (eqb v GL_LINEAR_MIPMAP_LINEAR) (Ok min.LinearMipmapLinear) (Err Code))))))

-- texture.rs, set_parameter; OpenGL ES 1.1, Texture Parameters
unfoldable pub filter_of : ℕ → Result Filter Refusal
filter_of v = cond (eqb v GL_NEAREST) (Ok mag.Nearest) (cond (eqb v GL_LINEAR) (Ok mag.Linear) (Err Code))

-- texture.rs, wrap_from_enum; OpenGL ES 1.1, Texture Parameters
unfoldable pub wrap_of : ℕ → Result Wrap Refusal
wrap_of v = cond (eqb v GL_REPEAT) (Ok wrap.Repeat) (cond (eqb v GL_CLAMP_TO_EDGE) (Ok wrap.ClampToEdge) (Err Code))

abbrev pub min_code : MinFilter → ℕ
min_code min.Nearest = GL_NEAREST
min_code min.Linear = GL_LINEAR
min_code min.NearestMipmapNearest = GL_NEAREST_MIPMAP_NEAREST
min_code min.LinearMipmapNearest = GL_LINEAR_MIPMAP_NEAREST
min_code min.NearestMipmapLinear = GL_NEAREST_MIPMAP_LINEAR
min_code min.LinearMipmapLinear = GL_LINEAR_MIPMAP_LINEAR

abbrev pub mag_code : Filter → ℕ
mag_code mag.Nearest = GL_NEAREST
mag_code mag.Linear = GL_LINEAR

abbrev pub wrap_code : Wrap → ℕ
wrap_code wrap.Repeat = GL_REPEAT
wrap_code wrap.ClampToEdge = GL_CLAMP_TO_EDGE
