-- set_parameter: its check, what becomes of the record, and the call. The values' codes are in levels, Codes.
use Rattle.std.specs.Prelude.{Bool, true, cond, ℕ, eqb, Result, Ok, Err}
use Rattle.consts.specs.Codes.{GL_TEXTURE_MAG_FILTER, GL_TEXTURE_MIN_FILTER, GL_TEXTURE_WRAP_S, GL_TEXTURE_WRAP_T}
use Rattle.consts.specs.Codes.{GL_TEXTURE_MIN_LOD_SGIS, GL_TEXTURE_MAX_LOD_SGIS, GL_TEXTURE_BASE_LEVEL_SGIS}
use Rattle.consts.specs.Codes.{GL_TEXTURE_MAX_LEVEL_SGIS, GL_TEXTURE_LOD_BIAS_EXT}
use Rattle.answers.specs.declared.Refusal.{Refusal}
use Rattle.answers.specs.declared.Refusal.TheVariants.{Code}
use Rattle.answers.specs.Results.{answer_number}
use Rattle.texture.specs.declared.Parameter.{Parameter}
use Rattle.texture.specs.declared.Parameter.TheVariants as parameter
use Rattle.levels.specs.declared.Texture.{Texture}
use Rattle.levels.specs.declared.MinFilter.{MinFilter}
use Rattle.levels.specs.declared.Filter.{Filter}
use Rattle.levels.specs.declared.Wrap.{Wrap}
use Rattle.levels.specs.Codes.{min_filter_of, filter_of, wrap_of}

-- 01, port order 3: SGIS codes and GL_TEXTURE_LOD_BIAS_EXT, accepted without effect
unfoldable pub ignored : ℕ → Bool
ignored p =
    cond (eqb p GL_TEXTURE_MIN_LOD_SGIS) true
    (cond (eqb p GL_TEXTURE_MAX_LOD_SGIS) true
    (cond (eqb p GL_TEXTURE_BASE_LEVEL_SGIS) true
    (cond (eqb p GL_TEXTURE_MAX_LEVEL_SGIS) true (eqb p GL_TEXTURE_LOD_BIAS_EXT))))

-- what a parameter's name stands for
unfoldable pub parameter_of : ℕ → Result Parameter Refusal
parameter_of p =
    cond (eqb p GL_TEXTURE_MIN_FILTER) (Ok parameter.MinFilter)
    (cond (eqb p GL_TEXTURE_MAG_FILTER) (Ok parameter.MagFilter)
    (cond (eqb p GL_TEXTURE_WRAP_S) (Ok parameter.WrapS)
    (cond (eqb p GL_TEXTURE_WRAP_T) (Ok parameter.WrapT) (cond (ignored p) (Ok parameter.Ignored) (Err Code)))))

-- 01: set a parameter, 16, unknown
unfoldable pub set_check : ℕ → ℕ → ℕ
set_check p v =
    cond (eqb p GL_TEXTURE_MIN_FILTER) (answer_number (min_filter_of v))
    (cond (eqb p GL_TEXTURE_MAG_FILTER) (answer_number (filter_of v))
    (cond (eqb p GL_TEXTURE_WRAP_S) (answer_number (wrap_of v))
    (cond (eqb p GL_TEXTURE_WRAP_T) (answer_number (wrap_of v)) (cond (ignored p) 0 16))))

-- the record with one parameter changed; an unknown value changes nothing
abbrev pub with_min_filter : Result MinFilter Refusal → Texture → Texture
with_min_filter (Ok f) t =
    record {
      levels = t.levels;
      max_mipmap_level = t.max_mipmap_level;
      min_filter = f;
      mag_filter = t.mag_filter;
      wrap_s = t.wrap_s;
      wrap_t = t.wrap_t;
    }
with_min_filter (Err why) t = t

abbrev pub with_mag_filter : Result Filter Refusal → Texture → Texture
with_mag_filter (Ok f) t =
    record {
      levels = t.levels;
      max_mipmap_level = t.max_mipmap_level;
      min_filter = t.min_filter;
      mag_filter = f;
      wrap_s = t.wrap_s;
      wrap_t = t.wrap_t;
    }
with_mag_filter (Err why) t = t

abbrev pub with_wrap_s : Result Wrap Refusal → Texture → Texture
with_wrap_s (Ok w) t =
    record {
      levels = t.levels;
      max_mipmap_level = t.max_mipmap_level;
      min_filter = t.min_filter;
      mag_filter = t.mag_filter;
      wrap_s = w;
      wrap_t = t.wrap_t;
    }
with_wrap_s (Err why) t = t

abbrev pub with_wrap_t : Result Wrap Refusal → Texture → Texture
with_wrap_t (Ok w) t =
    record {
      levels = t.levels;
      max_mipmap_level = t.max_mipmap_level;
      min_filter = t.min_filter;
      mag_filter = t.mag_filter;
      wrap_s = t.wrap_s;
      wrap_t = w;
    }
with_wrap_t (Err why) t = t

-- texture.rs, set_parameter
unfoldable pub set_record : Texture → ℕ → ℕ → Texture
set_record t p v =
    cond (eqb p GL_TEXTURE_MIN_FILTER) (with_min_filter (min_filter_of v) t)
    (cond (eqb p GL_TEXTURE_MAG_FILTER) (with_mag_filter (filter_of v) t)
    (cond (eqb p GL_TEXTURE_WRAP_S) (with_wrap_s (wrap_of v) t)
    (cond (eqb p GL_TEXTURE_WRAP_T) (with_wrap_t (wrap_of v) t) t)))

-- what a call answers, by 01's number, and what it leaves
pub record Setting : Type 0 where
  pub answer : ℕ
  pub texture : Texture

abbrev pub setting : ℕ → Texture → Setting
setting n t = record { answer = n; texture = t }

-- set_parameter: record, parameter, value; a refused call leaves the record as found
unfoldable pub set_of : Texture → ℕ → ℕ → Setting
set_of t p v = cond (eqb (set_check p v) 0) (setting 0 (set_record t p v)) (setting (set_check p v) t)
