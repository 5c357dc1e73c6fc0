-- The byte layout of a texture record (docs/INTERFACE.md, "Texture record"): eleven levels of 20 bytes, then 24 bytes for the rest.
use Rattle.std.specs.Prelude.{Bool, false, cond, not, List, [], ◌∷◌, ◌++◌, ℕ, ◌+◌, ◌*◌, ◌/◌, ◌%◌, eqb, length, get_or, Option, Some, None}
use Rattle.std.specs.Result.{is_ok, result_unwrap_or}
use Rattle.std.specs.Int.{to_le_bytes}
use Rattle.std.proofs.Common.{w32, w64}
use Rattle.std.proofs.Math.Seq.{paste}
use Rattle.lists.specs.Lists.{tab, flat, iter}
use Rattle.consts.specs.Codes.{GL_TEXTURE_MAG_FILTER, GL_TEXTURE_MIN_FILTER, GL_TEXTURE_WRAP_S, GL_TEXTURE_WRAP_T}
use Rattle.levels.specs.declared.MipLevel.{MipLevel}
use Rattle.levels.specs.declared.Texture.{Texture}
use Rattle.levels.specs.declared.MinFilter.TheVariants as min
use Rattle.levels.specs.declared.Filter.TheVariants as mag
use Rattle.levels.specs.declared.Wrap.TheVariants as wrap
use Rattle.levels.specs.Codes.{min_filter_of, filter_of, wrap_of, min_code, mag_code, wrap_code}
use Rattle.levels.specs.Levels.{absent}
use Rattle.texture.specs.Define.{stays}
use Rattle.layouts.specs.Words.{word, long}

-- ---- reading

-- level i: flag (0 is absent), width, height, place
unfoldable pub read_level : List ℕ → ℕ → MipLevel
read_level b i =
    record {
      present = not (eqb (word b (i * 20)) 0);
      place = long b (i * 20 + 12);
      width = word b (i * 20 + 4);
      height = word b (i * 20 + 8);
    }

-- the filters' and wraps' codes are those that set_parameter takes
unfoldable pub codes_known : List ℕ → Bool
codes_known b =
    cond (is_ok (min_filter_of (word b 228)))
    (cond (is_ok (filter_of (word b 232))) (cond (is_ok (wrap_of (word b 236))) (is_ok (wrap_of (word b 240))) false) false) false

-- the record as it stands; a code that has no value reads as the first of its kind
unfoldable pub read_texture : List ℕ → Texture
read_texture b =
    record {
      levels = tab 11 (read_level b);
      max_mipmap_level = long b 220;
      min_filter = result_unwrap_or (min_filter_of (word b 228)) min.Nearest;
      mag_filter = result_unwrap_or (filter_of (word b 232)) mag.Nearest;
      wrap_s = result_unwrap_or (wrap_of (word b 236)) wrap.Repeat;
      wrap_t = result_unwrap_or (wrap_of (word b 240)) wrap.Repeat;
    }

-- a layout of another length, or with a code that has no value, is no record
unfoldable pub read_of : List ℕ → Option Texture
read_of b = cond (eqb (length b) 244) (cond (codes_known b) (Some (read_texture b)) None) None

-- ---- writing

unfoldable pub level_bytes : MipLevel → List ℕ
level_bytes m =
    cond m.present 1 0 ∷ 0 ∷ 0 ∷ 0
    ∷ m.width % 256 ∷ m.width / 256 % 256 ∷ m.width / 65536 % 256 ∷ m.width / 16777216 % 256
    ∷ m.height % 256 ∷ m.height / 256 % 256 ∷ m.height / 65536 % 256 ∷ m.height / 16777216 % 256
    ∷ m.place % 256 ∷ m.place / 256 % 256 ∷ m.place / 65536 % 256 ∷ m.place / 16777216 % 256
    ∷ m.place / 4294967296 % 256 ∷ m.place / 1099511627776 % 256 ∷ m.place / 281474976710656 % 256 ∷ m.place / 72057594037927936 % 256
    ∷ []

-- top level, filters and wraps; the codes have two bytes that are not 0
unfoldable pub rest_bytes : Texture → List ℕ
rest_bytes t =
    t.max_mipmap_level % 256 ∷ t.max_mipmap_level / 256 % 256 ∷ t.max_mipmap_level / 65536 % 256 ∷ t.max_mipmap_level / 16777216 % 256
    ∷ t.max_mipmap_level / 4294967296 % 256 ∷ t.max_mipmap_level / 1099511627776 % 256
    ∷ t.max_mipmap_level / 281474976710656 % 256 ∷ t.max_mipmap_level / 72057594037927936 % 256
    ∷ min_code t.min_filter % 256 ∷ min_code t.min_filter / 256 % 256 ∷ 0 ∷ 0
    ∷ mag_code t.mag_filter % 256 ∷ mag_code t.mag_filter / 256 % 256 ∷ 0 ∷ 0
    ∷ wrap_code t.wrap_s % 256 ∷ wrap_code t.wrap_s / 256 % 256 ∷ 0 ∷ 0
    ∷ wrap_code t.wrap_t % 256 ∷ wrap_code t.wrap_t / 256 % 256 ∷ 0 ∷ 0
    ∷ []

unfoldable pub level_bytes_at : List MipLevel → ℕ → List ℕ
level_bytes_at l i = level_bytes (get_or l i absent)

unfoldable pub record_bytes : Texture → List ℕ
record_bytes t = flat 11 (level_bytes_at t.levels) ++ rest_bytes t

-- ---- changing: each byte that is not put stays as found. That what is put reads back as the record: proofs/Defined, and tilefringe, proofs/Put

-- 01, Demand 3 in full: a define enters the level, and the top level. The bytes of level i, unless it stays where level k is defined
unfoldable pub put_level : ℕ → List MipLevel → ℕ → List ℕ → List ℕ
put_level k l i b = cond (stays k i) b (paste b (i * 20) (level_bytes_at l i) 20)

-- a layout after a define of level k, where t is the record that it leaves
unfoldable pub put_define : ℕ → Texture → List ℕ → List ℕ
put_define k t b = paste (iter 11 (put_level k t.levels) b) 220 (to_le_bytes w64 t.max_mipmap_level) 8

-- the word at byte i
abbrev pub put_word : ℕ → ℕ → List ℕ → List ℕ
put_word i v b = paste b i (to_le_bytes w32 v) 4

-- 01, Demand 3 in full: a setting changes its parameter, or nothing for a code without effect. v: the value, which is the parameter's word
unfoldable pub put_parameter : ℕ → ℕ → List ℕ → List ℕ
put_parameter p v b =
    cond (eqb p GL_TEXTURE_MIN_FILTER) (put_word 228 v b)
    (cond (eqb p GL_TEXTURE_MAG_FILTER) (put_word 232 v b)
    (cond (eqb p GL_TEXTURE_WRAP_S) (put_word 236 v b) (cond (eqb p GL_TEXTURE_WRAP_T) (put_word 240 v b) b)))
