-- define_level: its check, what becomes of the record and of the store, and the call.
use Rattle.std.specs.Prelude.{Bool, true, false, cond, not, List, ℕ, ◌+◌, ltb, leb, eqb, length, get_or, set, Result, Ok, Err}
use Rattle.std.proofs.Math.Seq.{paste}
use Rattle.lists.specs.Lists.{tab, any}
use Rattle.answers.specs.declared.Refusal.{Refusal}
use Rattle.levels.specs.declared.MipLevel.{MipLevel}
use Rattle.levels.specs.declared.Texture.{Texture}
use Rattle.levels.specs.Levels.{absent, level_at, levels_of, size_of, top_of, overlaps, valid_of}

-- 01, Corners: defining level k above 0 drops every level above k, defining level 0 drops none; level k itself is replaced
unfoldable pub stays : ℕ → ℕ → Bool
stays k i = cond (ltb i k) true (cond (eqb k 0) (ltb 0 i) false)

unfoldable pub stay_at : List MipLevel → ℕ → ℕ → MipLevel
stay_at l k i = cond (stays k i) (get_or l i absent) absent

-- the levels that stay where level k is defined
unfoldable pub stay : List MipLevel → ℕ → List MipLevel
stay l k = tab 11 (stay_at l k)

-- 01, Define, 10: m runs past a store of n bytes or overlaps a level that stays
unfoldable pub place_check : ℕ → List MipLevel → ℕ → MipLevel → ℕ
place_check n l k m = cond (ltb n (m.place + size_of m)) 10 (cond (any (overlaps m) (stay l k)) 10 0)

-- 01, Define, 8 and 11
unfoldable pub record_check : ℕ → Texture → ℕ → MipLevel → ℕ → ℕ
record_check n t k m len = cond (valid_of n t) (cond (eqb len (size_of m)) (place_check n (levels_of t.levels) k m) 11) 8

-- 01, Define, 9: a level's number and sides are among those that there are
unfoldable pub enterable : ℕ → ℕ → ℕ → Bool
enterable k w h = cond (ltb 1024 w) false (cond (ltb 1024 h) false (not (ltb 10 k)))

-- 01, Define: store length, record, level, width, height, place and number of bytes to the refusal, or 0
unfoldable pub define_check : ℕ → Texture → ℕ → ℕ → ℕ → ℕ → ℕ → ℕ
define_check n t k w h place len =
    cond (ltb 1024 w) 9 (cond (ltb 1024 h) 9 (cond (ltb 10 k) 9 (record_check n t k (level_at place w h) len)))

unfoldable pub enter_level : List MipLevel → ℕ → MipLevel → List MipLevel
enter_level l k m = set (stay l k) k m

-- texture.rs, define_level: the record with level k entered, the levels above k dropped, and its top level
unfoldable pub define_record : Texture → ℕ → MipLevel → Texture
define_record t k m =
    record {
      levels = enter_level (levels_of t.levels) k m;
      max_mipmap_level = top_of (enter_level (levels_of t.levels) k m);
      min_filter = t.min_filter;
      mag_filter = t.mag_filter;
      wrap_s = t.wrap_s;
      wrap_t = t.wrap_t;
    }

-- 01, Demand 3 in full: the image's bytes at the level's place
unfoldable pub define_store : List ℕ → ℕ → List ℕ → List ℕ
define_store s place rgba = paste s place rgba (length rgba)

-- the record as a call leaves it: the caller's own where it is refused
abbrev pub record_after : Texture → Result Texture Refusal → Texture
record_after t (Ok t') = t'
record_after t (Err why) = t

-- what a call answers, by 01's number, and what it leaves
pub record Outcome : Type 0 where
  pub answer : ℕ
  pub texture : Texture
  pub store : List ℕ

abbrev pub outcome : ℕ → Texture → List ℕ → Outcome
outcome n t s = record { answer = n; texture = t; store = s }

-- a refused call leaves the record and the store as found
unfoldable pub settle : ℕ → Texture → List ℕ → Texture → List ℕ → Outcome
settle n t s t' s' = cond (eqb n 0) (outcome 0 t' s') (outcome n t s)

-- define_level: store, record, level, width, height, place, bytes
unfoldable pub define_of : List ℕ → Texture → ℕ → ℕ → ℕ → ℕ → List ℕ → Outcome
define_of s t k w h place rgba =
    settle (define_check (length s) t k w h place (length rgba)) t s
    (define_record t k (level_at place w h)) (define_store s place rgba)

-- ---- which bytes of the store it writes: 01, Demand 3 in full

-- address a is one of n bytes at place
abbrev pub in_run : ℕ → ℕ → ℕ → Bool
in_run place n a = cond (leb place a) (ltb a (place + n)) false

unfoldable pub define_writes : ℕ → Texture → ℕ → ℕ → ℕ → ℕ → ℕ → ℕ → Bool
define_writes n t k w h place len a = cond (eqb (define_check n t k w h place len) 0) (in_run place len a) false
