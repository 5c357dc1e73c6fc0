-- Texture records: the levels of a texture and their places in a texel store, the chain of levels, and what makes a record valid.
use Rattle.std.specs.Prelude.{Bool, true, false, cond, List, [], ◌∷◌, ℕ, ◌+◌, ◌*◌, ◌/◌, ◌≤◌, ltb, leb, eqb, get_or, replicate, take, drop}
use Rattle.lists.specs.Lists.{any, all}
use Rattle.levels.specs.declared.MipLevel.{MipLevel}
use Rattle.levels.specs.declared.Texture.{Texture}
use Rattle.levels.specs.declared.MinFilter.TheVariants.{NearestMipmapLinear}
use Rattle.levels.specs.declared.Filter.TheVariants.{Linear}
use Rattle.levels.specs.declared.Wrap.TheVariants.{Repeat}

-- texture.rs, Texture: a level of w by h texels whose first byte stands at `place` in the store; and no level
abbrev pub level_at : ℕ → ℕ → ℕ → MipLevel
level_at place w h = record { present = true; place = place; width = w; height = h }

abbrev pub absent : MipLevel
absent = record { present = false; place = 0; width = 0; height = 0 }

-- 01, Patch: level 0 is never absent, whatever its flag says
unfoldable pub levels_of : List MipLevel → List MipLevel
levels_of l = level_at (get_or l 0 absent).place (get_or l 0 absent).width (get_or l 0 absent).height ∷ drop 1 l

-- texture.rs, image_level: level k of a texture
unfoldable pub level_of : Texture → ℕ → MipLevel
level_of t k = get_or (levels_of t.levels) k absent

-- texture.rs, image_level: the bytes that a level takes, four a texel
unfoldable pub size_of : MipLevel → ℕ
size_of m = m.height * m.width * 4

-- texture.rs, image_level: the part of the store that holds a level
unfoldable pub texels_of : List ℕ → MipLevel → List ℕ
texels_of s m = take (size_of m) (drop m.place s)

-- texture.rs, Texture::default
unfoldable pub new_texture : Texture
new_texture =
    record {
      levels = level_at 0 0 0 ∷ replicate 10 absent;
      max_mipmap_level = 0;
      min_filter = NearestMipmapLinear;
      mag_filter = Linear;
      wrap_s = Repeat;
      wrap_t = Repeat;
    }

-- ---- the chain: 01, port order 3; texture.rs, calculate_max_complete_mipmap_level

-- 01: a level is complete if both sides are above 0
unfoldable pub complete : MipLevel → Bool
complete m = cond m.present (cond (ltb 0 m.width) (ltb 0 m.height) false) false

-- 01: halved, rounded down, at least 1
unfoldable pub half : ℕ → ℕ
half n = cond (ltb n 2) 1 (n / 2)

unfoldable pub single : ℕ → ℕ → Bool
single w h = cond (eqb w 1) (eqb h 1) false

-- m goes on with a chain whose last level has w by h texels: 1 by 1 ends it, and so does a level absent, incomplete or not halved
unfoldable pub follows : ℕ → ℕ → MipLevel → Bool
follows w h m = cond (single w h) false (cond (complete m) (cond (eqb m.width (half w)) (eqb m.height (half h)) false) false)

-- the last level of the chain from level k, of w by h texels, with the levels above it
unfoldable pub climb : ℕ → ℕ → ℕ → List MipLevel → ℕ
climb k w h [] = k
climb k w h (m ∷ ms) = cond (follows w h m) (climb (k + 1) m.width m.height ms) k

-- 01: the top level; 0 where level 0 is incomplete
unfoldable pub top_of : List MipLevel → ℕ
top_of [] = 0
top_of (m ∷ ms) = cond (complete m) (climb 0 m.width m.height ms) 0

-- ---- validity: 01, Draw, refusal 8

-- n bytes at a and m bytes at b have a byte in common
unfoldable pub overlap : ℕ → ℕ → ℕ → ℕ → Bool
overlap a n b m = cond (eqb n 0) false (cond (eqb m 0) false (cond (ltb b (a + n)) (ltb a (b + m)) false))

unfoldable pub overlaps : MipLevel → MipLevel → Bool
overlaps a b = cond a.present (cond b.present (overlap a.place (size_of a) b.place (size_of b)) false) false

-- no two kept levels overlap
unfoldable pub apart : List MipLevel → Bool
apart [] = true
apart (m ∷ ms) = cond (any (overlaps m) ms) false (apart ms)

-- a kept level has sides of at most 1,024 and lies within a store of n bytes, its end included
unfoldable pub fits : ℕ → MipLevel → Bool
fits n m = cond m.present (cond (leb m.width 1024) (cond (leb m.height 1024) (leb (m.place + size_of m) n) false) false) true

unfoldable pub valid_levels : ℕ → List MipLevel → ℕ → Bool
valid_levels n l top = cond (all (fits n) l) (cond (apart l) (eqb top (top_of l)) false) false

-- a texture's record is valid over a store of n bytes
unfoldable pub valid_of : ℕ → Texture → Bool
valid_of n t = valid_levels n (levels_of t.levels) t.max_mipmap_level

-- levels in order of place: each with bytes starts at the end of those before it, or later. Such levels are apart (proofs/Apart)
unfoldable pub starts_at : ℕ → MipLevel → Bool
starts_at end m = cond (complete m) (leb end m.place) true

unfoldable pub end_of : ℕ → MipLevel → ℕ
end_of end m = cond (complete m) (m.place + size_of m) end

unfoldable pub ascending : ℕ → List MipLevel → Bool
ascending end [] = true
ascending end (m ∷ ms) = cond (starts_at end m) (ascending (end_of end m) ms) false

-- what a kept level of a valid record is known by
pub record Fits (n : ℕ) (m : MipLevel) : Type 0 where
  pub wide : m.width ≤ 1024
  pub high : m.height ≤ 1024
  pub within : m.place + size_of m ≤ n
