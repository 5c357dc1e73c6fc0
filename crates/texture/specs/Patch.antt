-- patch_level: its check, what becomes of the store, and the call.
use Rattle.std.specs.Prelude.{Bool, true, false, cond, List, ℕ, zero, suc, ◌+◌, ◌*◌, ltb, eqb, length, drop}
use Rattle.std.proofs.Math.Seq.{paste}
use Rattle.lists.specs.Lists.{iter}
use Rattle.levels.specs.declared.MipLevel.{MipLevel}
use Rattle.levels.specs.declared.Texture.{Texture}
use Rattle.levels.specs.Levels.{level_of, valid_of}
use Rattle.texture.specs.Define.{in_run}

-- 01, Patch: 13, the rectangle runs past the level; 11, too few bytes
unfoldable pub rectangle_check : MipLevel → ℕ → ℕ → ℕ → ℕ → ℕ → ℕ
rectangle_check m x y w h len =
    cond (ltb m.width (x + w)) 13 (cond (ltb m.height (y + h)) 13 (cond (ltb len (h * w * 4)) 11 0))

-- 01, Patch: store length, record, level, offsets, width, height and number of bytes to the refusal, or 0
unfoldable pub patch_check : ℕ → Texture → ℕ → ℕ → ℕ → ℕ → ℕ → ℕ → ℕ
patch_check n t k x y w h len =
    cond (valid_of n t) (cond (ltb 10 k) 12 (cond (level_of t k).present (rectangle_check (level_of t k) x y w h len) 12)) 8

-- texture.rs, patch_level, `dst`: where row r of a rectangle at (x, y) of a level stands in the store
unfoldable pub row_place : MipLevel → ℕ → ℕ → ℕ → ℕ
row_place m x y r = m.place + ((y + r) * m.width + x) * 4

-- texture.rs, patch_level: row r of a patch of w texels a row, put into a level
unfoldable pub patch_row : MipLevel → ℕ → ℕ → ℕ → List ℕ → ℕ → List ℕ → List ℕ
patch_row m x y w patch r s = paste s (row_place m x y r) (drop (r * (w * 4)) patch) (w * 4)

unfoldable pub patch_store : MipLevel → ℕ → ℕ → ℕ → ℕ → List ℕ → List ℕ → List ℕ
patch_store m x y w h patch s = iter h (patch_row m x y w patch) s

-- what a call answers, by 01's number, and what it leaves; the record stays
pub record Patched : Type 0 where
  pub answer : ℕ
  pub store : List ℕ

abbrev pub patched : ℕ → List ℕ → Patched
patched n s = record { answer = n; store = s }

-- a refused call leaves the store as found
unfoldable pub settle_patch : ℕ → List ℕ → List ℕ → Patched
settle_patch n s s' = cond (eqb n 0) (patched 0 s') (patched n s)

-- patch_level: store, record, level, offsets, width, height, bytes
unfoldable pub patch_of : List ℕ → Texture → ℕ → ℕ → ℕ → ℕ → ℕ → List ℕ → Patched
patch_of s t k x y w h patch =
    settle_patch (patch_check (length s) t k x y w h (length patch)) s (patch_store (level_of t k) x y w h patch s)

-- ---- which bytes of the store it writes: 01, Demand 3 in full

-- address a is in one of the rectangle's first h rows
unfoldable pub in_rows : MipLevel → ℕ → ℕ → ℕ → ℕ → ℕ → Bool
in_rows m x y w zero a = false
in_rows m x y w (suc h) a = cond (in_run (row_place m x y h) (w * 4) a) true (in_rows m x y w h a)

unfoldable pub patch_writes : ℕ → Texture → ℕ → ℕ → ℕ → ℕ → ℕ → ℕ → ℕ → Bool
patch_writes n t k x y w h len a = cond (eqb (patch_check n t k x y w h len) 0) (in_rows (level_of t k) x y w h a) false
