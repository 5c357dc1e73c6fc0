-- What validity says of each kept level. Assumes nothing.
use mathlib.Core.Bool.{true, false}
use mathlib.Core.Path.{◌≡◌, refl, sym, ◌∙◌}
use mathlib.Core.List.{List, [], ◌∷◌}
use Prim.Native.Nat.{ℕ, ◌+◌, ◌≤◌, ◌<◌}
use native.Mathlib.Omega.{arith}
use lib.Dec.{leb, ltb, leb-zero}
use lib.ListN.{length, get_or, set}
use borrow.Author.Tests.{leb-true, leb-false, ltb-true, eqb-true, le-leb, lt-ltb, le-ltb, eq-eqb}
use Rattle.std.proofs.lemmas.Bool.{false≢true}
use Rattle.lists.specs.Lists.{all}
use Rattle.lists.proofs.Choice.{was_true}
use Rattle.lists.proofs.Members.{all_get_d}
use Rattle.std.proofs.lemmas.Bool.{false≢true}
use Rattle.levels.specs.declared.MipLevel.{MipLevel}
use Rattle.levels.specs.declared.Texture.{Texture}
use Rattle.levels.proofs.Chain.{chain_complete, top_bound}
use Rattle.levels.specs.Levels.{absent, levels_of, level_of, size_of, new_texture, complete, top_of, fits, Fits, overlap, overlaps, apart, valid_levels, valid_of}

pub fits_known : (n : ℕ) (m : MipLevel) → fits n m ≡ true → m.present ≡ true → Fits n m
unfolding fits size_of
fits_known n m e p =
    let a = was_true (leb m.width 1024) (rw p at e) false≢true in
    let b = was_true (leb m.height 1024) a.1 false≢true in
    record {
      wide = leb-true m.width 1024 a.0;
      high = leb-true m.height 1024 b.0;
      within = leb-true (m.place + size_of m) n b.1;
    }

-- of all levels, one at an index
pub fits_at : (n : ℕ) (l : List MipLevel) → all (fits n) l ≡ true → (i : ℕ) → fits n (get_or l i absent) ≡ true
unfolding fits
fits_at n l e i = all_get_d (fits n) absent l e refl i

-- a store of level 0 with its flag set
pub levels_are : (l : List MipLevel) → 0 < length l
    → set l 0 (record { present = true; place = (get_or l 0 absent).place; width = (get_or l 0 absent).width; height = (get_or l 0 absent).height }) ≡ levels_of l
unfolding levels_of
levels_are [] h = absurd (omega arith)
levels_are (m ∷ l) h = refl

pub complete_present : (m : MipLevel) → complete m ≡ true → m.present ≡ true
unfolding complete
complete_present m e = (was_true m.present e false≢true).0

pub complete_wide : (m : MipLevel) → complete m ≡ true → 0 < m.width
unfolding complete
complete_wide m e = ltb-true 0 m.width (was_true (ltb 0 m.width) (was_true m.present e false≢true).1 false≢true).0

pub complete_high : (m : MipLevel) → complete m ≡ true → 0 < m.height
unfolding complete
complete_high m e = ltb-true 0 m.height (was_true (ltb 0 m.width) (was_true m.present e false≢true).1 false≢true).1

-- ---- what a valid record is known by

module _ (n : ℕ) (t : Texture) (v : valid_of n t ≡ true) where
  pub valid_fits : all (fits n) (levels_of t.levels) ≡ true
  unfolding valid_of valid_levels
  valid_fits = (was_true (all (fits n) (levels_of t.levels)) v false≢true).0

  pub valid_apart : apart (levels_of t.levels) ≡ true
  unfolding valid_of valid_levels
  valid_apart = (was_true (apart (levels_of t.levels)) (was_true (all (fits n) (levels_of t.levels)) v false≢true).1 false≢true).0

  pub valid_top : t.max_mipmap_level ≡ top_of (levels_of t.levels)
  unfolding valid_of valid_levels
  valid_top =
      let a = was_true (all (fits n) (levels_of t.levels)) v false≢true in
      let b = was_true (apart (levels_of t.levels)) a.1 false≢true in
      eqb-true t.max_mipmap_level (top_of (levels_of t.levels)) b.1

  -- a kept level has sides of at most 1,024 and its bytes within the store
  pub valid_level : (k : ℕ) → (level_of t k).present ≡ true → Fits n (level_of t k)
  unfolding level_of
  valid_level k p = fits_known n (get_or (levels_of t.levels) k absent) (fits_at n (levels_of t.levels) valid_fits k) p

  -- the levels up to the top one are complete where level 0 is
  pub valid_chain : complete (level_of t 0) ≡ true → (k : ℕ) → k ≤ t.max_mipmap_level → complete (level_of t k) ≡ true
  unfolding level_of
  valid_chain e k h = chain_complete (levels_of t.levels) e k (rw (sym valid_top) h)

pub length_levels : (l : List MipLevel) → 0 < length l → length (levels_of l) ≡ length l
unfolding levels_of
length_levels [] h = absurd (omega arith)
length_levels (m ∷ l) h = refl

-- level 0 is never absent, and the flag is the only change
pub level_0_kept : (t : Texture) → (level_of t 0).present ≡ true
unfolding level_of levels_of
level_0_kept t = refl

pub levels_same : (l : List MipLevel) → 0 < length l → (get_or l 0 absent).present ≡ true → levels_of l ≡ l
unfolding levels_of
levels_same [] h e = absurd (omega arith)
levels_same (m ∷ l) h e = rw (sym e) refl

pub valid_top_in : (n : ℕ) (t : Texture) → valid_of n t ≡ true → length t.levels ≡ 11 → t.max_mipmap_level < 11
valid_top_in n t v e =
    let h = length_levels t.levels (omega arith) ∙ e in
    omega (arith, valid_top n t v, top_bound (levels_of t.levels) (omega arith))

pub new_valid : (n : ℕ) → valid_of n new_texture ≡ true
unfolding valid_of valid_levels new_texture levels_of fits apart overlaps overlap top_of complete size_of
new_valid n = rw (leb-zero n)

-- where the sides are small enough, a kept level fits as its end does
module _ (n : ℕ) (m : MipLevel) (p : m.present ≡ true) (w : m.width ≤ 1024) (h : m.height ≤ 1024) where
  pub fits_end : fits n m ≡ leb (m.place + size_of m) n
  unfolding fits size_of
  fits_end = rw (p, le-leb m.width 1024 w, le-leb m.height 1024 h)

  pub fits_past : fits n m ≡ false → ltb n (m.place + size_of m) ≡ true
  fits_past e = lt-ltb n (m.place + size_of m) (leb-false (m.place + size_of m) n (sym fits_end ∙ e))

  pub fits_within : fits n m ≡ true → ltb n (m.place + size_of m) ≡ false
  fits_within e = le-ltb n (m.place + size_of m) (leb-true (m.place + size_of m) n (sym fits_end ∙ e))

pub valid_make : (n : ℕ) (t : Texture) → all (fits n) (levels_of t.levels) ≡ true → apart (levels_of t.levels) ≡ true
    → t.max_mipmap_level ≡ top_of (levels_of t.levels) → valid_of n t ≡ true
unfolding valid_of valid_levels
valid_make n t a b e = rw (a, b) (eq-eqb t.max_mipmap_level (top_of (levels_of t.levels)) e)
