-- What becomes of a record's levels through a define, and that a valid record stays valid through all three operations. Assumes nothing.
use mathlib.Core.Bool.{Bool, true, false, cond}
use mathlib.Core.Path.{◌≡◌, refl, sym, ap, ◌∙◌}
use mathlib.Core.List.{List}
use mathlib.Core.Logic.{◌⊎◌, inl, inr}
use Prim.Native.Nat.{ℕ, ◌+◌, ◌<◌}
use native.Mathlib.Decide.{dec_lt}
use native.Mathlib.Omega.{arith}
use lib.Dec.{ltb, eqb}
use lib.ListN.{length, get_or, length-set, get_or-eq_default}
use lib.Seq.{get_or-set_same, get_or-set_other}
use borrow.Author.Tests.{eqb-true, eqb-false, lt-ltb, le-ltb, le-leb, eq-eqb, ne_eqb}
use Rattle.std.proofs.Common.{Result, Ok, Err}
use Rattle.lists.specs.Lists.{any, all}
use Rattle.lists.proofs.Tables.{length_tab, get_or_tab}
use Rattle.lists.proofs.Members.{get_or_all}
use Rattle.answers.specs.declared.Refusal.{Refusal}
use Rattle.levels.specs.declared.MipLevel.{MipLevel}
use Rattle.levels.specs.declared.MinFilter.{MinFilter}
use Rattle.levels.specs.declared.Filter.{Filter}
use Rattle.levels.specs.declared.Wrap.{Wrap}
use Rattle.levels.specs.declared.Texture.{Texture}
use Rattle.levels.specs.Levels.{absent, level_at, levels_of, level_of, size_of, top_of, overlaps, apart, fits, valid_of}
use Rattle.levels.proofs.Apart.{apart_at, apart_make, overlaps_none, overlaps_gone, overlaps_sym}
use Rattle.levels.proofs.Chain.{top_bound}
use Rattle.levels.proofs.Valid.{fits_at, valid_fits, valid_apart, valid_make, levels_same, fits_end}
use Rattle.texture.specs.Define.{stays, stay_at, stay, enter_level, define_record, define_check, Outcome, define_of}
use Rattle.consts.specs.Codes.{GL_TEXTURE_MAG_FILTER, GL_TEXTURE_MIN_FILTER, GL_TEXTURE_WRAP_S, GL_TEXTURE_WRAP_T}
use Rattle.levels.specs.Codes.{min_filter_of, filter_of, wrap_of}
use Rattle.texture.specs.Parameters.{with_min_filter, with_mag_filter, with_wrap_s, with_wrap_t, set_check, set_record, setting, set_of}
use Rattle.texture.proofs.Defining.{Sound, sound}
use Rattle.texture.proofs.Written.{define_done, define_refused, define_length}

-- ---- the levels after a define

fits_absent : (n : ℕ) → fits n absent ≡ true
unfolding fits
fits_absent n = refl

module _ (l : List MipLevel) (k : ℕ) where
  length_stay : length (stay l k) ≡ 11
  unfolding stay
  length_stay = length_tab (stay_at l k) 11

  -- what stands at i among the levels that stay
  stay_at_is : (i : ℕ) → i < 11 → get_or (stay l k) i absent ≡ cond (stays k i) (get_or l i absent) absent
  unfolding stay stay_at
  stay_at_is i h = get_or_tab (stay_at l k) 11 i absent h

  -- it is one of the levels, or absent
  kept : (i : ℕ) → Bool
  kept i = cond (ltb i 11) (stays k i) false

  stay_get : (i : ℕ) → get_or (stay l k) i absent ≡ cond (kept i) (get_or l i absent) absent
  unfolding kept
  stay_get i = here (dec_lt i 11)
    where
      here : Dec (i < 11) → get_or (stay l k) i absent ≡ cond (kept i) (get_or l i absent) absent
      here (yes h) = stay_at_is i h ∙ rw (lt-ltb i 11 h)
      here (no h) = get_or-eq_default (stay l k) absent (omega (arith, length_stay)) ∙ rw (le-ltb i 11 (omega arith))

  stay_fit : (n : ℕ) → all (fits n) l ≡ true → (i : ℕ) → fits n (get_or (stay l k) i absent) ≡ true
  stay_fit n e i = ap (fits n) (stay_get i) ∙ one (kept i)
    where
      one : (b : Bool) → fits n (cond b (get_or l i absent) absent) ≡ true
      one true = fits_at n l e i
      one false = fits_absent n

  stay_apart : apart l ≡ true → (i j : ℕ) → i < j → overlaps (get_or (stay l k) i absent) (get_or (stay l k) j absent) ≡ false
  stay_apart e i j h = rw (stay_get i, stay_get j) (two (kept i) (kept j))
    where
      two : (a b : Bool) → overlaps (cond a (get_or l i absent) absent) (cond b (get_or l j absent) absent) ≡ false
      two true true = apart_at l e i j h
      two true false = (overlaps_gone (get_or l i absent)).0
      two false b = (overlaps_gone (cond b (get_or l j absent) absent)).1

module _ (l : List MipLevel) (k : ℕ) (m : MipLevel) (h : k < 11) where
  length_enter : length (enter_level l k m) ≡ 11
  unfolding enter_level
  length_enter = length-set (stay l k) k m ∙ length_stay l k

  -- level k is the one defined
  pub enter_same : get_or (enter_level l k m) k absent ≡ m
  unfolding enter_level
  enter_same = get_or-set_same (stay l k) k m absent (omega (arith, length_stay l k))

  enter_other : (i : ℕ) → (i ≡ k → ⊥) → get_or (enter_level l k m) i absent ≡ get_or (stay l k) i absent
  unfolding enter_level
  enter_other i n = get_or-set_other (stay l k) k i m absent n

  enter_fit : (n : ℕ) → all (fits n) l ≡ true → fits n m ≡ true → (i : ℕ) → fits n (get_or (enter_level l k m) i absent) ≡ true
  enter_fit n e f i = here (eqb i k) refl
    where
      here : (b : Bool) → eqb i k ≡ b → fits n (get_or (enter_level l k m) i absent) ≡ true
      here true q = ap (λ (j : ℕ). fits n (get_or (enter_level l k m) j absent)) (eqb-true i k q) ∙ ap (fits n) enter_same ∙ f
      here false q = ap (fits n) (enter_other i (eqb-false i k q)) ∙ stay_fit l k n e i

  enter_apart : apart l ≡ true → any (overlaps m) (stay l k) ≡ false → (i j : ℕ) → i < j
      → overlaps (get_or (enter_level l k m) i absent) (get_or (enter_level l k m) j absent) ≡ false
  enter_apart e f i j o = here (eqb i k) (eqb j k) refl refl
    where
      here : (a b : Bool) → eqb i k ≡ a → eqb j k ≡ b → overlaps (get_or (enter_level l k m) i absent) (get_or (enter_level l k m) j absent) ≡ false
      here true true p q = absurd (omega (arith, eqb-true i k p, eqb-true j k q))
      here true false p q =
          rw (eqb-true i k p, enter_same, enter_other j (eqb-false j k q)) (overlaps_none m (stay l k) f j)
      here false true p q =
          rw (eqb-true j k q, enter_same, enter_other i (eqb-false i k p)) (overlaps_sym (get_or (stay l k) i absent) m ∙ overlaps_none m (stay l k) f i)
      here false false p q = rw (enter_other i (eqb-false i k p), enter_other j (eqb-false j k q)) (stay_apart l k e i j o)

-- ---- the record after a define

stays_first : (k : ℕ) → 0 < k → stays k 0 ≡ true
unfolding stays
stays_first k h = rw (lt-ltb 0 k h)

first_of : (l : List MipLevel) → (get_or (levels_of l) 0 absent).present ≡ true
unfolding levels_of
first_of l = refl

module _ (t : Texture) (k w h place : ℕ) (i : k < 11) where
  -- level 0 keeps its flag
  first_kept : (get_or (enter_level (levels_of t.levels) k (level_at place w h)) 0 absent).present ≡ true
  first_kept = here (eqb 0 k) refl
    where
      l : List MipLevel
      l = levels_of t.levels

      here : (b : Bool) → eqb 0 k ≡ b → (get_or (enter_level l k (level_at place w h)) 0 absent).present ≡ true
      here true e =
          ap (λ (j : ℕ). (get_or (enter_level l k (level_at place w h)) j absent).present) (eqb-true 0 k e)
          ∙ ap (λ (m : MipLevel). m.present) (enter_same l k (level_at place w h) i)
      here false e =
          let n = eqb-false 0 k e in
          ap (λ (m : MipLevel). m.present) (enter_other l k (level_at place w h) i 0 n ∙ stay_at_is l k 0 (omega arith)) ∙ rw (stays_first k (omega arith)) (first_of t.levels)

  record_levels : levels_of (define_record t k (level_at place w h)).levels ≡ enter_level (levels_of t.levels) k (level_at place w h)
  unfolding define_record
  record_levels =
      levels_same (enter_level (levels_of t.levels) k (level_at place w h))
      (omega (arith, length_enter (levels_of t.levels) k (level_at place w h) i)) first_kept

  -- the top level after a define is that of the chain that it leaves
  pub define_top : (define_record t k (level_at place w h)).max_mipmap_level ≡ top_of (levels_of (define_record t k (level_at place w h)).levels)
  unfolding define_record
  define_top = ap top_of (sym record_levels)

  -- level k is the one defined
  pub define_enters : level_of (define_record t k (level_at place w h)) k ≡ level_at place w h
  unfolding level_of
  define_enters = ap (λ (l : List MipLevel). get_or l k absent) record_levels ∙ enter_same (levels_of t.levels) k (level_at place w h) i

  other : (j : ℕ) → (j ≡ k → ⊥) → j < 11 → level_of (define_record t k (level_at place w h)) j ≡ cond (stays k j) (level_of t j) absent
  unfolding level_of
  other j n q =
      ap (λ (l : List MipLevel). get_or l j absent) record_levels
      ∙ enter_other (levels_of t.levels) k (level_at place w h) i j n
      ∙ stay_at_is (levels_of t.levels) k j q

  -- a level that does not stay is the one defined, or none
  pub define_puts : (j : ℕ) → j < 11 → stays k j ≡ false
      → (get_or (define_record t k (level_at place w h)).levels j absent ≡ level_at place w h) ⊎ (get_or (define_record t k (level_at place w h)).levels j absent ≡ absent)
  unfolding define_record
  define_puts j q e = here (eqb j k) refl
    where
      l : List MipLevel
      l = levels_of t.levels

      here : (b : Bool) → eqb j k ≡ b
          → (get_or (enter_level l k (level_at place w h)) j absent ≡ level_at place w h) ⊎ (get_or (enter_level l k (level_at place w h)) j absent ≡ absent)
      here true p =
          inl (ap (λ (x : ℕ). get_or (enter_level l k (level_at place w h)) x absent) (eqb-true j k p) ∙ enter_same l k (level_at place w h) i)
      here false p = inr (enter_other l k (level_at place w h) i j (eqb-false j k p) ∙ stay_at_is l k j q ∙ rw e refl)

  -- and the top level is one of the eleven
  pub define_top_in : (define_record t k (level_at place w h)).max_mipmap_level < 11
  unfolding define_record
  define_top_in =
      let l : List MipLevel = enter_level (levels_of t.levels) k (level_at place w h) in
      let n = length_enter (levels_of t.levels) k (level_at place w h) i in
      omega (arith, n, top_bound l (omega (arith, n)))

  -- 01, Corners: the levels above k are dropped for k above 0
  pub define_drops : (j : ℕ) → 0 < k → k < j → j < 11 → level_of (define_record t k (level_at place w h)) j ≡ absent
  unfolding stays
  define_drops j a b q = other j (λ e. omega arith) q ∙ rw (le-ltb j k (omega arith), ne_eqb k 0 (λ e. omega arith))

  pub define_keeps : (j : ℕ) → j < k → level_of (define_record t k (level_at place w h)) j ≡ level_of t j
  unfolding stays
  define_keeps j a = other j (λ e. omega arith) (omega arith) ∙ rw (lt-ltb j k a)

  -- level 0 drops none
  pub define_keeps_all : (j : ℕ) → k ≡ 0 → 0 < j → j < 11 → level_of (define_record t k (level_at place w h)) j ≡ level_of t j
  unfolding stays
  define_keeps_all j a b q = other j (λ e. omega arith) q ∙ rw (le-ltb j k (omega arith), eq-eqb k 0 a, lt-ltb 0 j b)

sound_fits : (n : ℕ) (t : Texture) (k w h place len : ℕ) → Sound n t k w h place len → fits n (level_at place w h) ≡ true
sound_fits n t k w h place len b =
    fits_end n (level_at place w h) refl b.wide b.high ∙ le-leb (place + size_of (level_at place w h)) n b.within

define_record_valid : (n : ℕ) (t : Texture) (k w h place len : ℕ) → Sound n t k w h place len → valid_of n (define_record t k (level_at place w h)) ≡ true
define_record_valid n t k w h place len b =
    let m = level_at place w h in
    let l = levels_of t.levels in
    let e = record_levels t k w h place b.level_in in
    valid_make n (define_record t k m)
    (rw e (get_or_all (fits n) absent (enter_level l k m) (λ i o. enter_fit l k m b.level_in n (valid_fits n t b.valid) (sound_fits n t k w h place len b) i)))
    (rw e (apart_make (enter_level l k m) (λ i j o. enter_apart l k m b.level_in (valid_apart n t b.valid) b.free i j o)))
    (define_top t k w h place b.level_in)

-- ---- a valid record stays valid

pub define_valid : (s : List ℕ) (t : Texture) (k w h place : ℕ) (rgba : List ℕ) → valid_of (length s) t ≡ true
    → valid_of (length (define_of s t k w h place rgba).store) (define_of s t k w h place rgba).texture ≡ true
define_valid s t k w h place rgba v = rw (define_length s t k w h place rgba) (here (eqb (define_check (length s) t k w h place (length rgba)) 0) refl)
  where
    here : (b : Bool) → eqb (define_check (length s) t k w h place (length rgba)) 0 ≡ b → valid_of (length s) (define_of s t k w h place rgba).texture ≡ true
    here true e =
        let z = eqb-true (define_check (length s) t k w h place (length rgba)) 0 e in
        ap (λ (o : Outcome). valid_of (length s) o.texture) (define_done s t k w h place rgba z)
        ∙ define_record_valid (length s) t k w h place (length rgba) (sound (length s) t k w h place (length rgba) z)
    here false e = ap (λ (o : Outcome). valid_of (length s) o.texture) (define_refused s t k w h place rgba e) ∙ v

min_valid : (n : ℕ) (c : Result MinFilter Refusal) (t : Texture) → valid_of n (with_min_filter c t) ≡ valid_of n t
unfolding valid_of
min_valid n (Ok f) t = refl
min_valid n (Err why) t = refl

mag_valid : (n : ℕ) (c : Result Filter Refusal) (t : Texture) → valid_of n (with_mag_filter c t) ≡ valid_of n t
unfolding valid_of
mag_valid n (Ok f) t = refl
mag_valid n (Err why) t = refl

wrap_s_valid : (n : ℕ) (c : Result Wrap Refusal) (t : Texture) → valid_of n (with_wrap_s c t) ≡ valid_of n t
unfolding valid_of
wrap_s_valid n (Ok w) t = refl
wrap_s_valid n (Err why) t = refl

wrap_t_valid : (n : ℕ) (c : Result Wrap Refusal) (t : Texture) → valid_of n (with_wrap_t c t) ≡ valid_of n t
unfolding valid_of
wrap_t_valid n (Ok w) t = refl
wrap_t_valid n (Err why) t = refl

either : (n : ℕ) (t a c : Texture) → valid_of n a ≡ valid_of n t → valid_of n c ≡ valid_of n t → (b : Bool) → valid_of n (cond b a c) ≡ valid_of n t
either n t a c p q true = p
either n t a c p q false = q

-- a setting changes no record's validity
pub set_valid : (n : ℕ) (t : Texture) (p v : ℕ) → valid_of n (set_of t p v).texture ≡ valid_of n t
unfolding set_of set_record
set_valid n t p v = here (eqb (set_check p v) 0)
  where
    changed : valid_of n (set_record t p v) ≡ valid_of n t
    changed =
        either n t _ _ (min_valid n (min_filter_of v) t)
        (either n t _ _ (mag_valid n (filter_of v) t)
        (either n t _ _ (wrap_s_valid n (wrap_of v) t)
        (either n t _ _ (wrap_t_valid n (wrap_of v) t) refl (eqb p GL_TEXTURE_WRAP_T))
        (eqb p GL_TEXTURE_WRAP_S))
        (eqb p GL_TEXTURE_MAG_FILTER))
        (eqb p GL_TEXTURE_MIN_FILTER)

    here : (b : Bool) → valid_of n (cond b (setting 0 (set_record t p v)) (setting (set_check p v) t)).texture ≡ valid_of n t
    here true = changed
    here false = refl
