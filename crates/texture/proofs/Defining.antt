-- What a define's check says where it passes, and the levels that stay. Assumes nothing.
use mathlib.Core.Bool.{Bool, true, false, cond, not}
use mathlib.Core.Path.{◌≡◌, refl, ◌∙◌}
use mathlib.Core.List.{List}
use Prim.Native.Nat.{ℕ, ◌+◌, ◌≤◌, ◌<◌}
use native.Mathlib.Omega.{arith}
use lib.Dec.{ltb, eqb}
use lib.ListN.{get_or}
use borrow.Author.Tests.{ltb-false, eqb-true}
use Rattle.lists.specs.Lists.{tab, any, all}
use Rattle.lists.proofs.Choice.{was_true, was_false}
use Rattle.lists.proofs.Tables.{length_tab, get_or_tab}
use Rattle.lists.proofs.Members.{get_or_all}
use Rattle.levels.specs.declared.MipLevel.{MipLevel}
use Rattle.levels.specs.declared.Texture.{Texture}
use Rattle.levels.specs.Levels.{absent, level_at, levels_of, size_of, overlaps, fits, valid_of}
use Rattle.levels.proofs.Valid.{fits_at}
use Rattle.texture.specs.Define.{stays, stay_at, stay, enterable, place_check, record_check, define_check, outcome, settle}

-- a level that stays is one of the levels, or absent
stay_fit : (n : ℕ) (m : MipLevel) → fits n m ≡ true → (b : Bool) → fits n (cond b m absent) ≡ true
unfolding fits
stay_fit n m e true = e
stay_fit n m e false = refl

pub stay_fits : (n : ℕ) (l : List MipLevel) (k : ℕ) → all (fits n) l ≡ true → all (fits n) (stay l k) ≡ true
unfolding stay stay_at
stay_fits n l k e =
    get_or_all (fits n) absent (tab 11 (stay_at l k))
    (λ i h. rw (get_or_tab (stay_at l k) 11 i absent (rw (length_tab (stay_at l k) 11) at h)) (stay_fit n (get_or l i absent) (fits_at n l e i) (stays k i)))

-- the numbers that are checked first, and what is left
module _ (n : ℕ) (t : Texture) (k w h place len : ℕ) where
  sides_first : {A : Type 0} (p q r : Bool) (x y : A) → cond p x (cond q x (cond r x y)) ≡ cond (cond p false (cond q false (not r))) y x
  sides_first true q r x y = refl
  sides_first false true r x y = refl
  sides_first false false true x y = refl
  sides_first false false false x y = refl

  first : define_check n t k w h place len ≡ cond (enterable k w h) (record_check n t k (level_at place w h) len) 9
  unfolding define_check enterable
  first = sides_first (ltb 1024 w) (ltb 1024 h) (ltb 10 k) 9 (record_check n t k (level_at place w h) len)

  pub sides_pass : enterable k w h ≡ true → define_check n t k w h place len ≡ record_check n t k (level_at place w h) len
  sides_pass e = first ∙ rw e refl

  pub sides_refuse : enterable k w h ≡ false → define_check n t k w h place len ≡ 9
  sides_refuse e = first ∙ rw e refl

pub record Sound (n : ℕ) (t : Texture) (k w h place len : ℕ) : Type 0 where
  pub wide : w ≤ 1024
  pub high : h ≤ 1024
  pub level_in : k < 11
  pub valid : valid_of n t ≡ true
  pub bytes : len ≡ size_of (level_at place w h)
  pub within : place + size_of (level_at place w h) ≤ n
  pub free : any (overlaps (level_at place w h)) (stay (levels_of t.levels) k) ≡ false

-- what the check has shown where it answers 0
pub sound : (n : ℕ) (t : Texture) (k w h place len : ℕ) → define_check n t k w h place len ≡ 0 → Sound n t k w h place len
unfolding define_check record_check place_check
sound n t k w h place len e =
    let m = level_at place w h in
    let a = was_false (ltb 1024 w) e (λ z. omega arith) in
    let b = was_false (ltb 1024 h) a.1 (λ z. omega arith) in
    let d = was_false (ltb 10 k) b.1 (λ z. omega arith) in
    let f = was_true (valid_of n t) d.1 (λ z. omega arith) in
    let g = was_true (eqb len (size_of m)) f.1 (λ z. omega arith) in
    let i = was_false (ltb n (place + size_of m)) g.1 (λ z. omega arith) in
    let j = was_false (any (overlaps m) (stay (levels_of t.levels) k)) i.1 (λ z. omega arith) in
    record {
      wide = ltb-false 1024 w a.0;
      high = ltb-false 1024 h b.0;
      level_in = omega (arith, ltb-false 10 k d.0);
      valid = f.0;
      bytes = eqb-true len (size_of m) g.0;
      within = ltb-false n (place + size_of m) i.0;
      free = j.0;
    }

module _ (n : ℕ) (t : Texture) (s : List ℕ) (t' : Texture) (s' : List ℕ) where
  pub settle_done : n ≡ 0 → settle n t s t' s' ≡ outcome 0 t' s'
  unfolding settle
  settle_done e = rw e

  pub settle_refused : eqb n 0 ≡ false → settle n t s t' s' ≡ outcome n t s
  unfolding settle
  settle_refused e = rw e
