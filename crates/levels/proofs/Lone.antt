-- A record whose levels above 0 are all absent, told from level 0 alone. Assumes nothing.
use mathlib.Core.Bool.{Bool, true, false, cond, ◌&&◌}
use mathlib.Core.Path.{◌≡◌, refl}
use mathlib.Core.List.{List, [], ◌∷◌}
use Prim.Native.Nat.{ℕ, zero, suc, ◌<◌}
use native.Mathlib.Omega.{arith}
use lib.Dec.{eqb}
use lib.ListN.{get_or}
use Rattle.lists.proofs.Choice.{neither}
use Rattle.lists.specs.Lists.{any, all}
use Rattle.levels.specs.declared.MipLevel.{MipLevel}
use Rattle.levels.specs.Levels.{absent, levels_of, complete, follows, single, climb, top_of, fits, overlaps, apart, valid_levels}

-- none of the levels is kept
abbrev pub Gone : List MipLevel → Type 0
Gone l = (i : ℕ) → (get_or l i absent).present ≡ false

module _ (m : MipLevel) (e : m.present ≡ false) where
  gone_fits : (n : ℕ) → fits n m ≡ true
  unfolding fits
  gone_fits n = rw e

  gone_apart : (a : MipLevel) → overlaps a m ≡ false
  unfolding overlaps
  gone_apart a = rw e (neither a.present)

  gone_incomplete : complete m ≡ false
  unfolding complete
  gone_incomplete = rw e

all_fit : (n : ℕ) (l : List MipLevel) → Gone l → all (fits n) l ≡ true
all_fit n [] g = refl
all_fit n (m ∷ l) g = rw (gone_fits m (g 0) n) (all_fit n l (λ i. g (suc i)))

none_overlap : (a : MipLevel) (l : List MipLevel) → Gone l → any (overlaps a) l ≡ false
none_overlap a [] g = refl
none_overlap a (m ∷ l) g = rw (gone_apart m (g 0) a) (none_overlap a l (λ i. g (suc i)))

all_apart : (l : List MipLevel) → Gone l → apart l ≡ true
unfolding apart
all_apart [] g = refl
all_apart (m ∷ l) g = rw (none_overlap m l (λ i. g (suc i))) (all_apart l (λ i. g (suc i)))

no_climb : (w h : ℕ) (l : List MipLevel) → Gone l → climb 0 w h l ≡ 0
unfolding climb follows
no_climb w h [] g = refl
no_climb w h (m ∷ l) g = rw (gone_incomplete m (g 0), neither (single w h))

same_both : (p : Bool) → cond {A = ℕ} p 0 0 ≡ 0
same_both true = refl
same_both false = refl

-- level 0 must fit, and be the top level
pub lone_valid : (n : ℕ) (m : MipLevel) (l : List MipLevel) (top : ℕ) → Gone l → valid_levels n (m ∷ l) top ≡ cond (fits n m) (eqb top 0) false
unfolding valid_levels apart top_of
lone_valid n m l top g =
    rw (all_fit n l g, none_overlap m l g, all_apart l g, no_climb m.width m.height l g, same_both (complete m)) (split (fits n m))
  where
    split : (p : Bool) → cond {A = Bool} (p && true) (eqb top 0) false ≡ cond p (eqb top 0) false
    split true = refl
    split false = refl

-- above level 0 the levels are as they stand
pub kept_above : (l : List MipLevel) (k : ℕ) → 0 < k → get_or (levels_of l) k absent ≡ get_or l k absent
unfolding levels_of
kept_above l zero h = absurd (omega arith)
kept_above [] (suc k) h = refl
kept_above (m ∷ l) (suc k) h = refl
