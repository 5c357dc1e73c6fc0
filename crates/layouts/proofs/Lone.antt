-- The levels of a record as its layout has them, and a record of level 0 alone. Assumes nothing.
use mathlib.Core.Bool.{Bool, true, false, cond}
use mathlib.Core.Path.{◌≡◌, refl, sym, ap, ◌∙◌}
use mathlib.Core.List.{List}
use Prim.Native.Nat.{ℕ, suc, ◌*◌, ◌<◌}
use native.Mathlib.Omega.{arith}
use lib.Dec.{ltb, eqb}
use lib.ListN.{get_or, drop, get_or-eq_default}
use borrow.Author.Tests.{ltb-true, ltb-false}
use Rattle.lists.specs.Lists.{tab}
use Rattle.lists.proofs.Tables.{length_tab, get_or_tab}
use Rattle.levels.specs.declared.MipLevel.{MipLevel}
use Rattle.levels.specs.Levels.{absent, level_at, levels_of, level_of, fits, valid_of}
use Rattle.levels.proofs.Lone.{Gone, lone_valid, kept_above}
use Rattle.layouts.specs.Words.{word, long}
use Rattle.layouts.specs.Records.{read_level, read_texture}

module _ (b : List ℕ) where
  pub level_first : level_at (read_level b 0).place (read_level b 0).width (read_level b 0).height ≡ level_of (read_texture b) 0
  unfolding level_of levels_of read_texture
  level_first = rw (get_or_tab (read_level b) 11 0 absent (omega arith))

  pub level_above : (k : ℕ) → 0 < k → k < 11 → read_level b k ≡ level_of (read_texture b) k
  unfolding level_of read_texture
  level_above k h n = sym (kept_above (tab 11 (read_level b)) k h ∙ get_or_tab (read_level b) 11 k absent n)

  pub level_past : (k : ℕ) → 10 < k → absent ≡ level_of (read_texture b) k
  unfolding level_of read_texture
  level_past k h =
      sym (kept_above (tab 11 (read_level b)) k (omega arith) ∙ get_or-eq_default (tab 11 (read_level b)) absent (rw (length_tab (read_level b) 11) (omega arith)))

  module _ (lone : (k : ℕ) → 0 < k → k < 11 → word b (k * 20) ≡ 0) where
    absent_at : (k : ℕ) → 0 < k → k < 11 → (read_level b k).present ≡ false
    unfolding read_level
    absent_at k h n = rw (lone k h n) refl

    gone_at : (k : ℕ) → 0 < k → (c : Bool) → ltb k 11 ≡ c → (get_or (tab 11 (read_level b)) k absent).present ≡ false
    gone_at k h true e = ap (λ (m : MipLevel). m.present) (get_or_tab (read_level b) 11 k absent (ltb-true k 11 e)) ∙ absent_at k h (ltb-true k 11 e)
    gone_at k h false e = ap (λ (m : MipLevel). m.present) (get_or-eq_default (tab 11 (read_level b)) absent (rw (length_tab (read_level b) 11) (ltb-false k 11 e)))

    gone : Gone (drop 1 (tab 11 (read_level b)))
    unfolding levels_of
    gone i = ap (λ (m : MipLevel). m.present) (kept_above (tab 11 (read_level b)) (suc i) (omega arith)) ∙ gone_at (suc i) (omega arith) (ltb (suc i) 11) refl

    -- level 0 must fit, and be the top level
    pub lone_layout : (n : ℕ) → cond (fits n (level_of (read_texture b) 0)) (eqb (long b 220) 0) false ≡ valid_of n (read_texture b)
    unfolding valid_of level_of levels_of read_texture
    lone_layout n = sym (lone_valid n _ (drop 1 (tab 11 (read_level b))) (long b 220) gone)
