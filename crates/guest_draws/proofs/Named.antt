-- The records that a draw's stages read hang on the textures that it names. Assumes nothing.
use mathlib.Core.Path.{◌≡◌, refl, sym, ap, ◌∙◌}
use mathlib.Core.Logic.{inl}
use mathlib.Core.Bool.{Bool, true, false, cond}
use mathlib.Core.List.{[], ◌∷◌, ◌++◌}
use Prim.Native.Nat.{ℕ, zero, suc, ◌<◌}
use native.Mathlib.Decide.{dec_lt}
use native.Mathlib.Omega.{arith}
use lib.Dec.{ltb}
use lib.ListN.{get_or-eq_default}
use borrow.Author.Tests.{ltb-true}
use Rattle.lists.specs.Lists.{tab}
use Rattle.lists.proofs.Tables.{length_tab, get_or_tab, tab_same}
use Rattle.levels.specs.declared.Texture.{Texture}
use Rattle.levels.specs.Levels.{new_texture}
use Rattle.isolation.specs.Machine.{In}
use Rattle.frames.proofs.Fragments.{in_left, in_right}
use Rattle.stages.specs.Stages.{stage_at, texture_at, no_texture}
use Rattle.draw.specs.Draw.{bound_to}
use Rattle.guest_draws.specs.Draw.{DrawCall, name_at, records_of, stage_records, names_of}

-- ---- tables

pub in_tab : {A : Type 0} (n : ℕ) (f : ℕ → A) (i : ℕ) → i < n → In (f i) (tab n f)
unfolding tab
in_tab zero f i b = absurd (omega arith)
in_tab {A} (suc n) f i b = go (dec_lt i n) (in_tab n f i)
  where
    go : Dec (i < n) → (i < n → In (f i) (tab n f)) → In (f i) (tab n f ++ (f n ∷ []))
    go (yes k) r = in_left (f i) (tab n f) _ (r k)
    go (no k) r = let e : i ≡ n = omega arith in in_right (f i) (tab n f) _ (inl (ap f e))

-- ---- names

-- a stage in use names its unit's texture
pub names_stage : (x : DrawCall) (i : ℕ) → i < x.args.count → In (name_at x (stage_at x.args.stages i).unit) (names_of x)
unfolding names_of
names_stage x i b = in_tab x.args.count (λ j. name_at x (stage_at x.args.stages j).unit) i b

-- unit u's record, or what stands past the four
pub unit_record : (x : DrawCall) (f : ℕ → Texture) (u : ℕ) → u < 4 → texture_at (records_of x f) u ≡ f (name_at x u)
unfolding records_of
unit_record x f u b = get_or_tab (λ v. f (name_at x v)) 4 u no_texture b

no_record : (x : DrawCall) (f : ℕ → Texture) (u : ℕ) → (u < 4 → ⊥) → texture_at (records_of x f) u ≡ no_texture
unfolding records_of
no_record x f u n = get_or-eq_default (records_of x f) no_texture (rw (length_tab (λ v. f (name_at x v)) 4) (omega arith))

unit_same : (x : DrawCall) (f g : ℕ → Texture) (u : ℕ) → f (name_at x u) ≡ g (name_at x u) → texture_at (records_of x f) u ≡ texture_at (records_of x g) u
unit_same x f g u e = go (dec_lt u 4)
  where
    go : Dec (u < 4) → texture_at (records_of x f) u ≡ texture_at (records_of x g) u
    go (yes b) = unit_record x f u b ∙ e ∙ sym (unit_record x g u b)
    go (no n) = no_record x f u n ∙ sym (no_record x g u n)

-- the same records under the names, the same records for the stages
pub records_same : (x : DrawCall) (f g : ℕ → Texture) → ((n : ℕ) → In n (names_of x) → f n ≡ g n) → stage_records x f ≡ stage_records x g
unfolding bound_to
records_same x f g h = tab_same 4 _ _ (λ i b. go i (ltb i x.args.count) refl)
  where
    go : (i : ℕ) (y : Bool) → ltb i x.args.count ≡ y
        → cond y (texture_at (records_of x f) (stage_at x.args.stages i).unit) new_texture ≡ cond y (texture_at (records_of x g) (stage_at x.args.stages i).unit) new_texture
    go i true e = unit_same x f g (stage_at x.args.stages i).unit (h _ (names_stage x i (ltb-true i x.args.count e)))
    go i false e = refl
