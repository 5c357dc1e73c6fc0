-- The stages in use as a list of their own. Assumes nothing.
use mathlib.Core.Path.{◌≡◌, refl, sym, ◌∙◌}
use mathlib.Core.Bool.{true}
use mathlib.Core.List.{List}
use Prim.Native.Nat.{ℕ, zero, suc, ◌+◌, ◌<◌, ◌≤◌}
use native.Mathlib.Decide.{dec_lt}
use native.Mathlib.Omega.{arith}
use lib.ListN.{length, set, take}
use lib.Ieee.{Float}
use lib.Seq.{get_or-set_same, get_or-set_other, ext_get_or}
use borrow.Author.Tests.{le-ltb, lt-ltb}
use Rattle.std.proofs.lemmas.List.{length-take-le, get_or-take}
use Rattle.lists.specs.Lists.{tab, iter}
use Rattle.lists.proofs.Tables.{length_tab, get_or_tab}
use Rattle.levels.specs.declared.Texture.{Texture}
use Rattle.settings.specs.declared.TextureStage.{TextureStage}
use Rattle.settings.specs.declared.Rgba.{Rgba}
use Rattle.gradients.specs.declared.PerCorner.{PerCorner}
use Rattle.coverage.specs.declared.Primitive.{Primitive}
use Rattle.stages.specs.Stages.{no_stage, no_texture, stage_at, texture_at, stage_step, stages_color}
use Rattle.draw_checks.specs.Checks.{stages_fit}
use Rattle.draw_checks.proofs.Passed.{stages_few}
use Rattle.draw.specs.Draw.{bound_at, bound_to}

-- one more record set, where those before it stand
pub set_more : (units : List Texture) (stages : List TextureStage) (xs : List Texture) (n : ℕ) → n < length xs → ((k : ℕ) → k < n → texture_at xs k ≡ texture_at units (stage_at stages k).unit)
    → (k : ℕ) → k < n + 1 → texture_at (set xs n (texture_at units (stage_at stages n).unit)) k ≡ texture_at units (stage_at stages k).unit
set_more units stages xs n room before k h = go (dec_lt k n)
  where
    go : Dec (k < n) → texture_at (set xs n (texture_at units (stage_at stages n).unit)) k ≡ texture_at units (stage_at stages k).unit
    go (yes l) = get_or-set_other xs n k _ no_texture (λ e. omega (arith, e, l)) ∙ before k l
    go (no l) = let e : k ≡ n = omega arith in rw e (get_or-set_same xs n _ no_texture room)

-- the records of the stages in use are the first of the four
pub bound_first : (units : List Texture) (stages : List TextureStage) (xs : List Texture) (n : ℕ) → n ≤ 4 → length xs ≡ 4 → ((k : ℕ) → k < n → texture_at xs k ≡ texture_at units (stage_at stages k).unit)
    → take n xs ≡ take n (bound_to stages n units)
unfolding bound_to
bound_first units stages xs n few four each =
    let ys = tab 4 (bound_at stages n units) in
    let long : length ys ≡ 4 = length_tab (bound_at stages n units) 4 in
    let a : length (take n xs) ≡ n = length-take-le n xs (omega (arith, four)) in
    let b : length (take n ys) ≡ n = length-take-le n ys (omega (arith, long)) in
    ext_get_or no_texture (take n xs) (take n ys) (a ∙ sym b) (λ i h.
    let k : i < n = omega (arith, a, h) in
    get_or-take n xs i no_texture k ∙ each i k ∙ sym (get_or-take n ys i no_texture k ∙ get_or_tab (bound_at stages n units) 4 i no_texture (omega (arith, few, k)) ∙ rw (lt-ltb i n k) refl))

pub bound_four : (stages : List TextureStage) (n : ℕ) (units : List Texture) → length (bound_to stages n units) ≡ 4
unfolding bound_to
bound_four stages n units = length_tab (bound_at stages n units) 4

-- the first n of the four stages, or of the records that they read
pub in_use : {A : Type 0} (stages : List TextureStage) (n : ℕ) (xs : List A) → stages_fit stages n ≡ true → length xs ≡ 4 → n ≤ length xs
in_use stages n xs fit four = let few = stages_few stages n fit in omega (arith, few, four)

pub bound_cut : (stages : List TextureStage) (n : ℕ) (units : List Texture) → n ≤ length stages → bound_to (take n stages) (length (take n stages)) units ≡ bound_to stages n units
unfolding bound_to
bound_cut stages n units h = rw (length-take-le n stages h) (λ j. tab 4 (λ i. each i (dec_lt i n) j))
  where
    each : (i : ℕ) → Dec (i < n) → bound_at (take n stages) n units i ≡ bound_at stages n units i
    each i (yes k) = let e = get_or-take n stages i no_stage k in cc
    each i (no k) = rw (le-ltb i n (omega arith))

-- two runs whose steps are the same
iter_same : {S : Type 0} (f g : ℕ → S → S) (n : ℕ) (s : S) → ((i : ℕ) (x : S) → i < n → f i x ≡ g i x) → iter n f s ≡ iter n g s
unfolding iter
iter_same f g zero s h = refl
iter_same f g (suc n) s h = rw (iter_same f g n s (λ i x k. h i x (omega (arith, k)))) (h n (iter n g s) (omega arith))

-- the stages in use and their records, cut off, make the same colour
pub colors_cut : (store : List ℕ) (stages : List TextureStage) (n : ℕ) (xs : List Texture) (t : Primitive) (w : PerCorner Float) (rec : Float) (frag : Rgba) → n ≤ length stages → n ≤ length xs
    → stages_color store (take n stages) (length (take n stages)) (take n xs) t w rec frag ≡ stages_color store stages n xs t w rec frag
unfolding stages_color stage_step
colors_cut store stages n xs t w rec frag h g = rw (length-take-le n stages h) (iter_same (stage_step store (take n stages) (take n xs) t w rec) (stage_step store stages xs t w rec) n frag each)
  where
    each : (i : ℕ) (c : Rgba) → i < n → stage_step store (take n stages) (take n xs) t w rec i c ≡ stage_step store stages xs t w rec i c
    each i c k = rw (get_or-take n stages i no_stage k, get_or-take n xs i no_texture k)
