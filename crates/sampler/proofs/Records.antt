-- A texture's level as the code reads it from the record's array: level 0's flag apart, it is `level_of`. Assumes nothing.
use Prim.Native.Nat.{ℕ, zero, suc, ◌+◌, ◌≤◌, ◌<◌}
use mathlib.Core.Path.{◌≡◌, refl, ap, subst, ◌∙◌}
use mathlib.Core.Bool.{true, false}
use mathlib.Core.List.{List}
use native.Mathlib.Omega.{arith}
use lib.Dec.{ltb}
use lib.ListN.{length, get_or}
use lib.Seq.{get_or-drop}
use lib.Ieee.{Float}
use borrow.Author.Tests.{lt-ltb}
use Rattle.lists.proofs.Choice.{neither}
use Rattle.levels.specs.declared.MipLevel.{MipLevel}
use Rattle.levels.specs.declared.Texture.{Texture}
use Rattle.levels.specs.declared.Wrap.{Wrap}
use Rattle.levels.specs.declared.Filter.{Filter}
use Rattle.levels.specs.declared.Filter.TheVariants.{Nearest, Linear}
use Rattle.levels.specs.Levels.{level_at, absent, levels_of, level_of, size_of, complete, Fits, valid_of}
use Rattle.levels.proofs.Valid.{valid_level, valid_chain, valid_top_in, complete_present, complete_wide, complete_high}
use Rattle.sampler.specs.Addresses.{texel_addresses, nearest_addresses, linear_addresses, filter_addresses, bytes_at}
use Rattle.sampler.specs.Samples.{filter_texel, level_texel, Readable}

-- what hangs on the place and the sides alone
by_fields : (P : MipLevel → Type 0) → ((m : MipLevel) → P (level_at m.place m.width m.height) → P m) → (x : Texture) (k : ℕ) → P (level_of x k) → P (get_or x.levels k absent)
unfolding level_of levels_of
by_fields P f x zero h = f (get_or x.levels 0 absent) h
by_fields P f x (suc k) h = subst P (get_or-drop 1 x.levels k absent ∙ ap (λ (i : ℕ). get_or x.levels i absent) (one_more k)) h
  where
    one_more : (k : ℕ) → 1 + k ≡ suc k
    one_more k = omega arith

moved : (n : ℕ) (m : MipLevel) → Fits n (level_at m.place m.width m.height) → Fits n m
unfolding size_of
moved n m f = record { wide = f.wide; high = f.high; within = f.within }

module _ (n : ℕ) (x : Texture) (r : Readable n x) (k : ℕ) (h : k ≤ x.max_mipmap_level) where
  pub level_in : k < 11
  level_in = omega (arith, r.few)

  whole_level : complete (level_of x k) ≡ true
  whole_level = valid_chain n x r.valid r.whole k h

  pub level_fits : Fits n (get_or x.levels k absent)
  level_fits = by_fields (λ (m : MipLevel). Fits n m) (moved n) x k (valid_level n x r.valid k (complete_present (level_of x k) whole_level))

  pub level_wide : 0 < (get_or x.levels k absent).width
  level_wide = by_fields (λ (m : MipLevel). 0 < m.width) (λ m z. z) x k (complete_wide (level_of x k) whole_level)

  pub level_high : 0 < (get_or x.levels k absent).height
  level_high = by_fields (λ (m : MipLevel). 0 < m.height) (λ m z. z) x k (complete_high (level_of x k) whole_level)

  pub level_ready : Fits n (get_or x.levels k absent) × (0 < (get_or x.levels k absent).width) × (0 < (get_or x.levels k absent).height)
  level_ready = (level_fits, level_wide, level_high)

module _ (store : List ℕ) (ws wt : Wrap) (s t : Float) where
  flagless : (f : Filter) (m : MipLevel) → filter_texel f m s t (bytes_at store (filter_addresses f m ws wt s t))
      ≡ filter_texel f (level_at m.place m.width m.height) s t (bytes_at store (filter_addresses f (level_at m.place m.width m.height) ws wt s t))
  unfolding filter_texel filter_addresses nearest_addresses linear_addresses texel_addresses
  flagless Nearest m = refl
  flagless Linear m = refl

pub level_sample : (store : List ℕ) (x : Texture) (k : ℕ) (f : Filter) (s t : Float)
    → filter_texel f (get_or x.levels k absent) s t (bytes_at store (filter_addresses f (get_or x.levels k absent) x.wrap_s x.wrap_t s t)) ≡ level_texel store x k f s t
unfolding level_texel
level_sample store x k f s t =
    by_fields (λ (m : MipLevel). filter_texel f m s t (bytes_at store (filter_addresses f m x.wrap_s x.wrap_t s t)) ≡ level_texel store x k f s t)
    (λ m e. flagless store x.wrap_s x.wrap_t s t f m ∙ e) x k refl

-- ---- level 0
pub no_width : (x : Texture) → (get_or x.levels 0 absent).width ≡ 0 → complete (level_of x 0) ≡ false
unfolding complete level_of levels_of
no_width x e = rw e

pub no_height : (x : Texture) → (get_or x.levels 0 absent).height ≡ 0 → complete (level_of x 0) ≡ false
unfolding complete level_of levels_of
no_height x e = rw e (neither (ltb 0 (get_or x.levels 0 absent).width))

pub both_sides : (x : Texture) → ((get_or x.levels 0 absent).width ≡ 0 → ⊥) → ((get_or x.levels 0 absent).height ≡ 0 → ⊥) → complete (level_of x 0) ≡ true
unfolding complete level_of levels_of
both_sides x e g =
    let w = (get_or x.levels 0 absent).width in
    let h = (get_or x.levels 0 absent).height in
    rw (lt-ltb 0 w (omega arith), lt-ltb 0 h (omega arith))

pub readable : (n : ℕ) (x : Texture) → valid_of n x ≡ true → complete (level_of x 0) ≡ true → length x.levels ≡ 11 → Readable n x
readable n x v w l = record { valid = v; whole = w; few = omega (arith, valid_top_in n x v l) }
