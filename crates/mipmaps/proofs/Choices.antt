-- Which levels are chosen: where q is not needed, and that they are levels of the chain. Assumes nothing.
use Prim.Native.Nat.{ℕ, ◌*◌, ◌/◌, ◌%◌, ◌≤◌}
use mathlib.Core.Path.{◌≡◌, refl, sym, ap, ◌∙◌}
use mathlib.Core.Bool.{Bool, true, false, cond}
use Rattle.std.specs.Prelude.{Option, Some, None}
use lib.Dec.{eqb}
use lib.Ieee.{Float}
use native.Mathlib.Omega.{arith}
use borrow.Author.Tests.{eqb-false}
use Rattle.levels.specs.declared.Filter.{Filter}
use Rattle.levels.specs.declared.MinFilter.{MinFilter}
use Rattle.detail.specs.Steps.{cut_of}
use Rattle.detail.proofs.Cut.{cut_le}
use Rattle.mipmaps.specs.declared.Mipmap.{Mipmap}
use Rattle.mipmaps.specs.declared.Mipmap.TheVariants.{NearestLevel, Between}
use Rattle.mipmaps.specs.declared.Chosen.{Chosen}
use Rattle.mipmaps.specs.declared.Coordinates.{Coordinates}
use Rattle.mipmaps.specs.Mipmaps.{one_level, two_levels, mipmap_filter, texel_filter, between, minified, q_at, above_one, chosen_of, Within}

-- with no level above 0 the detail is 0
at_nought : (m : Option Mipmap) (f : Filter) → minified m f 0 ≡ one_level 0 f
unfolding minified between
at_nought None f = refl
at_nought (Some NearestLevel) f = refl
at_nought (Some Between) f = refl

cut_nought : (q : Float) → cut_of q 0 ≡ 0
cut_nought q = omega (arith, cut_le q 0)

pub level_nought : (m : Option Mipmap) (f : Filter) (q : Float) (top : ℕ) → top ≡ 0 → one_level 0 f ≡ minified m f (cut_of q top)
level_nought m f q top z = sym (ap (λ (n : ℕ). minified m f n) (ap (cut_of q) z ∙ cut_nought q) ∙ at_nought m f)

same : (b : Bool) (c : Chosen) → c ≡ cond b c c
same true c = refl
same false c = refl

module _ (width height top : ℕ) (min : MinFilter) (mag : Filter) (p : Coordinates) where
  one_filter : texel_filter min ≡ mag → minified (mipmap_filter min) (texel_filter min) (cut_of (q_at width height p) top) ≡ one_level 0 (texel_filter min) → one_level 0 mag ≡ chosen_of width height top min mag p
  unfolding chosen_of
  one_filter e z = same (above_one (q_at width height p)) (one_level 0 mag) ∙ ap (λ (c : Chosen). cond (above_one (q_at width height p)) c (one_level 0 mag)) (sym (z ∙ ap (λ (f : Filter). one_level 0 f) e))

  -- where level 0 is read whatever the detail, and by one filter
  pub without_levels : texel_filter min ≡ mag → top ≡ 0 → one_level 0 mag ≡ chosen_of width height top min mag p
  without_levels e z = one_filter e (sym (level_nought (mipmap_filter min) (texel_filter min) (q_at width height p) top z))

  pub without_mipmaps : texel_filter min ≡ mag → mipmap_filter min ≡ None → one_level 0 mag ≡ chosen_of width height top min mag p
  unfolding minified
  without_mipmaps e z = one_filter e (rw z)

-- ---- the chosen levels are levels of the chain
next_in : (n top : ℕ) (b : Bool) (f : Filter) → n ≤ 256 * top → eqb (n % 256) 0 ≡ b → Within top (cond b (one_level (n / 256) f) (two_levels (n / 256) f (n % 256)))
next_in n top true f h e = omega arith
next_in n top false f h e = (omega (arith, eqb-false (n % 256) 0 e), omega arith)

minified_within : (m : Option Mipmap) (f : Filter) (n top : ℕ) → n ≤ 256 * top → Within top (minified m f n)
unfolding minified between
minified_within None f n top h = omega arith
minified_within (Some NearestLevel) f n top h = omega arith
minified_within (Some Between) f n top h = next_in n top (eqb (n % 256) 0) f h refl

cond_within : (top : ℕ) (b : Bool) (c d : Chosen) → Within top c → Within top d → Within top (cond b c d)
cond_within top true c d h k = h
cond_within top false c d h k = k

pub chosen_within : (width height top : ℕ) (min : MinFilter) (mag : Filter) (p : Coordinates) → Within top (chosen_of width height top min mag p)
unfolding chosen_of
chosen_within width height top min mag p =
    let q = q_at width height p in
    cond_within top (above_one q) (minified (mipmap_filter min) (texel_filter min) (cut_of q top)) (one_level 0 mag)
    (minified_within (mipmap_filter min) (texel_filter min) (cut_of q top) top (cut_le q top)) (omega arith)
