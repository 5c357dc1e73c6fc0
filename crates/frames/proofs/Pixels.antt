-- Pixels of a frame and its lists: the pixels say every byte and every depth, and a store at one pixel leaves the others. Assumes nothing.
use mathlib.Core.Path.{◌≡◌, sym, ap, subst}
use mathlib.Core.List.{List}
use Prim.Native.Nat.{ℕ, ◌+◌, ◌*◌, ◌/◌, ◌≤◌, ◌<◌}
use native.Mathlib.Decide.{ℕ_discrete}
use native.Mathlib.Omega.{arith}
use lib.ListN.{length, get_or}
use lib.Seq.{ext_get_or}
use lib.Ieee.{Float, nan}
use Rattle.frames.specs.State.{Pixel, pixel_at}

pub pixel_is : (a b : Pixel) → a.red ≡ b.red → a.green ≡ b.green → a.blue ≡ b.blue → a.alpha ≡ b.alpha → a.depth ≡ b.depth → a ≡ b
pixel_is a b r g l h d = λ i. record { red = r i; green = g i; blue = l i; alpha = h i; depth = d i }

-- ---- what a pixel says of its lists

module _ (cs ks : List ℕ) (ds es : List Float) (p : ℕ) (e : pixel_at cs ds p ≡ pixel_at ks es p) where
  pub at_red : get_or cs (p * 4) 0 ≡ get_or ks (p * 4) 0
  unfolding pixel_at
  at_red = ap (λ x. x.red) e

  pub at_green : get_or cs (p * 4 + 1) 0 ≡ get_or ks (p * 4 + 1) 0
  unfolding pixel_at
  at_green = ap (λ x. x.green) e

  pub at_blue : get_or cs (p * 4 + 2) 0 ≡ get_or ks (p * 4 + 2) 0
  unfolding pixel_at
  at_blue = ap (λ x. x.blue) e

  pub at_alpha : get_or cs (p * 4 + 3) 0 ≡ get_or ks (p * 4 + 3) 0
  unfolding pixel_at
  at_alpha = ap (λ x. x.alpha) e

  pub at_depth : get_or ds p nan ≡ get_or es p nan
  unfolding pixel_at
  at_depth = ap (λ x. x.depth) e

-- colours of p and depths of p, made of parts
pub pixel_is_of : (cs ks : List ℕ) (ds es : List Float) (p : ℕ)
    → ((j : ℕ) → p * 4 ≤ j → j < p * 4 + 4 → get_or cs j 0 ≡ get_or ks j 0) → get_or ds p nan ≡ get_or es p nan → pixel_at cs ds p ≡ pixel_at ks es p
unfolding pixel_at
pixel_is_of cs ks ds es p h d = pixel_is _ _ (h (p * 4) (omega arith) (omega arith)) (h (p * 4 + 1) (omega arith) (omega arith))
    (h (p * 4 + 2) (omega arith) (omega arith)) (h (p * 4 + 3) (omega arith) (omega arith)) d

-- each byte is one of its pixel's
pub byte_of : (cs ks : List ℕ) (ds es : List Float) (p j : ℕ) → pixel_at cs ds p ≡ pixel_at ks es p → p * 4 ≤ j → j < p * 4 + 4 → get_or cs j 0 ≡ get_or ks j 0
byte_of cs ks ds es p j e a b = go (ℕ_discrete j (p * 4)) (ℕ_discrete j (p * 4 + 1)) (ℕ_discrete j (p * 4 + 2))
  where
    at : (k : ℕ) → j ≡ k → get_or cs k 0 ≡ get_or ks k 0 → get_or cs j 0 ≡ get_or ks j 0
    at k q h = subst (λ (i : ℕ). get_or cs i 0 ≡ get_or ks i 0) (sym q) h

    go : Dec (j ≡ p * 4) → Dec (j ≡ p * 4 + 1) → Dec (j ≡ p * 4 + 2) → get_or cs j 0 ≡ get_or ks j 0
    go (yes q) y z = at (p * 4) q (at_red cs ks ds es p e)
    go (no q) (yes r) z = at (p * 4 + 1) r (at_green cs ks ds es p e)
    go (no q) (no r) (yes t) = at (p * 4 + 2) t (at_blue cs ks ds es p e)
    go (no q) (no r) (no t) = at (p * 4 + 3) (omega arith) (at_alpha cs ks ds es p e)

-- frames of one length whose pixels are all the same are the same, to the last byte
pub all_colors : (cs ks : List ℕ) (ds es : List Float) → length cs ≡ length ks → ((p : ℕ) → pixel_at cs ds p ≡ pixel_at ks es p) → cs ≡ ks
all_colors cs ks ds es e h = ext_get_or 0 cs ks e (λ j b. byte_of cs ks ds es (j / 4) j (h (j / 4)) (omega arith) (omega arith))

pub all_depths : (cs ks : List ℕ) (ds es : List Float) → length ds ≡ length es → ((p : ℕ) → pixel_at cs ds p ≡ pixel_at ks es p) → ds ≡ es
all_depths cs ks ds es e h = ext_get_or nan ds es e (λ p b. at_depth cs ks ds es p (h p))
