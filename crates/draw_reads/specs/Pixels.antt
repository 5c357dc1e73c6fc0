-- What becomes of one pixel in a draw: its own fragments, one after the other, from its own colour and depth: document 01,
-- port order 7.
use Rattle.std.specs.Prelude.{ℕ, zero, suc, ◌+◌, cond, List, [], ◌∷◌, ◌++◌, eqb}
use Rattle.std.proofs.Math.Option.{Option, none, some}
use Rattle.frames.specs.State.{Pixel}
use Rattle.frames.specs.Gather.{Frag}
use Rattle.pixels.specs.Way.{Drawing, frag_at}
use Rattle.draw_reads.specs.Items.{Item, pixel_no}

-- the fragments at pixel q of a target so many pixels wide, in order
unfoldable pub fragments_at : ℕ → ℕ → List Item → List Item
fragments_at width q [] = []
fragments_at width q (i ∷ l) = cond (eqb (pixel_no width i) q) (i ∷ fragments_at width q l) (fragments_at width q l)

abbrev pub frag_of : List ℕ → Drawing → Item → Pixel → Frag
frag_of st d i x = frag_at st d i.tri i.px i.py x

-- a fragment that is dropped leaves the pixel as it was
abbrev pub left_or : Pixel → Option Pixel → Pixel
left_or x none = x
left_or x (some y) = y

-- each fragment finds the pixel that the one before it left
unfoldable pub pixel_after : List ℕ → Drawing → List Item → Pixel → Pixel
pixel_after st d [] x = x
pixel_after st d (i ∷ l) x = pixel_after st d l (left_or x (frag_of st d i x).put)

-- the store bytes that they take
unfoldable pub pixel_took : List ℕ → Drawing → List Item → Pixel → List ℕ
pixel_took st d [] x = []
pixel_took st d (i ∷ l) x = (frag_of st d i x).took ++ pixel_took st d l (left_or x (frag_of st d i x).put)

-- how often they write it
abbrev pub wrote : Option Pixel → ℕ
wrote none = 0
wrote (some y) = 1

unfoldable pub pixel_writes : List ℕ → Drawing → List Item → Pixel → ℕ
pixel_writes st d [] x = 0
pixel_writes st d (i ∷ l) x = wrote (frag_of st d i x).put + pixel_writes st d l (left_or x (frag_of st d i x).put)

-- f 0 + .. + f (n - 1)
unfoldable pub total : ℕ → (ℕ → ℕ) → ℕ
total zero f = 0
total (suc n) f = total n f + f n
