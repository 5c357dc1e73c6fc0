-- What becomes of each pixel in a draw: its own fragments in order, from its own colour and depth and the bytes that they take. Pixels
-- of no fragment stay. Assumes nothing.
use mathlib.Core.Path.{◌≡◌, refl, sym, ap, ◌∙◌}
use mathlib.Core.Logic.{inl, inr, ◌≢◌}
use mathlib.Core.Bool.{Bool, true, false, cond, true≢false}
use mathlib.Core.Option.{Option, none, some}
use mathlib.Core.List.{List, [], ◌∷◌}
use Prim.Native.Nat.{ℕ, ◌+◌, ◌*◌, ◌≤◌, ◌<◌}
use lib.Dec.{eqb}
use lib.ListN.{length}
use lib.Ieee.{Float}
use borrow.Author.Tests.{eqb-true, eq-eqb}
use Rattle.vertices.specs.declared.Vertex.{Vertex}
use Rattle.isolation.specs.Machine.{In}
use Rattle.frames.specs.State.{Pixel, pixel_at}
use Rattle.frames.specs.Fragments.{paint, Fits, shown}
use Rattle.frames.specs.Gather.{Drawn, drawn, put_pixel}
use Rattle.frames.proofs.Fragments.{in_left, in_right}
use Rattle.frames.proofs.Gather.{put_here, put_other, put_lengths}
use Rattle.pixels.specs.Way.{Drawing, pixel_of, drawn_to}
use Rattle.raster.specs.Fill.{drawn_of}
use Rattle.draw_reads.specs.Items.{Item, pixel_no, draw_items}
use Rattle.draw_reads.specs.Pixels.{fragments_at, frag_of, left_or, pixel_after, pixel_took}
use Rattle.draw_reads.proofs.Taken.{SameAt, frag_same}
use Rattle.draw_reads.proofs.Runs.{step, draw_runs}

-- the pixel after one fragment
put_left : (c : Drawn) (p : ℕ) (o : Option Pixel) → Fits drawn c p → shown drawn (put_pixel c p o) p ≡ left_or (shown drawn c p) o
unfolding put_pixel
put_left c p none f = refl
put_left c p (some x) f = put_here c p x f

module _ (st : List ℕ) (d : Drawing) (width : ℕ) where
  pub fits_on : (i : Item) (c : Drawn) (q : ℕ) → Fits drawn c q → Fits drawn (step st d width i c) q
  unfolding pixel_of
  fits_on i c q f =
      let k = put_lengths c (pixel_no width i) (frag_of st d i (shown drawn c (pixel_no width i))).put in
      (rw k.0 f.0, rw k.1 f.1)

  pub at_one : (i : Item) (c : Drawn) (q : ℕ) → pixel_no width i ≡ q → Fits drawn c q → shown drawn (step st d width i c) q ≡ left_or (shown drawn c q) (frag_of st d i (shown drawn c q)).put
  unfolding pixel_of
  at_one i c q e f = rw (← e) (put_left c (pixel_no width i) _ (rw e f))

  pub past_one : (i : Item) (c : Drawn) (q : ℕ) → (q ≢ pixel_no width i) → shown drawn (step st d width i c) q ≡ shown drawn c q
  unfolding pixel_of
  past_one i c q n = put_other c (pixel_no width i) q _ n

  -- THE LAW
  pub pixel_becomes : (is : List Item) (c : Drawn) (q : ℕ) → Fits drawn c q → shown drawn (paint (step st d width) is c) q ≡ pixel_after st d (fragments_at width q is) (shown drawn c q)
  unfolding paint fragments_at pixel_after
  pixel_becomes [] c q f = refl
  pixel_becomes (i ∷ is) c q f = go (eqb (pixel_no width i) q) refl (pixel_becomes is (step st d width i c) q (fits_on i c q f))
    where
      k : Drawn
      k = step st d width i c

      go : (b : Bool) → eqb (pixel_no width i) q ≡ b → shown drawn (paint (step st d width) is k) q ≡ pixel_after st d (fragments_at width q is) (shown drawn k q)
          → shown drawn (paint (step st d width) is k) q ≡ pixel_after st d (cond b (i ∷ fragments_at width q is) (fragments_at width q is)) (shown drawn c q)
      go true e h = h ∙ ap (pixel_after st d (fragments_at width q is)) (at_one i c q (eqb-true (pixel_no width i) q e) f)
      go false e h = h ∙ ap (pixel_after st d (fragments_at width q is)) (past_one i c q (λ z. true≢false (sym (eq-eqb (pixel_no width i) q (sym z)) ∙ e)))

  none_at : (is : List Item) (q : ℕ) → ((i : Item) → In i is → q ≢ pixel_no width i) → fragments_at width q is ≡ []
  unfolding fragments_at
  none_at [] q n = refl
  none_at (i ∷ is) q n = go (eqb (pixel_no width i) q) refl (none_at is q (λ j m. n j (inr m)))
    where
      go : (b : Bool) → eqb (pixel_no width i) q ≡ b → fragments_at width q is ≡ [] → cond b (i ∷ fragments_at width q is) (fragments_at width q is) ≡ []
      go true e h = absurd (n i (inl refl) (sym (eqb-true (pixel_no width i) q e)))
      go false e h = h

  -- a pixel of no fragment stays
  pub pixel_stays : (is : List Item) (c : Drawn) (q : ℕ) → Fits drawn c q → ((i : Item) → In i is → q ≢ pixel_no width i) → shown drawn (paint (step st d width) is c) q ≡ shown drawn c q
  unfolding pixel_after
  pixel_stays is c q f n = pixel_becomes is c q f ∙ ap (λ l. pixel_after st d l (shown drawn c q)) (none_at is q n)

  -- of a draw past its checks
  pub drawn_pixel : (height : ℕ) (a b c : Vertex) (cs : List ℕ) (ds : List Float) (n q : ℕ) → q * 4 + 4 ≤ length cs → q < length ds
      → pixel_at (drawn_of st d width height a b c (drawn_to cs ds n)).colors (drawn_of st d width height a b c (drawn_to cs ds n)).depths q
      ≡ pixel_after st d (fragments_at width q (draw_items d.state width height a b c)) (pixel_at cs ds q)
  drawn_pixel height a b c cs ds n q x y =
      ap (λ (k : Drawn). pixel_at k.colors k.depths q) (draw_runs st d width height a b c (drawn_to cs ds n))
      ∙ pixel_becomes (draw_items d.state width height a b c) (drawn_to cs ds n) q (x, y)

-- it hangs on the bytes that its own fragments take
pub pixel_reads : (st su : List ℕ) (d : Drawing) (is : List Item) (x : Pixel) → SameAt st su (pixel_took st d is x) → pixel_after st d is x ≡ pixel_after su d is x
unfolding pixel_after pixel_took
pixel_reads st su d [] x h = refl
pixel_reads st su d (i ∷ is) x h =
    let l = (frag_of st d i x).took in
    pixel_reads st su d is (left_or x (frag_of st d i x).put) (λ b m. h b (in_right b l _ m))
    ∙ ap (λ f. pixel_after su d is (left_or x f.put)) (frag_same st su d i.tri i.px i.py x (λ b m. h b (in_left b l _ m)))
