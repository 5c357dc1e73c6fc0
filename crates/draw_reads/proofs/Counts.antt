-- The count goes up by the writes of each pixel, added up over the pixels. Assumes nothing.
use mathlib.Core.Path.{◌≡◌, refl, sym, ap, ap₂, ◌∙◌}
use mathlib.Core.Logic.{inl, inr, ◌≢◌}
use mathlib.Core.Bool.{Bool, true, false, cond}
use mathlib.Core.Option.{Option, none, some}
use mathlib.Core.List.{List, [], ◌∷◌}
use Prim.Native.Nat.{ℕ, zero, suc, ◌+◌, ◌<◌}
use native.Mathlib.Decide.{ℕ_discrete}
use native.Mathlib.Omega.{arith}
use lib.Dec.{eqb}
use borrow.Author.Tests.{eqb-true, eq-eqb}
use Rattle.isolation.specs.Machine.{In}
use Rattle.frames.specs.State.{Pixel}
use Rattle.frames.specs.Fragments.{paint, Fits, shown}
use Rattle.frames.specs.Gather.{Drawn, drawn, put_pixel}
use Rattle.pixels.specs.Way.{Drawing, pixel_of}
use Rattle.draw_reads.specs.Items.{Item, pixel_no}
use Rattle.draw_reads.specs.Pixels.{fragments_at, frag_of, wrote, pixel_writes, total}
use Rattle.draw_reads.proofs.Runs.{step}
use Rattle.draw_reads.proofs.Pixels.{fits_on, at_one, past_one}

-- ---- sums

total_same : (n : ℕ) (f g : ℕ → ℕ) → ((q : ℕ) → q < n → f q ≡ g q) → total n f ≡ total n g
unfolding total
total_same zero f g h = refl
total_same (suc n) f g h = ap₂ (λ x y. x + y) (total_same n f g (λ q b. h q (omega arith))) (h n (omega arith))

-- one of them is greater by a
total_one : (n : ℕ) (f g : ℕ → ℕ) (p a : ℕ) → p < n → f p ≡ a + g p → ((q : ℕ) → q ≢ p → f q ≡ g q) → total n f ≡ a + total n g
unfolding total
total_one zero f g p a b e h = absurd (omega arith)
total_one (suc n) f g p a b e h = go (ℕ_discrete p n) (λ k. total_one n f g p a k e h)
  where
    go : Dec (p ≡ n) → (p < n → total n f ≡ a + total n g) → total n f + f n ≡ a + (total n g + g n)
    go (yes q) r =
        let x : total n f ≡ total n g = total_same n f g (λ j k. h j (omega arith)) in
        let y : f n ≡ a + g n = rw q at e in
        omega arith
    go (no q) r =
        let x : total n f ≡ a + total n g = r (omega arith) in
        let y : f n ≡ g n = h n (omega arith) in
        omega arith

-- ---- the count of a run

put_count : (c : Drawn) (p : ℕ) (o : Option Pixel) → (put_pixel c p o).count ≡ c.count + wrote o
unfolding put_pixel
put_count c p none = omega arith
put_count c p (some x) = refl

total_none : (n : ℕ) → total n (λ q. 0) ≡ 0
unfolding total
total_none zero = refl
total_none (suc n) = omega (arith, total_none n)

module _ (st : List ℕ) (d : Drawing) (width m : ℕ) where
  -- how often pixel q is written
  abbrev writes : List Item → Drawn → ℕ → ℕ
  writes is c q = pixel_writes st d (fragments_at width q is) (shown drawn c q)

  pub step_count : (i : Item) (c : Drawn) → (step st d width i c).count ≡ c.count + wrote (frag_of st d i (shown drawn c (pixel_no width i))).put
  unfolding pixel_of
  step_count i c = put_count c (pixel_no width i) _

  -- one fragment more: its pixel's writes are more by its own, the others' are the same
  more_here : (i : Item) (is : List Item) (c : Drawn) → Fits drawn c (pixel_no width i)
      → writes (i ∷ is) c (pixel_no width i) ≡ wrote (frag_of st d i (shown drawn c (pixel_no width i))).put + writes is (step st d width i c) (pixel_no width i)
  unfolding fragments_at pixel_writes
  more_here i is c f =
      let e = eq-eqb (pixel_no width i) (pixel_no width i) refl in
      rw (e, at_one st d width i c (pixel_no width i) refl f)

  same_there : (i : Item) (is : List Item) (c : Drawn) (q : ℕ) → q ≢ pixel_no width i → writes (i ∷ is) c q ≡ writes is (step st d width i c) q
  unfolding fragments_at pixel_writes
  same_there i is c q n = go (eqb (pixel_no width i) q) refl
    where
      go : (b : Bool) → eqb (pixel_no width i) q ≡ b → pixel_writes st d (cond b (i ∷ fragments_at width q is) (fragments_at width q is)) (shown drawn c q) ≡ writes is (step st d width i c) q
      go true e = absurd (n (sym (eqb-true (pixel_no width i) q e)))
      go false e = ap (pixel_writes st d (fragments_at width q is)) (sym (past_one st d width i c q n))

  -- on a canvas that holds the pixels below m, fragments that lie there
  pub run_count : (is : List Item) (c : Drawn) → ((i : Item) → In i is → pixel_no width i < m) → ((q : ℕ) → q < m → Fits drawn c q)
      → (paint (step st d width) is c).count ≡ c.count + total m (writes is c)
  unfolding paint fragments_at pixel_writes
  run_count [] c b f = omega (arith, total_none m)
  run_count (i ∷ is) c b f =
      let p = pixel_no width i in
      let k : Drawn = step st d width i c in
      let a : ℕ = wrote (frag_of st d i (shown drawn c p)).put in
      let l : p < m = b i (inl refl) in
      let x : (paint (step st d width) is k).count ≡ k.count + total m (writes is k) = run_count is k (λ j z. b j (inr z)) (λ q z. fits_on st d width i c q (f q z)) in
      let y : k.count ≡ c.count + a = step_count i c in
      let z : total m (writes (i ∷ is) c) ≡ a + total m (writes is k) = total_one m (writes (i ∷ is) c) (writes is k) p a l (more_here i is c (f p l)) (λ q n. same_there i is c q n) in
      x ∙ ap₂ (λ u v. u + v) y refl ∙ sums c.count a (total m (writes is k)) ∙ ap (λ u. c.count + u) (sym z)
    where
      sums : (u v w : ℕ) → u + v + w ≡ u + (v + w)
      sums u v w = omega arith
