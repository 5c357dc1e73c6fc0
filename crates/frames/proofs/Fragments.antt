-- A run of steps at one pixel each keeps what one step keeps: the lengths, the pixels of no step, and what becomes of a pixel and of
-- the count hangs only on the pixels of the steps and the store bytes that they take. Assumes nothing.
use mathlib.Core.Path.{◌≡◌, refl, sym, ap, ◌∙◌}
use mathlib.Core.Logic.{◌⊎◌, inl, inr, ◌≢◌}
use mathlib.Core.List.{List, [], ◌∷◌, ◌++◌}
use Prim.Native.Nat.{ℕ, zero, suc, ◌+◌, ◌-◌, ◌≤◌, ◌<◌}
use native.Mathlib.Decide.{ℕ_discrete}
use native.Mathlib.Omega.{arith}
use lib.ListN.{length, get_or}
use Rattle.isolation.specs.Machine.{In}
use Rattle.lists.specs.Lists.{turns, between}
use Rattle.frames.specs.Fragments.{paint, taken, spread, grid, Canvas, Work, shown, Fits, SameLengths, FragLocal}

pub in_left : {A : Type 0} (a : A) (xs ys : List A) → In a xs → In a (xs ++ ys)
in_left a [] ys i = absurd i
in_left a (x ∷ xs) ys (inl e) = inl e
in_left a (x ∷ xs) ys (inr i) = inr (in_left a xs ys i)

pub in_right : {A : Type 0} (a : A) (xs ys : List A) → In a ys → In a (xs ++ ys)
in_right a [] ys i = i
in_right a (x ∷ xs) ys i = inr (in_right a xs ys i)

pub in_either : {A : Type 0} (a : A) (xs ys : List A) → In a (xs ++ ys) → In a xs ⊎ In a ys
in_either a [] ys h = inr h
in_either a (x ∷ xs) ys (inl e) = inl (inl e)
in_either a (x ∷ xs) ys (inr h) = go (in_either a xs ys h)
  where
    go : In a xs ⊎ In a ys → ((a ≡ x) ⊎ In a xs) ⊎ In a ys
    go (inl i) = inl (inr i)
    go (inr i) = inr i

module _ {C : Type 0} (canvas : Canvas C) where
  -- every item's pixel is on the canvas
  abbrev pub AllFit : {Item : Type 0} → (Item → ℕ) → List Item → C → Type 0
  AllFit {Item} at is c = (i : Item) → In i is → Fits canvas c (at i)

  -- two canvases with one count that are the same at the pixels K
  pub record Both (K : ℕ → Type 0) (c k : C) : Type 0 where
    pub both_lengths : SameLengths canvas c k
    pub both_count : canvas.count c ≡ canvas.count k
    pub both_shown : (q : ℕ) → K q → shown canvas c q ≡ shown canvas k q

module _ {Item C : Type 0} (canvas : Canvas C) (w : Work Item C) (law : FragLocal canvas w) where
  abbrev Fit : List Item → C → Type 0
  Fit = AllFit canvas w.at

  fits_after : (st : List ℕ) (i : Item) (is : List Item) (c : C) → Fit (i ∷ is) c → Fit is (w.step st i c)
  fits_after st i is c f j m =
      let k = law.lengths st i c in
      let g = f j (inr m) in
      (rw k.0 g.0, rw k.1 g.1)

  pub paint_lengths : (st : List ℕ) (is : List Item) (c : C) → SameLengths canvas (paint (w.step st) is c) c
  unfolding paint
  paint_lengths st [] c = (refl, refl)
  paint_lengths st (i ∷ is) c =
      let r = paint_lengths st is (w.step st i c) in
      let k = law.lengths st i c in
      (r.0 ∙ k.0, r.1 ∙ k.1)

  pub paint_other : (st : List ℕ) (is : List Item) (c : C) (q : ℕ) → Fit is c → ((i : Item) → In i is → q ≢ w.at i)
      → shown canvas (paint (w.step st) is c) q ≡ shown canvas c q
  unfolding paint
  paint_other st [] c q f n = refl
  paint_other st (i ∷ is) c q f n =
      paint_other st is (w.step st i c) q (fits_after st i is c f) (λ j m. n j (inr m)) ∙ law.other st i c q (f i (inl refl)) (n i (inl refl))

  pub paint_both : (K : ℕ → Type 0) (st su : List ℕ) (is : List Item) (c k : C) → Fit is c → ((i : Item) → In i is → K (w.at i)) → length st ≡ length su
      → ((b : ℕ) → In b (taken (w.step st) (w.took st) is c) → get_or st b 0 ≡ get_or su b 0)
      → Both canvas K c k → Both canvas K (paint (w.step st) is c) (paint (w.step su) is k)
  unfolding paint taken
  paint_both K st su [] c k f m e t h = h
  paint_both K st su (i ∷ is) c k f m e t h =
      paint_both K st su is (w.step st i c) (w.step su i k) (fits_after st i is c f) (λ j x. m j (inr x)) e (λ b x. t b (in_right b (w.took st i c) _ x)) after
    where
      one : (shown canvas (w.step st i c) (w.at i) ≡ shown canvas (w.step su i k) (w.at i)) × (canvas.count (w.step st i c) ≡ canvas.count (w.step su i k))
      one = law.here st su i c k (f i (inl refl)) h.both_lengths (h.both_shown (w.at i) (m i (inl refl))) h.both_count e
          (λ b x. t b (in_left b (w.took st i c) _ x))

      fits_too : Fits canvas k (w.at i)
      fits_too = let g = f i (inl refl) in let l = h.both_lengths in (rw (← l.0) g.0, rw (← l.1) g.1)

      seen : (q : ℕ) → K q → Dec (q ≡ w.at i) → shown canvas (w.step st i c) q ≡ shown canvas (w.step su i k) q
      seen q x (yes r) = rw r one.0
      seen q x (no n) = law.other st i c q (f i (inl refl)) n ∙ h.both_shown q x ∙ sym (law.other su i k q fits_too n)

      after : Both canvas K (w.step st i c) (w.step su i k)
      after = record {
        both_lengths = ((law.lengths st i c).0 ∙ h.both_lengths.0 ∙ sym (law.lengths su i k).0, (law.lengths st i c).1 ∙ h.both_lengths.1 ∙ sym (law.lengths su i k).1);
        both_count = one.1;
        both_shown = λ q x. seen q x (ℕ_discrete q (w.at i));
      }

-- ---- loops over numbers as runs over items

module _ {Item Canvas : Type 0} (step : Item → Canvas → Canvas) where
  pub paint_append : (is js : List Item) (c : Canvas) → paint step (is ++ js) c ≡ paint step js (paint step is c)
  unfolding paint
  paint_append [] js c = refl
  paint_append (i ∷ is) js c = paint_append is js (step i c)

  turns_paint : (f : ℕ → List Item) (g : ℕ → Canvas → Canvas) → ((k : ℕ) (c : Canvas) → g k c ≡ paint step (f k) c)
      → (k n : ℕ) (c : Canvas) → turns g k n c ≡ paint step (spread f k n) c
  unfolding turns spread paint
  turns_paint f g h k zero c = refl
  turns_paint f g h k (suc n) c =
      turns_paint f g h (k + 1) n (g k c) ∙ ap (λ x. paint step (spread f (k + 1) n) x) (h k c) ∙ sym (paint_append (f k) (spread f (k + 1) n) c)

  -- a loop from k up to e whose turns are runs of steps is one run
  pub between_paint : (f : ℕ → List Item) (g : ℕ → Canvas → Canvas) → ((k : ℕ) (c : Canvas) → g k c ≡ paint step (f k) c)
      → (k e : ℕ) (c : Canvas) → between g k e c ≡ paint step (spread f k (e - k)) c
  unfolding between
  between_paint f g h k e c = turns_paint f g h k (e - k) c

-- what stands in a spread list stands in one of its parts
pub in_spread : {Item : Type 0} (f : ℕ → List Item) (k n : ℕ) (i : Item) (P : Type 0) → ((j : ℕ) → k ≤ j → j < k + n → In i (f j) → P) → In i (spread f k n) → P
unfolding spread
in_spread f k zero i P h x = absurd x
in_spread f k (suc n) i P h x = go (in_either i (f k) (spread f (k + 1) n) x) (in_spread f (k + 1) n i P)
  where
    go : In i (f k) ⊎ In i (spread f (k + 1) n) → (((j : ℕ) → k + 1 ≤ j → j < k + 1 + n → In i (f j) → P) → In i (spread f (k + 1) n) → P) → P
    go (inl y) r = h k (omega arith) (omega arith) y
    go (inr y) r = r (λ j a b z. h j (omega arith) (omega arith) z) y

-- ---- a loop over rows, with a loop over columns in it

pub grid_paint : {Item Canvas : Type 0} (step : Item → Canvas → Canvas) (f : ℕ → ℕ → Item) (x0 x1 y0 y1 : ℕ) (c : Canvas)
    → between (λ y. between (λ x. step (f x y)) x0 x1) y0 y1 c ≡ paint step (grid f x0 x1 y0 y1) c
unfolding grid paint
grid_paint step f x0 x1 y0 y1 c =
    between_paint step (λ y. spread (λ x. f x y ∷ []) x0 (x1 - x0)) (λ y. between (λ x. step (f x y)) x0 x1)
    (λ y d. between_paint step (λ x. f x y ∷ []) (λ x. step (f x y)) (λ x e. refl) x0 x1 d) y0 y1 c

-- an item of the grid has its column and its row there
pub in_grid : {Item : Type 0} (f : ℕ → ℕ → Item) (x0 x1 y0 y1 : ℕ) (i : Item) (P : Type 0)
    → ((x y : ℕ) → x0 ≤ x → x < x1 → y0 ≤ y → y < y1 → i ≡ f x y → P) → In i (grid f x0 x1 y0 y1) → P
unfolding grid
in_grid {Item} f x0 x1 y0 y1 i P h m =
    in_spread (λ y. spread (λ x. f x y ∷ []) x0 (x1 - x0)) y0 (y1 - y0) i P
    (λ y a b k. in_spread (λ x. f x y ∷ []) x0 (x1 - x0) i P (λ x a' b' k'. h x y (omega arith) (omega arith) (omega arith) (omega arith) (alone x y k')) k) m
  where
    alone : (x y : ℕ) → In i (f x y ∷ []) → i ≡ f x y
    alone x y (inl e) = e
    alone x y (inr z) = absurd z
