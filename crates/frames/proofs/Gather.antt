-- Fragments that say which store bytes they take have the law of a fragment; those of `gather` say it by their make. Assumes nothing.
use mathlib.Core.Path.{◌≡◌, refl, sym, ap, ap₂, ◌∙◌, subst}
use mathlib.Core.Logic.{◌⊎◌, inl, inr, ◌≢◌}
use mathlib.Core.Bool.{Bool, true, false, cond}
use mathlib.Core.Option.{Option, none, some}
use mathlib.Core.List.{List, [], ◌∷◌, map}
use Prim.Native.Nat.{ℕ, ◌+◌, ◌*◌, ◌≤◌, ◌<◌}
use native.Mathlib.Decide.{dec_lt}
use native.Mathlib.Omega.{arith}
use lib.ListN.{length, get_or, set, length-set}
use lib.Seq.{get_or-set_same, get_or-set_other}
use lib.Ieee.{nan}
use Rattle.isolation.specs.Machine.{In}
use Rattle.frames.specs.State.{Pixel, pixel_at}
use Rattle.frames.specs.Fragments.{Fits, SameLengths, FragLocal, shown}
use Rattle.frames.specs.Gather.{Drawn, drawn, Frag, put_color, put_pixel, frag_work, gather}
use Rattle.frames.proofs.Pixels.{pixel_is, pixel_is_of}

length_put_color : (cs : List ℕ) (p : ℕ) (x : Pixel) → length (put_color cs p x) ≡ length cs
unfolding put_color
length_put_color cs p x = simp length-set

put_color_other : (cs : List ℕ) (p j : ℕ) (x : Pixel) → (j < p * 4) ⊎ (p * 4 + 4 ≤ j) → get_or (put_color cs p x) j 0 ≡ get_or cs j 0
unfolding put_color
put_color_other cs p j x h =
    let a = set cs (p * 4) x.red in
    let b = set a (p * 4 + 1) x.green in
    let c = set b (p * 4 + 2) x.blue in
    get_or-set_other c (p * 4 + 3) j x.alpha 0 (away 3 (omega arith))
    ∙ get_or-set_other b (p * 4 + 2) j x.blue 0 (away 2 (omega arith))
    ∙ get_or-set_other a (p * 4 + 1) j x.green 0 (away 1 (omega arith))
    ∙ get_or-set_other cs (p * 4) j x.red 0 (first h)
  where
    away : (k : ℕ) → k < 4 → j ≢ p * 4 + k
    away k b = go h
      where
        go : (j < p * 4) ⊎ (p * 4 + 4 ≤ j) → j ≢ p * 4 + k
        go (inl a) = omega arith
        go (inr a) = omega arith

    first : (j < p * 4) ⊎ (p * 4 + 4 ≤ j) → j ≢ p * 4
    first (inl a) = omega arith
    first (inr a) = omega arith

-- the stored pixel stands there
module _ (cs : List ℕ) (p : ℕ) (x : Pixel) (f : p * 4 + 4 ≤ length cs) where
  abbrev a : List ℕ
  a = set cs (p * 4) x.red

  abbrev b : List ℕ
  b = set a (p * 4 + 1) x.green

  abbrev c : List ℕ
  c = set b (p * 4 + 2) x.blue

  put_red : get_or (put_color cs p x) (p * 4) 0 ≡ x.red
  unfolding put_color
  put_red =
      get_or-set_other c (p * 4 + 3) (p * 4) x.alpha 0 (omega arith) ∙ get_or-set_other b (p * 4 + 2) (p * 4) x.blue 0 (omega arith)
      ∙ get_or-set_other a (p * 4 + 1) (p * 4) x.green 0 (omega arith) ∙ get_or-set_same cs (p * 4) x.red 0 (omega arith)

  put_green : get_or (put_color cs p x) (p * 4 + 1) 0 ≡ x.green
  unfolding put_color
  put_green =
      get_or-set_other c (p * 4 + 3) (p * 4 + 1) x.alpha 0 (omega arith) ∙ get_or-set_other b (p * 4 + 2) (p * 4 + 1) x.blue 0 (omega arith)
      ∙ get_or-set_same a (p * 4 + 1) x.green 0 (simp length-set (omega arith))

  put_blue : get_or (put_color cs p x) (p * 4 + 2) 0 ≡ x.blue
  unfolding put_color
  put_blue =
      get_or-set_other c (p * 4 + 3) (p * 4 + 2) x.alpha 0 (omega arith) ∙ get_or-set_same b (p * 4 + 2) x.blue 0 (simp length-set (omega arith))

  put_alpha : get_or (put_color cs p x) (p * 4 + 3) 0 ≡ x.alpha
  unfolding put_color
  put_alpha = get_or-set_same c (p * 4 + 3) x.alpha 0 (simp length-set (omega arith))

pub put_here : (d : Drawn) (p : ℕ) (x : Pixel) → Fits drawn d p → pixel_at (put_color d.colors p x) (set d.depths p x.depth) p ≡ x
unfolding pixel_at
put_here d p x f =
    pixel_is _ _ (put_red d.colors p x f.0) (put_green d.colors p x f.0) (put_blue d.colors p x f.0) (put_alpha d.colors p x f.0)
    (get_or-set_same d.depths p x.depth nan f.1)

pub put_lengths : (d : Drawn) (p : ℕ) (o : Option Pixel) → SameLengths drawn (put_pixel d p o) d
unfolding put_pixel
put_lengths d p none = (refl, refl)
put_lengths d p (some x) = (length_put_color d.colors p x, length-set d.depths p x.depth)

pub put_other : (d : Drawn) (p q : ℕ) (o : Option Pixel) → q ≢ p → shown drawn (put_pixel d p o) q ≡ shown drawn d q
unfolding put_pixel
put_other d p q none n = refl
put_other d p q (some x) n = pixel_is_of _ _ _ _ q (λ j a b. put_color_other d.colors p j x (side j a b)) (get_or-set_other d.depths p q x.depth nan n)
  where
    side : (j : ℕ) → q * 4 ≤ j → j < q * 4 + 4 → (j < p * 4) ⊎ (p * 4 + 4 ≤ j)
    side j a b = go (dec_lt j (p * 4))
      where
        go : Dec (j < p * 4) → (j < p * 4) ⊎ (p * 4 + 4 ≤ j)
        go (yes h) = inl h
        go (no h) = inr (omega arith)

put_same : (d e : Drawn) (p : ℕ) (o : Option Pixel) → Fits drawn d p → SameLengths drawn d e → shown drawn d p ≡ shown drawn e p → d.count ≡ e.count
    → (shown drawn (put_pixel d p o) p ≡ shown drawn (put_pixel e p o) p) × ((put_pixel d p o).count ≡ (put_pixel e p o).count)
unfolding put_pixel
put_same d e p none f l h c = (h, c)
put_same d e p (some x) f l h c =
    (put_here d p x f ∙ sym (put_here e p x (rw (← l.0) f.0, rw (← l.1) f.1)), ap (λ n. n + 1) c)

module _ {Item : Type 0} (items : List Item) (at : Item → ℕ) (frag : List ℕ → Item → Pixel → Frag) where
  -- stores with the same bytes where it took some make the fragment the same
  pub frag_local : ((st su : List ℕ) (i : Item) (x : Pixel) → ((b : ℕ) → In b (frag st i x).took → get_or st b 0 ≡ get_or su b 0) → frag st i x ≡ frag su i x)
      → FragLocal drawn (frag_work items at frag)
  frag_local same = record {
    lengths = λ st i d. put_lengths d (at i) _;
    other = λ st i d q f n. put_other d (at i) q _ n;
    here = here;
  }
    where
      here : (st su : List ℕ) (i : Item) (d e : Drawn) → Fits drawn d (at i) → SameLengths drawn d e → shown drawn d (at i) ≡ shown drawn e (at i) → d.count ≡ e.count
          → length st ≡ length su → ((b : ℕ) → In b ((frag_work items at frag).took st i d) → get_or st b 0 ≡ get_or su b 0)
          → (shown drawn ((frag_work items at frag).step st i d) (at i) ≡ shown drawn ((frag_work items at frag).step su i e) (at i))
          × (((frag_work items at frag).step st i d).count ≡ ((frag_work items at frag).step su i e).count)
      here st su i d e f l h c n t =
          let one : (frag st i (shown drawn d (at i))).put ≡ (frag su i (shown drawn e (at i))).put
          = ap (λ z. z.put) (same st su i (shown drawn d (at i)) t ∙ ap (frag su i) h) in
          subst (λ (o : Option Pixel). (shown drawn ((frag_work items at frag).step st i d) (at i) ≡ shown drawn (put_pixel e (at i) o) (at i))
          × (((frag_work items at frag).step st i d).count ≡ (put_pixel e (at i) o).count)) one
          (put_same d e (at i) _ f l h c)

pub bytes_same : (st su l : List ℕ) → ((b : ℕ) → In b l → get_or st b 0 ≡ get_or su b 0) → map (λ b. get_or st b 0) l ≡ map (λ b. get_or su b 0) l
bytes_same st su [] h = refl
bytes_same st su (a ∷ l) h = ap₂ (λ x y. x ∷ y) (h a (inl refl)) (bytes_same st su l (λ b i. h b (inr i)))

pub gather_local : {Item : Type 0} (items : List Item) (at : Item → ℕ) (reach : Item → Pixel → Bool) (addrs : Item → Pixel → List ℕ)
    (shade : Item → Pixel → List ℕ → Option Pixel) → FragLocal drawn (frag_work items at (gather reach addrs shade))
unfolding gather
gather_local {Item} items at reach addrs shade = frag_local items at (gather reach addrs shade) same
  where
    same : (st su : List ℕ) (i : Item) (x : Pixel) → ((b : ℕ) → In b (gather reach addrs shade st i x).took → get_or st b 0 ≡ get_or su b 0)
        → gather reach addrs shade st i x ≡ gather reach addrs shade su i x
    same st su i x h = go (reach i x) h
      where
        full : List ℕ → Frag
        full l = record { put = shade i x (map (λ b. get_or l b 0) (addrs i x)); took = addrs i x }

        nothing : Frag
        nothing = record { put = none; took = [] }

        go : (y : Bool) → ((b : ℕ) → In b (cond y (full st) nothing).took → get_or st b 0 ≡ get_or su b 0) → cond y (full st) nothing ≡ cond y (full su) nothing
        go true k = ap (λ l. record { put = shade i x l; took = addrs i x }) (bytes_same st su (addrs i x) k)
        go false k = refl
