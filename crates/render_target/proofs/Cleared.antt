-- Filling the rows of the cut box leaves what the clear's definition says. Assumes nothing.
use Rattle.std.proofs.lemmas.Bool.{false≢true, and_parts, and_from}
use Rattle.std.specs.Prelude.{Option, Some, None}
use Prim.Native.Nat.{ℕ, zero, suc, ◌+◌, ◌-◌, ◌*◌, ◌/◌, ◌%◌, ◌≤◌, ◌<◌}
use mathlib.Core.Path.{◌≡◌, refl, sym, ap, ◌∙◌}
use mathlib.Core.Bool.{Bool, true, false, cond, ◌&&◌, ◌||◌, or-false}
use mathlib.Core.List.{List, [], ◌∷◌}
use native.Mathlib.Omega.{arith}
use native.Mathlib.Decide.{dec_lt}
use native.Mathlib.Nat.{le_refl, mul-zero, mod-lt, div-add-mod', div-lt_iff_lt-mul, le-div_iff_mul-le}
use lib.Arith.{digits_div, digits_mod}
use lib.Dec.{ltb, leb-zero}
use lib.ListN.{length, get_or}
use borrow.Author.Tests.{le-leb, lt-ltb, lt-leb, le-ltb}
use Rattle.lists.specs.Lists.{tab, turns, between}
use Rattle.lists.proofs.Tables.{length_tab}
use Rattle.scissor.specs.Scissor.{pixel_in, bounds_of, in_bounds}
use Rattle.render_target.specs.Clear.{cleared_of, span_of, rows_of}
use Rattle.scissor.proofs.Boxes.{same_truth, span, in_span, to_span, bounds_are}
use Rattle.std.proofs.lemmas.Bool.{and_from, and_parts}
use Rattle.render_target.proofs.Spans.{length_span, span_at, at_places, table_is}
use Rattle.scissor.specs.declared.PixelBox.{PixelBox}
use Rattle.settings.specs.declared.ScissorBox.{ScissorBox}

-- k elements make a pixel: the elements of pixels a to e
in_cells : (k a e i : ℕ) → 0 < k → span (a * k) (e * k) i ≡ span a e (i / k)
in_cells k a e i h =
    same_truth (span (a * k) (e * k) i) (span a e (i / k))
    (λ t. let s = in_span (a * k) (e * k) i t in to_span a e (i / k) ((le-div_iff_mul-le h).1 s.0) ((div-lt_iff_lt-mul h).1 s.1))
    (λ t. let s = in_span a e (i / k) t in to_span (a * k) (e * k) i ((le-div_iff_mul-le h).0 s.0) ((div-lt_iff_lt-mul h).0 s.1))

-- pixel p, c columns into row y
row_column : (w y p c : ℕ) → c < w → p ≡ y * w + c → (p / w ≡ y) × (p % w ≡ c)
row_column w y p c h e = (rw e (digits_div y h), rw e (digits_mod y h))

-- columns x0 to x1 of row y
in_row : (w x0 x1 y p : ℕ) → x1 ≤ w → span (y * w + x0) (y * w + x1) p ≡ (span x0 x1 (p % w) && span y (y + 1) (p / w))
in_row w x0 x1 y p h =
    same_truth (span (y * w + x0) (y * w + x1) p) (span x0 x1 (p % w) && span y (y + 1) (p / w))
    (λ t.
    let s = in_span (y * w + x0) (y * w + x1) p t in
    let q = row_column w y p (p - y * w) (omega arith) (omega arith) in
    and_from _ _ (to_span x0 x1 (p % w) (omega arith) (omega arith)) (to_span y (y + 1) (p / w) (omega arith) (omega arith)))
    (λ t.
    let s = and_parts (span x0 x1 (p % w)) (span y (y + 1) (p / w)) t in
    let x = in_span x0 x1 (p % w) s.0 in
    let r = in_span y (y + 1) (p / w) s.1 in
    let d : p / w ≡ y = omega arith in
    let e : y * w + p % w ≡ p = rw d at (div-add-mod' p w) in
    to_span (y * w + x0) (y * w + x1) p (omega arith) (omega arith))

-- the first row and the rows after it
join_at : (y n r : ℕ) → Dec (r < y + 1) → (span (y + 1) (y + 1 + n) r || span y (y + 1) r) ≡ span y (y + suc n) r
join_at y n r (yes h) = rw (lt-leb (y + 1) r h, lt-ltb r (y + 1) h, lt-ltb r (y + suc n) (omega arith))
join_at y n r (no h) =
    let k : y + 1 ≤ r = omega arith in
    let e : y + 1 + n ≡ y + suc n = omega arith in
    rw (le-leb (y + 1) r k, le-leb y r (omega arith), le-ltb r (y + 1) k, e) (or-false (ltb r (y + suc n)))

join : {A : Type 0} (c t u s : Bool) (a g : A) → (t || u) ≡ s → cond (c && t) a (cond (c && u) a g) ≡ cond (c && s) a g
join false t u s a g e = refl
join true true u s a g e = rw (sym e)
join true false u s a g e = rw (sym e)

none_at : (c : Bool) (y r : ℕ) → (c && span y (y + 0) r) ≡ false
none_at false y r = refl
none_at true y r =
    same_truth (span y (y + 0) r) false (λ t. absurd (omega (arith, in_span y (y + 0) r t))) (λ t. absurd (false≢true t))

module _ {A : Type 0} (k : ℕ) (v : ℕ → A) (z : A) (w x0 x1 : ℕ) (hk : 0 < k) (hx : x1 ≤ w) where
  abbrev step : ℕ → List A → List A
  step y = span_of v z ((y * w + x0) * k) ((y * w + x1) * k)

  step_at : (y : ℕ) (l : List A) (i : ℕ) → i < length l → get_or (step y l) i z ≡ cond (span x0 x1 (i / k % w) && span y (y + 1) (i / k / w)) (v i) (get_or l i z)
  step_at y l i h = span_at v z l _ _ i h ∙ rw (in_cells k (y * w + x0) (y * w + x1) i hk, in_row w x0 x1 y (i / k) hx)

  turns_at : (n y : ℕ) (l : List A) (i : ℕ) → i < length l → get_or (turns step y n l) i z ≡ cond (span x0 x1 (i / k % w) && span y (y + n) (i / k / w)) (v i) (get_or l i z)
  unfolding turns
  turns_at zero y l i h = rw (none_at (span x0 x1 (i / k % w)) y (i / k / w))
  turns_at (suc n) y l i h =
      turns_at n (y + 1) (step y l) i (rw (length_span v z l ((y * w + x0) * k) ((y * w + x1) * k)) h)
      ∙ ap (λ (g : A). cond (span x0 x1 (i / k % w) && span (y + 1) (y + 1 + n) (i / k / w)) (v i) g) (step_at y l i h)
      ∙ join (span x0 x1 (i / k % w)) _ _ _ (v i) (get_or l i z) (join_at y n (i / k / w) (dec_lt (i / k / w) (y + 1)))

  -- what stands at each place after the rows y0 to y1
  rows_place : (y0 y1 : ℕ) (l : List A) (i : ℕ) → y0 ≤ y1 → i < length l → get_or (rows_of k v z w x0 y0 x1 y1 l) i z ≡ cond (span x0 x1 (i / k % w) && span y0 y1 (i / k / w)) (v i) (get_or l i z)
  unfolding rows_of between
  rows_place y0 y1 l i hy j =
      let n : y0 + (y1 - y0) ≡ y1 = omega arith in
      turns_at (y1 - y0) y0 l i j ∙ rw n

  turns_long : (n y : ℕ) (l : List A) → length (turns step y n l) ≡ length l
  unfolding turns
  turns_long zero y l = refl
  turns_long (suc n) y l = turns_long n (y + 1) (step y l) ∙ length_span v z l ((y * w + x0) * k) ((y * w + x1) * k)

  rows_long : (y0 y1 : ℕ) (l : List A) → length (rows_of k v z w x0 y0 x1 y1 l) ≡ length l
  unfolding rows_of between
  rows_long y0 y1 l = turns_long (y1 - y0) y0 l

-- whole rows: one run of elements
in_whole : (w y0 y1 p : ℕ) → (span 0 w (p % w) && span y0 y1 (p / w)) ≡ span (y0 * w) (y1 * w) p
in_whole zero y0 y1 p =
    let e = mul-zero y0 in
    let f = mul-zero y1 in
    rw (e, f, le-ltb (p % 0) 0 (omega arith), le-ltb p 0 (omega arith), leb-zero (p % 0), leb-zero p)
in_whole (suc w) y0 y1 p =
    rw (leb-zero (p % suc w), lt-ltb (p % suc w) (suc w) (mod-lt p (omega arith))) (sym (in_cells (suc w) y0 y1 p (omega arith)))

pub whole_rows : {A : Type 0} (k : ℕ) (v : ℕ → A) (z : A) (w y0 y1 : ℕ) (l : List A) → 0 < k → y0 ≤ y1
    → span_of v z (y0 * w * k) (y1 * w * k) l ≡ rows_of k v z w 0 y0 w y1 l
unfolding span_of
whole_rows k v z w y0 y1 l hk hy =
    table_is _ z l _ (rows_long k v z w 0 w hk (le_refl w) y0 y1 l)
    (λ i j. sym (rows_place k v z w 0 w hk (le_refl w) y0 y1 l i hy j ∙ rw (in_whole w y0 y1 (i / k), ← in_cells k (y0 * w) (y1 * w) i hk)))

-- what a clear leaves, place by place
module _ {A : Type 0} (k : ℕ) (u : ℕ → A) (z : A) (w h : ℕ) (s : Option ScissorBox) (l : List A) where
  pub length_cleared : length (cleared_of k u z w h s l) ≡ length l
  unfolding cleared_of
  length_cleared = length_tab _ (length l)

  pub cleared_at : (i : ℕ) → i < length l → get_or (cleared_of k u z w h s l) i z ≡ cond (pixel_in w h s (i / k)) (u (i % k)) (get_or l i z)
  unfolding cleared_of
  cleared_at i h = at_places _ z l i h

  -- an empty box
  pub cleared_none : None ≡ bounds_of w h s → l ≡ cleared_of k u z w h s l
  unfolding cleared_of
  cleared_none e =
      sym (table_is _ z l l refl
      (λ i j. ap (λ (t : Bool). cond t (u (i % k)) (get_or l i z)) (sym (bounds_are w h s (i / k % w) (i / k / w)) ∙ ap (λ (b : Option PixelBox). in_bounds b (i / k % w) (i / k / w)) (sym e))))

  -- the rows of a box
  module _ (x0 y0 x1 y1 : ℕ) (hk : 0 < k) (hx : x1 ≤ w) (hy : y0 ≤ y1) (e : Some (record { x0 = x0; y0 = y0; x1 = x1; y1 = y1 }) ≡ bounds_of w h s) where
    in_box_at : (p : ℕ) → (span x0 x1 (p % w) && span y0 y1 (p / w)) ≡ pixel_in w h s p
    in_box_at p = ap (λ (b : Option PixelBox). in_bounds b (p % w) (p / w)) e ∙ bounds_are w h s (p % w) (p / w)

    rows_at : (i : ℕ) → i < length l → cond (pixel_in w h s (i / k)) (u (i % k)) (get_or l i z) ≡ get_or (rows_of k (λ i. u (i % k)) z w x0 y0 x1 y1 l) i z
    rows_at i j = sym (rows_place k (λ i. u (i % k)) z w x0 x1 hk hx y0 y1 l i hy j ∙ rw (in_box_at (i / k)))

    pub rows_clear : rows_of k (λ i. u (i % k)) z w x0 y0 x1 y1 l ≡ cleared_of k u z w h s l
    unfolding cleared_of
    rows_clear = sym (table_is _ z l _ (rows_long k (λ i. u (i % k)) z w x0 x1 hk hx y0 y1 l) rows_at)

-- one element a pixel
pub cleared_one : {A : Type 0} (value z : A) (w h : ℕ) (s : Option ScissorBox) (l : List A)
    → cleared_of 1 (λ c. get_or (value ∷ []) c z) z w h s l ≡ cleared_of 1 (λ c. value) z w h s l
unfolding cleared_of
cleared_one value z w h s l =
    let m : (i : ℕ) → i % 1 ≡ 0 = λ i. omega arith in
    λ t. tab (length l) (λ i. cond (pixel_in w h s (i / 1)) (get_or (value ∷ []) (m i t) z) (get_or l i z))
