-- The box cut to the target holds exactly the pixels of the target that lie in the scissor box. Assumes nothing.
use Rattle.std.proofs.lemmas.Bool.{false≢true, and_from, and_parts}
use Rattle.std.specs.Prelude.{Option, Some, None}
use Prim.Native.Nat.{ℕ, ◌+◌, ◌-◌, ◌*◌, ◌≤◌, ◌<◌, min}
use mathlib.Core.Path.{◌≡◌, refl, sym, ◌∙◌}
use mathlib.Core.Bool.{Bool, true, false, cond, ◌&&◌}
use native.Mathlib.Omega.{arith}
use native.Mathlib.Nat.{mul_comm, mul-le-mul_right}
use lib.Dec.{leb, ltb, leb-zero}
use lib.IntN.{ℤ, pos, negsuc, ◌+ℤ◌}
use lib.Signed.{le_z, lt_z}
use borrow.Author.Tests.{leb-true, ltb-true, le-leb, lt-ltb, le-ltb}
use Rattle.scissor.specs.Scissor.{within, in_box, from_zero, box_of, cut_of, bounds_of, in_bounds}
use Rattle.scissor.specs.declared.PixelBox.{PixelBox}
use Rattle.settings.specs.declared.ScissorBox.{ScissorBox}

-- two tests are one where each passes with the other
pub same_truth : (a b : Bool) → (a ≡ true → b ≡ true) → (b ≡ true → a ≡ true) → a ≡ b
same_truth true b f g = sym (f refl)
same_truth false true f g = g refl
same_truth false false f g = refl

-- an interval of naturals, its end left out
abbrev pub span : ℕ → ℕ → ℕ → Bool
span a e k = leb a k && ltb k e

pub in_span : (a e k : ℕ) → span a e k ≡ true → (a ≤ k) × (k < e)
in_span a e k h = (leb-true a k (and_parts (leb a k) (ltb k e) h).0, ltb-true k e (and_parts (leb a k) (ltb k e) h).1)

pub to_span : (a e k : ℕ) → a ≤ k → k < e → span a e k ≡ true
to_span a e k h i = and_from _ _ (le-leb a k h) (lt-ltb k e i)

-- the scissor's numbers, from 0 on, give the same interval
low_is : (z : ℤ) (k : ℕ) → le_z z (pos k) ≡ leb (from_zero z) k
low_is (pos n) k = refl
low_is (negsuc n) k = sym (leb-zero k)

high_is : (z : ℤ) (k : ℕ) → lt_z (pos k) z ≡ ltb k (from_zero z)
high_is (pos n) k = refl
high_is (negsuc n) k = sym (le-ltb k 0 (omega arith))

within_is : (from len : ℤ) (k : ℕ) → within from len k ≡ span (from_zero from) (from_zero (from +ℤ len)) k
within_is from len k = rw (low_is from k, high_is (from +ℤ len) k)

-- an empty box holds no pixel, as its numbers say
module _ (x0 y0 x1 y1 c r : ℕ) where
  none : (t : Bool) → (ltb x0 x1 && ltb y0 y1) ≡ t → (span x0 x1 c && span y0 y1 r) ≡ true → t ≡ true
  none t e h =
      let p = and_parts (span x0 x1 c) (span y0 y1 r) h in
      let x = in_span x0 x1 c p.0 in
      let y = in_span y0 y1 r p.1 in
      sym e ∙ and_from _ _ (lt-ltb x0 x1 (omega arith)) (lt-ltb y0 y1 (omega arith))

  pick : (t : Bool) → (ltb x0 x1 && ltb y0 y1) ≡ t → in_bounds (cond t (Some (record { x0 = x0; y0 = y0; x1 = x1; y1 = y1 })) None) c r ≡ (span x0 x1 c && span y0 y1 r)
  pick true e = refl
  pick false e = same_truth false (span x0 x1 c && span y0 y1 r) (λ h. absurd (false≢true h)) (none false e)

  in_box_of : in_bounds (box_of x0 y0 x1 y1) c r ≡ (span x0 x1 c && span y0 y1 r)
  in_box_of = pick (ltb x0 x1 && ltb y0 y1) refl

-- the same on naturals: columns a to e, rows b to d from the bottom
module _ (w h a e b d c r : ℕ) where
  abbrev cut_side : Bool
  cut_side = span a (min e w) c && span (h - d) (h - b) r

  abbrev box_side : Bool
  box_side = (ltb c w && ltb r h) && (span a e c && span b d (h - 1 - r))

  cut_box : cut_side ≡ true → box_side ≡ true
  cut_box t =
      let p = and_parts (span a (min e w) c) (span (h - d) (h - b) r) t in
      let x = in_span a (min e w) c p.0 in
      let y = in_span (h - d) (h - b) r p.1 in
      and_from _ _ (and_from _ _ (lt-ltb c w (omega arith)) (lt-ltb r h (omega arith)))
      (and_from _ _ (to_span a e c (omega arith) (omega arith)) (to_span b d (h - 1 - r) (omega arith) (omega arith)))

  box_cut : box_side ≡ true → cut_side ≡ true
  box_cut t =
      let p = and_parts (ltb c w && ltb r h) (span a e c && span b d (h - 1 - r)) t in
      let q = and_parts (ltb c w) (ltb r h) p.0 in
      let s = and_parts (span a e c) (span b d (h - 1 - r)) p.1 in
      let x = in_span a e c s.0 in
      let y = in_span b d (h - 1 - r) s.1 in
      let i : c < w = ltb-true c w q.0 in
      let j : r < h = ltb-true r h q.1 in
      and_from _ _ (to_span a (min e w) c (omega arith) (omega arith)) (to_span (h - d) (h - b) r (omega arith) (omega arith))

  same_box : cut_side ≡ box_side
  same_box = same_truth cut_side box_side cut_box box_cut

-- the law: a pixel is within the numbers of scissor_bounds exactly if it is a pixel of the target in the box
pub bounds_are : (w h : ℕ) (s : Option ScissorBox) (c r : ℕ) → in_bounds (bounds_of w h s) c r ≡ in_box w h s c r
unfolding bounds_of cut_of in_box
bounds_are w h None c r = rw (leb-zero c, leb-zero r)
bounds_are w h (Some b) c r =
    let x = sym (within_is b.x b.width c) in
    let y = sym (within_is b.y b.height (h - 1 - r)) in
    in_box_of _ _ _ _ c r
    ∙ same_box w h (from_zero b.x) (from_zero (b.x +ℤ b.width)) (from_zero b.y) (from_zero (b.y +ℤ b.height)) c r
    ∙ (λ i. (ltb c w && ltb r h) && (x i && y i))

-- the scissor test in words: the column and the row, counted from the bottom, are within the numbers
pub is_in_box : (w h : ℕ) (x y across up : ℤ) (c r fromBottom : ℕ) → c < w → r + fromBottom + 1 ≡ h
    → in_box w h (Some (record { x = x; y = y; width = across; height = up })) c r ≡ (within x across c && within y up fromBottom)
unfolding in_box
is_in_box w h x y across up c r k i e =
    let row : h - 1 - r ≡ k = omega arith in
    rw (lt-ltb c w i, lt-ltb r h (omega arith), row)

-- bounds lie within the target, and their ends do not fall short of their starts
abbrev pub Inside : ℕ → ℕ → Option PixelBox → Type 0
Inside w h None = Unit
Inside w h (Some box) = (box.x0 ≤ box.x1) × (box.x1 ≤ w) × (box.y0 ≤ box.y1) × (box.y1 ≤ h)

module _ (w h x0 y0 x1 y1 : ℕ) (i : x1 ≤ w) (j : y1 ≤ h) where
  inside_at : (t : Bool) → (ltb x0 x1 && ltb y0 y1) ≡ t → Inside w h (cond t (Some (record { x0 = x0; y0 = y0; x1 = x1; y1 = y1 })) None)
  inside_at false e = tt
  inside_at true e =
      let p = and_parts (ltb x0 x1) (ltb y0 y1) e in
      let x : x0 < x1 = ltb-true x0 x1 p.0 in
      let y : y0 < y1 = ltb-true y0 y1 p.1 in
      (omega arith, i, omega arith, j)

pub bounds_inside : (w h : ℕ) (s : Option ScissorBox) → Inside w h (bounds_of w h s)
unfolding bounds_of cut_of
bounds_inside w h None = (omega arith, omega arith, omega arith, omega arith)
bounds_inside w h (Some b) =
    inside_at w h (from_zero b.x) (h - from_zero (b.y +ℤ b.height)) (min (from_zero (b.x +ℤ b.width)) w) (h - from_zero b.y) (omega arith) (omega arith) _ refl

pub box_inside : (w h : ℕ) (s : Option ScissorBox) {b : Option PixelBox} → b ≡ bounds_of w h s → Inside w h b
box_inside w h s e = rw e (bounds_inside w h s)

-- the rows up to y1 lie within w * h elements, and k times that
pub rows_fit : (w h : ℕ) {y1 n : ℕ} → y1 ≤ h → n ≡ w * h → y1 * w ≤ n
rows_fit w h i e = omega (arith, mul-le-mul_right w i, mul_comm w h)
