-- Rows of a box filled in turn: one row more, and what stands at each place in the end. Assumes nothing.
use Prim.Native.Nat.{ℕ, ◌+◌, ◌*◌, ◌≤◌, ◌<◌}
use mathlib.Core.Path.{◌≡◌, sym, ◌∙◌}
use mathlib.Core.List.{List}
use native.Mathlib.Omega.{arith}
use native.Mathlib.Nat.{suc-mul, mul-le-mul_right, mul-le-mul_left}
use lib.ListN.{length}
use Rattle.lists.proofs.Turns.{between_more, between_done}
use Rattle.render_target.specs.Clear.{span_of, rows_of}
use Rattle.render_target.proofs.Spans.{length_span}

module _ {A : Type 0} (k : ℕ) (v : ℕ → A) (z : A) (w x0 x1 y1 : ℕ) (l : List A) where
  pub rows_more : (y : ℕ) → y < y1 → rows_of k v z w x0 y x1 y1 l ≡ rows_of k v z w x0 (y + 1) x1 y1 (span_of v z ((y * w + x0) * k) ((y * w + x1) * k) l)
  unfolding rows_of
  rows_more y h = between_more _ l y y1 h

  pub rows_done : (y : ℕ) → y1 ≤ y → rows_of k v z w x0 y x1 y1 l ≡ l
  unfolding rows_of
  rows_done y h = between_done _ l y y1 h

-- A loop over the rows under way at row y: what is left to do gives the whole, and the length has not changed.
pub record Rowing {A : Type 0} (k : ℕ) (v : ℕ → A) (z : A) (w x0 x1 y1 : ℕ) (whole : List A) (n : ℕ) (l : List A) (y : ℕ) : Type 0 where
  pub rest : rows_of k v z w x0 y x1 y1 l ≡ whole
  pub long : length l ≡ n

module _ {A : Type 0} {k : ℕ} {v : ℕ → A} {z : A} {w x0 x1 y1 : ℕ} {whole : List A} {n : ℕ} {l : List A} {y : ℕ} (now : Rowing k v z w x0 x1 y1 whole n l y) where
  pub row_more : y < y1 → {l' : List A} → l' ≡ span_of v z ((y * w + x0) * k) ((y * w + x1) * k) l → Rowing k v z w x0 x1 y1 whole n l' (y + 1)
  row_more h e = record {
    rest = rw e (sym (rows_more k v z w x0 x1 y1 l y h) ∙ now.rest);
    long = rw e (length_span v z l _ _ ∙ now.long);
  }

  pub rows_end : y1 ≤ y → l ≡ whole
  rows_end h = sym (rows_done k v z w x0 x1 y1 l y h) ∙ now.rest

-- row y of y1 ends within them
pub row_within : (w : ℕ) {y y1 : ℕ} → y < y1 → y * w + w ≤ y1 * w
row_within w {y} h = omega (arith, suc-mul y w, mul-le-mul_right w h)

-- and its end is no later than that of as many elements, k a pixel
pub row_room : (w k : ℕ) {y y1 : ℕ} → 0 < k → y < y1 → y * w + w ≤ y1 * w * k
row_room w k {y} {y1} i h = omega (arith, row_within w h, mul-le-mul_left (y1 * w) i)
