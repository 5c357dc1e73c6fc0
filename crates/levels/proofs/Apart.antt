-- Levels that are held apart: the walk over pairs, what it says of two levels, and that levels in order of place are apart. Assumes nothing.
use mathlib.Core.Bool.{Bool, true, false, cond, not}
use mathlib.Core.Path.{◌≡◌, refl, sym, ap, ◌∙◌}
use mathlib.Core.List.{List, [], ◌∷◌}
use Prim.Native.Nat.{ℕ, zero, suc, ◌+◌, ◌*◌, ◌≤◌, ◌<◌}
use native.Mathlib.Numerals.{add-one}
use native.Mathlib.Nat.{zero-mul, mul-zero}
use native.Mathlib.Omega.{arith}
use lib.Dec.{ltb, eqb}
use borrow.Author.Tests.{lt-ltb, le-ltb, leb-true, le-leb, lt-leb}
use lib.ListN.{length, get_or, drop, drop_of_length-le}
use lib.Seq.{drop-cons}
use Rattle.std.proofs.lemmas.Bool.{true≢false, false≢true}
use Rattle.std.proofs.Common.{◌||◌}
use Rattle.std.proofs.lemmas.List.{drop-drop}
use Rattle.std.specs.List.{list_any, enumerate_from}
use Rattle.lists.specs.Lists.{any}
use Rattle.lists.proofs.Choice.{was_true, was_false, neither}
use Rattle.lists.proofs.Members.{any_get_or, get_d_any}
use Rattle.levels.specs.declared.MipLevel.{MipLevel}
use Rattle.std.proofs.lemmas.Bool.{false≢true}
use Rattle.levels.specs.Levels.{absent, size_of, complete, overlap, overlaps, apart, starts_at, end_of, ascending}

-- the walk over pairs
neither_is : (p q : Bool) → not (p || q) ≡ cond p false (not q)
neither_is true q = refl
neither_is false q = refl

pub pairs_apart : (whole l : List MipLevel) (i : ℕ) → drop i whole ≡ l → not (list_any (λ p. any (overlaps p.1) (drop (p.0 + 1) whole)) (enumerate_from i l)) ≡ apart l
unfolding apart
pairs_apart whole [] i e = refl
pairs_apart whole (m ∷ l) i e =
    let r : drop (i + 1) whole ≡ l = sym (drop-drop 1 i whole) ∙ ap (drop 1) e in
    rw (r, sym (pairs_apart whole l (i + 1) r)) (neither_is (any (overlaps m) l) _)

-- the walk in order of place
module _ (l : List MipLevel) (i end : ℕ) where
  pub ascending_on : i < length l → starts_at end (get_or l i absent) ≡ true
      → ascending (end_of end (get_or l i absent)) (drop (i + 1) l) ≡ ascending end (drop i l)
  unfolding ascending
  ascending_on h e = rw (drop-cons l i absent, e, add-one i)

  pub ascending_stop : i < length l → starts_at end (get_or l i absent) ≡ false → ascending end (drop i l) ≡ false
  unfolding ascending
  ascending_stop h e = rw (drop-cons l i absent, e)

  pub ascending_end : length l ≤ i → ascending end (drop i l) ≡ true
  unfolding ascending
  ascending_end h = rw (drop_of_length-le l h)

-- where the next level starts, and where the bytes end behind it
module _ (end : ℕ) (m : MipLevel) where
  pub starts_in : complete m ≡ true → end ≤ m.place → starts_at end m ≡ true
  unfolding starts_at
  starts_in e h = rw e (le-leb end m.place h)

  pub starts_late : complete m ≡ true → m.place < end → starts_at end m ≡ false
  unfolding starts_at
  starts_late e h = rw e (lt-leb end m.place h)

  pub starts_idle : complete m ≡ false → starts_at end m ≡ true
  unfolding starts_at
  starts_idle e = rw e

  pub end_in : complete m ≡ true → end_of end m ≡ m.place + size_of m
  unfolding end_of
  end_in e = rw e

  pub end_idle : complete m ≡ false → end_of end m ≡ end
  unfolding end_of
  end_idle e = rw e

-- a level has bytes only if it is complete
incomplete_size : (m : MipLevel) → complete m ≡ false → m.present ≡ true → size_of m ≡ 0
unfolding complete size_of
incomplete_size m e p = zero_side_is m.height m.width (rw p at e)
  where
    zero_side_is : (h w : ℕ) → cond (ltb 0 w) (ltb 0 h) false ≡ false → h * w * 4 ≡ 0
    zero_side_is zero w e = rw (zero-mul w)
    zero_side_is (suc h) zero e = rw (mul-zero (suc h))
    zero_side_is (suc h) (suc w) e = absurd (true≢false (rw (lt-ltb 0 (suc w) (omega arith), lt-ltb 0 (suc h) (omega arith)) at e))

-- tests that end in false both ways
pub idle_2 : (p q : Bool) → cond p false (cond q false false) ≡ false
idle_2 true q = refl
idle_2 false q = neither q

overlap_empty : (a n b m : ℕ) → n ≡ 0 → overlap a n b m ≡ false
unfolding overlap
overlap_empty a n b m e = rw e

overlap_empty_2 : (a n b m : ℕ) → m ≡ 0 → overlap a n b m ≡ false
unfolding overlap
overlap_empty_2 a n b m e = rw e (neither (eqb n 0))

overlap_after : (a n b m : ℕ) → a + n ≤ b → overlap a n b m ≡ false
unfolding overlap
overlap_after a n b m h = rw (le-ltb b (a + n) h) (idle_2 (eqb n 0) (eqb m 0))

-- two levels of which the second starts where the first has ended, or later
module _ (a b : MipLevel) where
  known : (p q ca cb : Bool) → a.present ≡ p → b.present ≡ q → complete a ≡ ca → complete b ≡ cb → (complete a ≡ true → complete b ≡ true → a.place + size_of a ≤ b.place)
      → overlaps a b ≡ false
  unfolding overlaps size_of
  known false q ca cb p r x y h = rw p
  known true false ca cb p r x y h = rw (p, r)
  known true true false cb p r x y h = rw (p, r) (overlap_empty a.place (size_of a) b.place (size_of b) (incomplete_size a x p))
  known true true true false p r x y h = rw (p, r) (overlap_empty_2 a.place (size_of a) b.place (size_of b) (incomplete_size b y r))
  known true true true true p r x y h = rw (p, r) (overlap_after a.place (size_of a) b.place (size_of b) (h x y))

  pub after_apart : (complete a ≡ true → complete b ≡ true → a.place + size_of a ≤ b.place) → overlaps a b ≡ false
  after_apart h = known a.present b.present (complete a) (complete b) refl refl refl refl h

starts_after : (end : ℕ) (m : MipLevel) → starts_at end m ≡ true → complete m ≡ true → end ≤ m.place
unfolding starts_at
starts_after end m e h = leb-true end m.place (rw h at e)

end_grows : (end : ℕ) (m : MipLevel) → starts_at end m ≡ true → (c : Bool) → complete m ≡ c → end ≤ end_of end m
unfolding end_of
end_grows end m e true h = let g = starts_after end m e h in rw h (omega arith)
end_grows end m e false h = rw h (omega arith)

-- a level that has ended by `end` overlaps none of those that ascend from there
before_all : (a : MipLevel) (end : ℕ) (l : List MipLevel) → (complete a ≡ true → a.place + size_of a ≤ end) → ascending end l ≡ true → any (overlaps a) l ≡ false
unfolding ascending
before_all a end [] h e = refl
before_all a end (b ∷ l) h e =
    let s = was_true (starts_at end b) e false≢true in
    let first : overlaps a b ≡ false = after_apart a b (λ x y. omega (arith, h x, starts_after end b s.0 y)) in
    rw first (before_all a (end_of end b) l (λ x. omega (arith, h x, end_grows end b s.0 (complete b) refl)) s.1)

pub ascending_apart : (l : List MipLevel) (end : ℕ) → ascending end l ≡ true → apart l ≡ true
unfolding apart ascending
ascending_apart [] end e = refl
ascending_apart (a ∷ l) end e =
    let s = was_true (starts_at end a) e false≢true in
    rw (before_all a (end_of end a) l (λ x. omega (arith, end_in end a x)) s.1) (ascending_apart l (end_of end a) s.1)

-- ---- apart, by pairs

overlaps_absent : (m : MipLevel) → overlaps m absent ≡ false
unfolding overlaps
overlaps_absent m = neither m.present

pub apart_at : (l : List MipLevel) → apart l ≡ true → (i j : ℕ) → i < j → overlaps (get_or l i absent) (get_or l j absent) ≡ false
unfolding apart
apart_at [] e i j h = overlaps_absent absent
apart_at (m ∷ l) e i zero h = absurd (omega arith)
apart_at (m ∷ l) e zero (suc j) h =
    any_get_or (overlaps m) absent l (was_false (any (overlaps m) l) e false≢true).0 (overlaps_absent m) j
apart_at (m ∷ l) e (suc i) (suc j) h = apart_at l (was_false (any (overlaps m) l) e false≢true).1 i j (omega arith)

pub apart_make : (l : List MipLevel) → ((i j : ℕ) → i < j → overlaps (get_or l i absent) (get_or l j absent) ≡ false) → apart l ≡ true
unfolding apart
apart_make [] h = refl
apart_make (m ∷ l) h =
    rw (get_d_any (overlaps m) absent l (λ i k. h 0 (suc i) (omega arith))) (apart_make l (λ i j k. h (suc i) (suc j) (omega arith)))

-- a level among those that overlap nothing
pub overlaps_none : (m : MipLevel) (l : List MipLevel) → any (overlaps m) l ≡ false → (i : ℕ) → overlaps m (get_or l i absent) ≡ false
overlaps_none m l e i = any_get_or (overlaps m) absent l e (overlaps_absent m) i

pub overlaps_gone : (m : MipLevel) → (overlaps m absent ≡ false) × (overlaps absent m ≡ false)
unfolding overlaps
overlaps_gone m = (overlaps_absent m, refl)

turned : (p q r s : Bool) → cond p false (cond q false (cond r s false)) ≡ cond q false (cond p false (cond s r false))
turned true true r s = refl
turned true false r s = refl
turned false true r s = refl
turned false false true true = refl
turned false false true false = refl
turned false false false true = refl
turned false false false false = refl

overlap_sym : (a n b m : ℕ) → overlap a n b m ≡ overlap b m a n
unfolding overlap
overlap_sym a n b m = turned (eqb n 0) (eqb m 0) (ltb b (a + n)) (ltb a (b + m))

swapped : (p q r s : Bool) → r ≡ s → cond p (cond q r false) false ≡ cond q (cond p s false) false
swapped true true r s e = e
swapped true false r s e = refl
swapped false true r s e = refl
swapped false false r s e = refl

pub overlaps_sym : (a b : MipLevel) → overlaps a b ≡ overlaps b a
unfolding overlaps
overlaps_sym a b =
    swapped a.present b.present (overlap a.place (size_of a) b.place (size_of b)) (overlap b.place (size_of b) a.place (size_of a))
    (overlap_sym a.place (size_of a) b.place (size_of b))
