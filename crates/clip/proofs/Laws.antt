-- The walk around a polygon, step by step, and how many corners it can give. Assumes nothing.
use mathlib.Core.Bool.{Bool, true, false, cond, beq, ◌&&◌}
use mathlib.Core.Path.{◌≡◌, refl, sym, ◌∙◌}
use mathlib.Core.List.{List, [], ◌∷◌, ◌++◌}
use Prim.Native.Nat.{ℕ, zero, suc, ◌+◌, ◌*◌, ◌/◌, ◌≤◌, ◌<◌}
use native.Mathlib.Numerals.{add-one}
use native.Mathlib.Omega.{arith}
use native.Mathlib.Decide.{dec_lt}
use Rattle.std.proofs.lemmas.Grind.{common_steps}
use lib.Dec.{eqb, ltb}
use borrow.Author.Tests.{lt-ltb, le-ltb, eq-eqb, ne_eqb}
use lib.ListN.{length, get_or, drop, length-append, drop_of_length-le}
use lib.Seq.{drop-cons}
use Rattle.std.specs.List.{list_all}
use Rattle.std.proofs.lemmas.Bool.{and_parts, false≢true}
use Rattle.std.proofs.lemmas.List.{nil_from_length}
use Rattle.std.proofs.lemmas.List.Sums.{count_by-le-length}
use Rattle.vertices.specs.declared.Vertex.{Vertex}
use Rattle.floats.specs.Num.{◌⊖◌, ◌⊘◌, zero32}
use Rattle.vertices.specs.declared.Plane.{Plane}
use Rattle.vertices.specs.Vertex.{planes, inside, distance, lerp}
use lib.Ieee as Ieee
use lib.Ieee.{Float}
use Rattle.clip.specs.Clip.{differ, cross, kept, crossing, head_or, walk, walked, insides, clip_plane, clip_each, clipped}

-- ---- the corner after corner i, or the first

next_of : (l : List Vertex) (first : Vertex) (i : ℕ) → head_or first (drop i l) ≡ get_or l i first
unfolding head_or
next_of [] first zero = refl
next_of [] first (suc i) = refl
next_of (a ∷ l) first zero = refl
next_of (a ∷ l) first (suc i) = next_of l first i

module _ (p : Plane) (l : List Vertex) (d : Vertex) (i : ℕ) (h : i < length l) where
  walk_on : walk p (get_or l 0 d) (drop i l)
      ≡ kept p (get_or l i d) ++ (crossing p (get_or l i d) (get_or l (i + 1) (get_or l 0 d)) ++ walk p (get_or l 0 d) (drop (i + 1) l))
  unfolding walk
  walk_on = rw (drop-cons l i d h, ← next_of l (get_or l 0 d) (i + 1), add-one)

-- what is left of the walk at corner i
unfoldable pub rest : Plane → List Vertex → ℕ → List Vertex
rest p [] i = []
rest p (a ∷ l) i = walk p a (drop i (a ∷ l))

pub rest_start : (p : Plane) (l : List Vertex) → rest p l 0 ≡ walked p l
unfolding rest walked
rest_start p [] = refl
rest_start p (a ∷ l) = refl

rest_walk : (p : Plane) (l : List Vertex) (d : Vertex) (i : ℕ) → i < length l → rest p l i ≡ walk p (get_or l 0 d) (drop i l)
unfolding rest
rest_walk p [] d i h = absurd (omega arith)
rest_walk p (a ∷ l) d i h = refl

pub rest_end : (p : Plane) (l : List Vertex) (i : ℕ) → length l ≤ i → rest p l i ≡ []
unfolding rest walk
rest_end p [] i h = refl
rest_end p (a ∷ l) i h = rw (drop_of_length-le (a ∷ l) h)

rest_next : (p : Plane) (l : List Vertex) (d : Vertex) (i : ℕ) → i < length l → rest p l (i + 1) ≡ walk p (get_or l 0 d) (drop (i + 1) l)
unfolding rest
rest_next p [] d i h = absurd (omega arith)
rest_next p (a ∷ l) d i h = refl

pub rest_on : (p : Plane) (l : List Vertex) (d : Vertex) (i : ℕ) → i < length l
    → rest p l i ≡ kept p (get_or l i d) ++ (crossing p (get_or l i d) (get_or l (i + 1) (get_or l 0 d)) ++ rest p l (i + 1))
rest_on p l d i h = rest_walk p l d i h ∙ walk_on p l d i h ∙ rw (rest_next p l d i h)

-- ---- how many

-- 1 or 0
abbrev one : Bool → ℕ
one b = cond b 1 0

insides_cons : (p : Plane) (a : Vertex) (l : List Vertex) → insides p (a ∷ l) ≡ one (inside p a) + insides p l
unfolding insides
insides_cons p a l = grind (arith, common_steps)

length_if : (t : Bool) (v : Vertex) → length (cond t (v ∷ []) []) ≡ one t
length_if true v = refl
length_if false v = refl

differ_in : (s t : Bool) → one (differ s t) ≤ one s + one t
differ_in true true = omega arith
differ_in true false = omega arith
differ_in false true = omega arith
differ_in false false = omega arith

differ_out : (s t : Bool) → one (differ s t) + one s + one t ≤ 2
differ_out true true = omega arith
differ_out true false = omega arith
differ_out false true = omega arith
differ_out false false = omega arith

-- an edge pushes its first corner if that is inside, and one more if the edge changes sides
length_edge : (p : Plane) (a b : Vertex) (l : List Vertex) → length (kept p a ++ (crossing p a b ++ l)) ≡ one (inside p a) + (one (differ (inside p a) (inside p b)) + length l)
unfolding kept crossing
length_edge p a b l = simp (length-append, length_if)

-- each change of sides is charged to its inside end, or to its outside end
module _ (p : Plane) (first : Vertex) where
  few_in : (a : Vertex) (l : List Vertex) → length (walk p first (a ∷ l)) + one (inside p a) ≤ 3 * insides p (a ∷ l) + one (inside p first)
  unfolding walk insides head_or
  few_in a [] = omega (arith, insides_cons p a [], length_edge p a first [], differ_in (inside p a) (inside p first))
  few_in a (b ∷ l) = omega (arith, insides_cons p a (b ∷ l), length_edge p a b (walk p first (b ∷ l)), differ_in (inside p a) (inside p b), few_in b l)

  few_out : (a : Vertex) (l : List Vertex) → length (walk p first (a ∷ l)) + insides p (a ∷ l) + one (inside p first) ≤ 2 * length (a ∷ l) + one (inside p a)
  unfolding walk insides head_or
  few_out a [] = omega (arith, insides_cons p a [], length_edge p a first [], differ_out (inside p a) (inside p first))
  few_out a (b ∷ l) = omega (arith, insides_cons p a (b ∷ l), length_edge p a b (walk p first (b ∷ l)), differ_out (inside p a) (inside p b), few_out b l)

-- at most three halves as many
pub walked_few : (p : Plane) (l : List Vertex) → 2 * length (walked p l) ≤ 3 * length l
unfolding walked
walked_few p [] = omega arith
walked_few p (a ∷ l) = omega (arith, few_in p a a l, few_out p a a l)

either_few : (t : Bool) (x y : List Vertex) (m : ℕ) → 2 * length x ≤ m → 2 * length y ≤ m → 2 * length (cond t x y) ≤ m
either_few true x y m f g = f
either_few false x y m f g = g

pub clip_few : (p : Plane) (l : List Vertex) → 2 * length (clip_plane p l) ≤ 3 * length l
unfolding clip_plane
clip_few p l =
    either_few (eqb (insides p l) (length l)) l _ _ (omega arith) (either_few (eqb (insides p l) 0) [] _ _ (omega arith) (walked_few p l))

-- ---- the three cases of a plane, by the count n of the corners inside

module _ (p : Plane) (l : List Vertex) {n : ℕ} (e : n ≡ insides p l) where
  pub clip_all : n ≡ length l → l ≡ clip_plane p l
  unfolding clip_plane
  clip_all h = rw (eq-eqb (insides p l) (length l) (omega arith))

  module _ (h : n ≡ length l → ⊥) where
    some_out : insides p l ≡ length l → ⊥
    some_out q = h (e ∙ q)

    pub clip_none : n ≡ 0 → [] ≡ clip_plane p l
    unfolding clip_plane
    clip_none z = rw (ne_eqb (insides p l) (length l) some_out, eq-eqb (insides p l) 0 (sym e ∙ z))

    pub clip_walk : (n ≡ 0 → ⊥) → walked p l ≡ clip_plane p l
    unfolding clip_plane
    clip_walk z = rw (ne_eqb (insides p l) (length l) some_out, ne_eqb (insides p l) 0 (λ q. z (e ∙ q)))

-- where a test of each corner says whether all are inside
insides_nil : (p : Plane) → insides p [] ≡ 0
unfolding insides
insides_nil p = refl

inside_at_most : (p : Plane) (l : List Vertex) → insides p l ≤ length l
unfolding insides
inside_at_most p l = count_by-le-length _ l

all_counted : (p : Plane) (l : List Vertex) → list_all (λ v. inside p v) l ≡ true → insides p l ≡ length l
all_counted p [] e = insides_nil p
all_counted p (a ∷ l) e =
    let h = and_parts (inside p a) _ e in
    let q : insides p (a ∷ l) ≡ 1 + insides p l = insides_cons p a l ∙ rw h.0 in
    omega (arith, q, all_counted p l h.1)

some_step : (t u : Bool) {k n : ℕ} → (t && u) ≡ false → (u ≡ false → k < n) → k ≤ n → one t + k < n + 1
some_step true u e f h = omega (arith, f e)
some_step false u e f h = omega arith

some_counted : (p : Plane) (l : List Vertex) → list_all (λ v. inside p v) l ≡ false → insides p l < length l
some_counted p [] e = absurd (false≢true (sym e))
some_counted p (a ∷ l) e = omega (arith, insides_cons p a l, some_step (inside p a) (list_all (λ v. inside p v) l) e (some_counted p l) (inside_at_most p l))

-- none inside: the walk leaves none either
walked_none : (p : Plane) (l : List Vertex) → insides p l ≡ 0 → walked p l ≡ []
unfolding walked
walked_none p [] z = refl
walked_none p (a ∷ l) z = nil_from_length _ (omega (arith, few_in p a a l))

module _ (p : Plane) (l : List Vertex) where
  pub clip_all_in : list_all (λ v. inside p v) l ≡ true → l ≡ clip_plane p l
  clip_all_in e = clip_all p l refl (all_counted p l e)

  walk_of : (n : ℕ) → n ≡ insides p l → Dec (0 < n) → insides p l < length l → walked p l ≡ clip_plane p l
  walk_of n e (no z) h =
      let o : n ≡ 0 = omega arith in
      walked_none p l (sym e ∙ o) ∙ clip_none p l e (λ q. omega arith) o
  walk_of n e (yes z) h = clip_walk p l e (λ q. omega arith) (λ q. omega arith)

  pub clip_walked : list_all (λ v. inside p v) l ≡ false → walked p l ≡ clip_plane p l
  clip_walked e = walk_of (insides p l) refl (dec_lt 0 (insides p l)) (some_counted p l e)

-- ---- the planes in turn

-- how many corners there can be at plane n: 3, 4, 6, 9, 13, 19, 28, 42
unfoldable pub caps : ℕ → ℕ
caps zero = 3
caps (suc n) = caps n * 3 / 2

pub caps_below : (n : ℕ) → n < 7 → caps n ≤ 28
unfolding caps
caps_below zero h = omega arith
caps_below (suc zero) h = omega arith
caps_below (suc (suc zero)) h = omega arith
caps_below (suc (suc (suc zero))) h = omega arith
caps_below (suc (suc (suc (suc zero)))) h = omega arith
caps_below (suc (suc (suc (suc (suc zero))))) h = omega arith
caps_below (suc (suc (suc (suc (suc (suc zero)))))) h = omega arith
caps_below (suc (suc (suc (suc (suc (suc (suc n))))))) h = absurd (omega arith)

-- a plane leads from one cap to the next
pub caps_next : (n : ℕ) (p : Plane) (l : List Vertex) → length l ≤ caps n → length (clip_plane p l) ≤ caps (n + 1)
unfolding caps
caps_next n p l h = rw add-one (omega (arith, clip_few p l))

module _ (ps : List Plane) (i : ℕ) (d : Plane) (l : List Vertex) where
  pub clip_on : i < length ps → 3 ≤ length (clip_plane (get_or ps i d) l) → clip_each (drop (i + 1) ps) (clip_plane (get_or ps i d) l) ≡ clip_each (drop i ps) l
  unfolding clip_each
  clip_on h k = rw (drop-cons ps i d h, le-ltb (length (clip_plane (get_or ps i d) l)) 3 k, add-one)

  pub clip_out : i < length ps → length (clip_plane (get_or ps i d) l) < 3 → clip_each (drop i ps) l ≡ []
  unfolding clip_each
  clip_out h k = rw (drop-cons ps i d h, lt-ltb (length (clip_plane (get_or ps i d) l)) 3 k)

  pub clip_end : length ps ≤ i → clip_each (drop i ps) l ≡ l
  unfolding clip_each
  clip_end h = rw (drop_of_length-le ps h)

-- ---- never more than 42

few_or_none : (t : Bool) (y : List Vertex) (m : ℕ) → length y ≤ m → length (cond t [] y) ≤ m
few_or_none true y m h = omega arith
few_or_none false y m h = h

each_few : (ps : List Plane) (n : ℕ) (l : List Vertex) → n + length ps ≡ 7 → length l ≤ caps n → length (clip_each ps l) ≤ 42
unfolding clip_each caps
each_few [] n l e h =
    let seven : n ≡ 7 = omega arith in
    rw seven at h
each_few (p ∷ ps) n l e h =
    few_or_none (ltb (length (clip_plane p l)) 3) _ 42
    (each_few ps (suc n) (clip_plane p l) (omega arith) (rw add-one at (caps_next n p l h)))

pub clipped_few : (l : List Vertex) → length l ≤ 3 → length (clipped l) ≤ 42
unfolding clipped caps
clipped_few l h = each_few planes 0 l refl h

-- ---- what an edge gives, once its tests are known

module _ (p : Plane) (a b : Vertex) where
  pub kept_in : inside p a ≡ true → kept p a ≡ a ∷ []
  unfolding kept
  kept_in e = rw e

  pub kept_out : inside p a ≡ false → kept p a ≡ []
  unfolding kept
  kept_out e = rw e

  module _ {da db : Float} (ea : da ≡ distance p a) (eb : db ≡ distance p b) where
    pub crosses : beq (Ieee.le zero32 da) (Ieee.le zero32 db) ≡ false → {v : Vertex} → v ≡ lerp (da ⊘ (da ⊖ db)) a b → crossing p a b ≡ v ∷ []
    unfolding crossing cross inside
    crosses t e = rw (e, ← ea, ← eb, t)

    pub stays : beq (Ieee.le zero32 da) (Ieee.le zero32 db) ≡ true → crossing p a b ≡ []
    unfolding crossing cross inside
    stays t = rw (← ea, ← eb, t)
