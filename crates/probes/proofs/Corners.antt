-- The corners of a list of floats: what a store changes. Assumes nothing.
use mathlib.Core.Path.{◌≡◌, refl, ap, subst, ◌∙◌}
use mathlib.Core.List.{List, [], ◌∷◌, ◌++◌, append_assoc}
use Prim.Native.Nat.{ℕ, ◌+◌, ◌*◌, ◌≤◌, ◌<◌}
use native.Mathlib.Numerals.{add-one}
use native.Mathlib.Omega.{arith}
use lib.ListN.{length, get_or, take, drop, length-append, get_or-append}
use lib.Seq.{paste, take_all, length-take-le, get_or-take, get_or-append-add}
use lib.Ieee.{Float, nan}
use Rattle.lists.specs.Lists.{tab}
use Rattle.lists.proofs.Tables.{tab_same}
use Rattle.vertices.specs.declared.Vertex.{Vertex}
use Rattle.vertices.specs.Floats.{floats_of}
use Rattle.probes.specs.Corners.{vertex_from, vertex_at, corners_of, put_at, Full}

same_floats : (f g : ℕ → Float) → ((k : ℕ) → k < 17 → f k ≡ g k) → vertex_from f ≡ vertex_from g
same_floats f g h =
    rw (
      h 0 (omega arith),
      h 1 (omega arith),
      h 2 (omega arith),
      h 3 (omega arith),
      h 4 (omega arith),
      h 5 (omega arith),
      h 6 (omega arith),
      h 7 (omega arith),
      h 8 (omega arith),
      h 9 (omega arith),
      h 10 (omega arith),
      h 11 (omega arith),
      h 12 (omega arith),
      h 13 (omega arith),
      h 14 (omega arith),
      h 15 (omega arith),
      h 16 (omega arith),
    )

four_is : (l : List Float) → length l ≡ 4 → get_or l 0 nan ∷ get_or l 1 nan ∷ get_or l 2 nan ∷ get_or l 3 nan ∷ [] ≡ l
four_is (a ∷ b ∷ c ∷ d ∷ []) e = refl
four_is [] e = absurd (omega arith)
four_is (a ∷ []) e = absurd (omega arith)
four_is (a ∷ b ∷ []) e = absurd (omega arith)
four_is (a ∷ b ∷ c ∷ []) e = absurd (omega arith)
four_is (a ∷ b ∷ c ∷ d ∷ x ∷ l) e = absurd (omega arith)

eight_is : (l : List Float) → length l ≡ 8
    → get_or l 0 nan ∷ get_or l 1 nan ∷ get_or l 2 nan ∷ get_or l 3 nan ∷ get_or l 4 nan ∷ get_or l 5 nan ∷ get_or l 6 nan ∷ get_or l 7 nan ∷ [] ≡ l
eight_is (a ∷ b ∷ c ∷ d ∷ l) e = ap (λ (r : List Float). a ∷ b ∷ c ∷ d ∷ r) (four_is l (omega arith))
eight_is [] e = absurd (omega arith)
eight_is (a ∷ []) e = absurd (omega arith)
eight_is (a ∷ b ∷ []) e = absurd (omega arith)
eight_is (a ∷ b ∷ c ∷ []) e = absurd (omega arith)

-- a full vertex is made of its own floats
made : (p c t : List Float) (g : Float) → length p ≡ 4 → length c ≡ 4 → length t ≡ 8
    → vertex_from (λ k. get_or (p ++ (c ++ (t ++ (g ∷ [])))) k nan) ≡ record { pos = p; color = c; texcoord = t; fog_depth = g }
made p c t g hp hc ht =
    subst (λ (p : List Float). vertex_from (λ k. get_or (p ++ (c ++ (t ++ (g ∷ [])))) k nan) ≡ record { pos = p; color = c; texcoord = t; fog_depth = g }) (four_is p hp)
    (subst (λ (c : List Float). vertex_from (λ k. get_or ((get_or p 0 nan ∷ get_or p 1 nan ∷ get_or p 2 nan ∷ get_or p 3 nan ∷ []) ++ (c ++ (t ++ (g ∷ [])))) k nan) ≡ record { pos = get_or p 0 nan ∷ get_or p 1 nan ∷ get_or p 2 nan ∷ get_or p 3 nan ∷ []; color = c; texcoord = t; fog_depth = g }) (four_is c hc)
    (subst (λ (t : List Float). vertex_from (λ k. get_or ((get_or p 0 nan ∷ get_or p 1 nan ∷ get_or p 2 nan ∷ get_or p 3 nan ∷ []) ++ ((get_or c 0 nan ∷ get_or c 1 nan ∷ get_or c 2 nan ∷ get_or c 3 nan ∷ []) ++ (t ++ (g ∷ [])))) k nan) ≡ record { pos = get_or p 0 nan ∷ get_or p 1 nan ∷ get_or p 2 nan ∷ get_or p 3 nan ∷ []; color = get_or c 0 nan ∷ get_or c 1 nan ∷ get_or c 2 nan ∷ get_or c 3 nan ∷ []; texcoord = t; fog_depth = g }) (eight_is t ht) refl))

-- ---- a store at corner i

module _ (s f : List Float) (i : ℕ) (h : i * 17 + 17 ≤ length s) where
  kept_float : (j k : ℕ) → j < i → k < 17 → get_or (paste s (i * 17) f 17) (j * 17 + k) nan ≡ get_or s (j * 17 + k) nan
  kept_float j k hj hk =
      let lt : j * 17 + k < i * 17 = omega arith in
      let lp = length-take-le (i * 17) s (omega arith) in
      rw append_assoc
      (get_or-append (take (i * 17) s) (take 17 f ++ drop (i * 17 + 17) s) nan (j * 17 + k) (omega arith) ∙ get_or-take (i * 17) s (j * 17 + k) nan lt)

  new_float : length f ≡ 17 → (k : ℕ) → k < 17 → get_or (paste s (i * 17) f 17) (i * 17 + k) nan ≡ get_or f k nan
  new_float e k hk =
      let lp = length-take-le (i * 17) s (omega arith) in
      let tf : take 17 f ≡ f = take_all 17 f (omega arith) in
      let n : length (take (i * 17) s) + k ≡ i * 17 + k = omega arith in
      rw (append_assoc, ← n)
      (get_or-append-add (take (i * 17) s) (take 17 f ++ drop (i * 17 + 17) s) k nan
      ∙ rw tf (get_or-append f (drop (i * 17 + 17) s) nan k (omega arith)))

module _ (s : List Float) (i : ℕ) (v : Vertex) (h : i * 17 + 17 ≤ length s) where
  put_before : (j : ℕ) → j < i → vertex_at (put_at s i v) j ≡ vertex_at s j
  unfolding vertex_at put_at
  put_before j hj = same_floats (λ k. get_or (paste s (i * 17) (floats_of v) 17) (j * 17 + k) nan) (λ k. get_or s (j * 17 + k) nan) (λ k hk. kept_float s (floats_of v) i h j k hj hk)

  put_same : Full v → vertex_at (put_at s i v) i ≡ v
  unfolding vertex_at put_at
  put_same full =
      let n : length (floats_of v) ≡ 17 = simp length-append (omega (arith, full.pos_long, full.color_long, full.texcoord_long)) in
      same_floats (λ k. get_or (paste s (i * 17) (floats_of v) 17) (i * 17 + k) nan) (λ k. get_or (floats_of v) k nan) (λ k hk. new_float s (floats_of v) i h n k hk)
      ∙ made v.pos v.color v.texcoord v.fog_depth full.pos_long full.color_long full.texcoord_long

-- ---- the first n corners

pub corners_none : (s : List Float) → corners_of 0 s ≡ []
unfolding corners_of tab
corners_none s = refl

-- v put at corner n follows the first n
pub corners_more : (n : ℕ) (s : List Float) (v : Vertex) → n * 17 + 17 ≤ length s → Full v → corners_of (n + 1) (put_at s n v) ≡ corners_of n s ++ (v ∷ [])
unfolding corners_of tab
corners_more n s v h full = rw (add-one n, put_same s n v h full, tab_same n (vertex_at (put_at s n v)) (vertex_at s) (λ i k. put_before s n v h i k))
