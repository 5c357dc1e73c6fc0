-- The triangles left by clipping: how many there are, and that a triangle wholly inside is left whole. Assumes nothing.
use Prim.Native.Nat.{ℕ, ◌-◌, ◌≤◌}
use mathlib.Core.Path.{◌≡◌, refl}
use mathlib.Core.Bool.{Bool, true, false, cond}
use mathlib.Core.List.{List, [], ◌∷◌}
use lib.ListN.{length}
use native.Mathlib.Omega.{arith}
use Rattle.std.proofs.lemmas.Bool.{and_parts, false≢true}
use Rattle.lists.proofs.Choice.{was_true}
use Rattle.vertices.specs.declared.Vertex.{Vertex}
use Rattle.std.specs.List.{list_all}
use Rattle.vertices.specs.declared.Plane.{Plane}
use Rattle.vertices.specs.Vertex.{planes, inside, inside_frustum}
use Rattle.clip.specs.Clip.{insides, clip_plane, clip_each, clipped, all_inside}
use Rattle.clip.specs.Fan.{Triangle, triangle_of, fan_at, fan_of, left_of}
use Rattle.clip.proofs.Laws.{clipped_few}

-- ---- how many

fan_few : (v : Vertex) (l : List Vertex) → length (fan_at v l) ≤ length l - 1
unfolding fan_at
fan_few v [] = omega arith
fan_few v (b ∷ []) = omega arith
fan_few v (b ∷ c ∷ l) = omega (arith, fan_few v (c ∷ l))

fan_of_few : (l : List Vertex) → length (fan_of l) ≤ length l - 2
unfolding fan_of
fan_of_few [] = omega arith
fan_of_few (v ∷ l) = omega (arith, fan_few v l)

either_few : (t : Bool) (x y : List Triangle) (m : ℕ) → length x ≤ m → length y ≤ m → length (cond t x y) ≤ m
either_few true x y m f g = f
either_few false x y m f g = g

-- clipping leaves at most forty triangles of one
pub left_few : (a b c : Vertex) → length (left_of a b c) ≤ 40
unfolding left_of
left_few a b c =
    either_few (all_inside a b c) _ _ 40 (omega arith)
    (omega (arith, fan_of_few (clipped (a ∷ b ∷ c ∷ [])), clipped_few (a ∷ b ∷ c ∷ []) (omega arith)))

-- ---- a triangle wholly inside

module _ (a b c : Vertex) where
  stays_in : (p : Plane) → inside p a ≡ true → inside p b ≡ true → inside p c ≡ true → clip_plane p (a ∷ b ∷ c ∷ []) ≡ a ∷ b ∷ c ∷ []
  unfolding clip_plane insides
  stays_in p ea eb ec = rw (ea, eb, ec)

  kept_in : (ps : List Plane) → list_all (λ p. inside p a) ps ≡ true → list_all (λ p. inside p b) ps ≡ true → list_all (λ p. inside p c) ps ≡ true → clip_each ps (a ∷ b ∷ c ∷ []) ≡ a ∷ b ∷ c ∷ []
  unfolding clip_each
  kept_in [] ea eb ec = refl
  kept_in (p ∷ ps) ea eb ec =
      let ha = and_parts (inside p a) _ ea in
      let hb = and_parts (inside p b) _ eb in
      let hc = and_parts (inside p c) _ ec in
      rw (stays_in p ha.0 hb.0 hc.0) (kept_in ps ha.1 hb.1 hc.1)

  pub clipped_inside : all_inside a b c ≡ true → clipped (a ∷ b ∷ c ∷ []) ≡ a ∷ b ∷ c ∷ []
  unfolding all_inside clipped inside_frustum
  clipped_inside e =
      let ha = was_true (inside_frustum a) e false≢true in
      let hb = was_true (inside_frustum b) ha.1 false≢true in
      kept_in planes ha.0 hb.0 hb.1

  either_same : (t : Bool) {x y : List Triangle} → (t ≡ true → x ≡ y) → cond t x y ≡ y
  either_same true h = h refl
  either_same false h = refl

  -- so what is left is always the fan of the clipped polygon
  pub left_is_fan : left_of a b c ≡ fan_of (clipped (a ∷ b ∷ c ∷ []))
  unfolding left_of fan_of fan_at
  left_is_fan = either_same (all_inside a b c) (λ e. rw (clipped_inside e))

  pub left_inside : all_inside a b c ≡ true → left_of a b c ≡ triangle_of a b c ∷ []
  unfolding left_of
  left_inside e = rw e

  pub left_clipped : all_inside a b c ≡ false → left_of a b c ≡ fan_of (clipped (a ∷ b ∷ c ∷ []))
  unfolding left_of
  left_clipped e = rw e
