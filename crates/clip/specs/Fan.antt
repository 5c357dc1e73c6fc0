-- The triangles that clipping leaves of one triangle. raster.rs, draw_triangle.
use Rattle.std.specs.Prelude.{cond, List, [], ◌∷◌}
use Rattle.vertices.specs.declared.Vertex.{Vertex}
use Rattle.clip.specs.Clip.{clipped, all_inside}

pub record Triangle : Type 0 where
  pub a : Vertex
  pub b : Vertex
  pub c : Vertex

abbrev pub triangle_of : Vertex → Vertex → Vertex → Triangle
triangle_of a b c = record { a = a; b = b; c = c }

-- v with each two corners in turn
unfoldable pub fan_at : Vertex → List Vertex → List Triangle
fan_at v [] = []
fan_at v (b ∷ []) = []
fan_at v (b ∷ c ∷ l) = triangle_of v b c ∷ fan_at v (c ∷ l)

-- corner 0 with corners i and i + 1, for i from 1 on
unfoldable pub fan_of : List Vertex → List Triangle
fan_of [] = []
fan_of (v ∷ l) = fan_at v l

-- wholly inside the frustum: itself; else the fan of the clipped polygon
unfoldable pub left_of : Vertex → Vertex → Vertex → List Triangle
left_of a b c = cond (all_inside a b c) (triangle_of a b c ∷ []) (fan_of (clipped (a ∷ b ∷ c ∷ [])))

-- a step for each triangle, from the state s
unfoldable pub draw_each : {S : Type 0} → (Triangle → S → S) → List Triangle → S → S
draw_each f [] s = s
draw_each f (t ∷ l) s = draw_each f l (f t s)
