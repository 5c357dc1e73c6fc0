-- The byte layout of a draw's three vertices (docs/INTERFACE.md, "Draw"): 68 bytes a vertex.
use Rattle.std.specs.Prelude.{ℕ, ◌+◌, cond, List, [], ◌∷◌, eqb, length, Option, Some, None}
use Rattle.vertices.specs.declared.Vertex.{Vertex}
use Rattle.draw_layouts.specs.Numbers.{float_at, four_at, eight_at}

-- the vertex at byte i
unfoldable pub read_vertex : List ℕ → ℕ → Vertex
read_vertex b i = record { pos = four_at b i; color = four_at b (i + 16); texcoord = eight_at b (i + 32); fog_depth = float_at b (i + 64) }

-- a layout of another length holds no vertices
unfoldable pub read_vertices : List ℕ → Option (List Vertex)
read_vertices b =
    cond (eqb (length b) 204) (Some (read_vertex b 0 ∷ read_vertex b 68 ∷ read_vertex b 136 ∷ [])) None
