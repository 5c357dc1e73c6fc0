-- The corners that a list of floats holds, as the comparison passes them: seventeen floats a corner.
use Rattle.std.specs.Prelude.{ℕ, ◌+◌, ◌*◌, ◌≡◌, List, [], ◌∷◌, length, get_or, Float}
use Rattle.std.proofs.Math.Seq.{paste}
use Rattle.std.specs.Float.{nan}
use Rattle.lists.specs.Lists.{tab}
use Rattle.vertices.specs.declared.Vertex.{Vertex}
use Rattle.vertices.specs.Floats.{floats_of}

-- the vertex of the floats f 0 to f 16
abbrev pub vertex_from : (ℕ → Float) → Vertex
vertex_from f =
    record {
      pos = f 0 ∷ f 1 ∷ f 2 ∷ f 3 ∷ [];
      color = f 4 ∷ f 5 ∷ f 6 ∷ f 7 ∷ [];
      texcoord = f 8 ∷ f 9 ∷ f 10 ∷ f 11 ∷ f 12 ∷ f 13 ∷ f 14 ∷ f 15 ∷ [];
      fog_depth = f 16;
    }

-- corner i, and the first n corners
unfoldable pub vertex_at : List Float → ℕ → Vertex
vertex_at s i = vertex_from (λ k. get_or s (i * 17 + k) nan)

unfoldable pub corners_of : ℕ → List Float → List Vertex
corners_of n s = tab n (vertex_at s)

-- s with a vertex's seventeen floats at corner i
unfoldable pub put_at : List Float → ℕ → Vertex → List Float
put_at s i v = paste s (i * 17) (floats_of v) 17

-- a vertex whose arrays have their lengths, as every vertex of the code has
pub record Full (v : Vertex) : Type 0 where
  pub pos_long : length v.pos ≡ 4
  pub color_long : length v.color ≡ 4
  pub texcoord_long : length v.texcoord ≡ 8
