-- Clipping a polygon, given as the list of its corners. raster.rs, clip_frustum; OpenGL ES 1.1, Clipping.
use Rattle.std.specs.Prelude.{ℕ, Bool, false, cond, not, List, [], ◌∷◌, ◌++◌, length, eqb, ltb}
use Rattle.std.specs.List.{count_by}
use Rattle.std.specs.Bool.{beq}
use Rattle.floats.specs.Num.{◌⊖◌, ◌⊘◌}
use Rattle.vertices.specs.declared.Vertex.{Vertex}
use Rattle.vertices.specs.declared.Plane.{Plane}
use Rattle.vertices.specs.Vertex.{planes, distance, inside, inside_frustum, lerp}

-- ---- one plane

-- just one of two is true
abbrev pub differ : Bool → Bool → Bool
differ a b = not (beq a b)

-- where the edge from a to b crosses the plane: da / (da - db) of the way
unfoldable pub cross : Plane → Vertex → Vertex → Vertex
cross p a b = lerp (distance p a ⊘ (distance p a ⊖ distance p b)) a b

-- what the edge from a to b gives: a if it is inside, then the crossing if just one of the two is
unfoldable pub kept : Plane → Vertex → List Vertex
kept p a = cond (inside p a) (a ∷ []) []

unfoldable pub crossing : Plane → Vertex → Vertex → List Vertex
crossing p a b = cond (differ (inside p a) (inside p b)) (cross p a b ∷ []) []

-- the corner after the last is the first
unfoldable pub head_or : Vertex → List Vertex → Vertex
head_or first [] = first
head_or first (b ∷ l) = b

-- the edges in turn
unfoldable pub walk : Plane → Vertex → List Vertex → List Vertex
walk p first [] = []
walk p first (a ∷ l) = kept p a ++ (crossing p a (head_or first l) ++ walk p first l)

unfoldable pub walked : Plane → List Vertex → List Vertex
walked p [] = []
walked p (a ∷ l) = walk p a (a ∷ l)

-- how many corners are inside
unfoldable pub insides : Plane → List Vertex → ℕ
insides p l = count_by (λ v. inside p v) l

-- all inside: as it is; none: nothing; else the walk along its edges
unfoldable pub clip_plane : Plane → List Vertex → List Vertex
clip_plane p l = cond (eqb (insides p l) (length l)) l (cond (eqb (insides p l) 0) [] (walked p l))

-- ---- the planes in turn

-- under three corners are none. The Rust leaves that test out where all are inside: from three corners on it is the same.
unfoldable pub clip_each : List Plane → List Vertex → List Vertex
clip_each [] l = l
clip_each (p ∷ ps) l = cond (ltb (length (clip_plane p l)) 3) [] (clip_each ps (clip_plane p l))

unfoldable pub clipped : List Vertex → List Vertex
clipped l = clip_each planes l

-- raster.rs, draw_triangle: tri.iter().all(inside_frustum)
unfoldable pub all_inside : Vertex → Vertex → Vertex → Bool
all_inside a b c = cond (inside_frustum a) (cond (inside_frustum b) (inside_frustum c) false) false
