-- A vertex's numbers in a row: document 01, Forms, "A vertex is one record of seventeen floats".
use Rattle.std.specs.Prelude.{List, [], ◌∷◌, ◌++◌, Float}
use Rattle.vertices.specs.declared.Vertex.{Vertex}

abbrev pub floats_of : Vertex → List Float
floats_of v = v.pos ++ (v.color ++ (v.texcoord ++ (v.fog_depth ∷ [])))
