use Rattle.std.proofs.Common.{rules, ap, ◌∙◌, List, [], ◌∷◌, ◌++◌}
use Rattle.std.proofs.lemmas.List.{take_more_set}
use Rattle.vertices.specs.declared.Vertex.{Vertex}
use Rattle.polygon.proofs.Polygon.push.Goals as goal

pub returns : goal.returns
returns c =
    take_more_set c.self.inside.corners c.self.inside.len c.args.corner (search rules) ∙ ap (λ (l : List Vertex). l ++ (c.args.corner ∷ [])) c.self.view_is
