use Rattle.vertices.specs.Vertex.{inside}
use Rattle.vertices.proofs.Vertex.is_inside.Goals as goal

pub returns : goal.returns
unfolding inside
returns c = rw c.clip_distance.ensures
