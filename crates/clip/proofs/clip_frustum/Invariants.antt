use Rattle.std.proofs.Common.{◌≡◌, ◌≤◌, length, drop}
use Rattle.vertices.specs.Vertex.{planes}
use Rattle.clip.specs.Clip.{clip_each, clipped}
use Rattle.clip.proofs.Laws.{caps}
use Rattle.clip.proofs.clip_frustum.Given as goal

abbrev pub invariant-loop-plane : goal.invariant-loop-plane
invariant-loop-plane l = record {
  few : length l.polygon ≤ caps l.plane-index;
  rest : clip_each (drop l.plane-index planes) l.polygon ≡ clipped l.fn.polygon;
}
