use mathlib.Core.Path.{◌∙◌}
use Rattle.rounding.specs.Rounding.{floor_of}
use Rattle.coords.specs.Coords.{wrap_texel}
use Rattle.coords.proofs.Sides.{edge_is}
use Rattle.coords.proofs.Side.far_texel.Goals as goal

pub returns-in-ClampToEdge : goal.returns-in-ClampToEdge
unfolding wrap_texel
returns-in-ClampToEdge c = rw c.in-ClampToEdge.is (c.far_edge.ensures ∙ edge_is c.args.self.size c.args.self.some c.args.self.few (floor_of c.args.x))
