use mathlib.Core.Path.{◌∙◌}
use Rattle.draw_layouts.specs.Numbers.{float_at}
use Rattle.draw_layouts.specs.Vertices.{read_vertex}
use Rattle.draw_layouts.proofs.Read.{four_is, eight_is}
use Rattle.draw_layouts.proofs.vertex_at.Goals as goal

pub returns : goal.returns
unfolding read_vertex float_at
returns c = λ t. record {
  pos = (c.floats_at.ensures ∙ four_is c.args.b.now c.args.at) t;
  color = (c.floats_at-2.ensures ∙ four_is c.args.b.now _) t;
  texcoord = (c.floats_at-3.ensures ∙ eight_is c.args.b.now _) t;
  fog_depth = c.read_at.ensures t;
}
