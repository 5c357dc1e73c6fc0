use mathlib.Core.Path.{ap, ◌∙◌}
use Rattle.draw_bytes.specs.Write.{bytes_of}
use Rattle.draw_bytes.proofs.write_vertex.Goals as goal

pub returns : goal.returns
returns c = c.put_words.ensures ∙ ap bytes_of c.vertex_words.ensures
