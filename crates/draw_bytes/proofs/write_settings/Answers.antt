use mathlib.Core.Path.{ap, ◌∙◌}
use Rattle.draw_bytes.specs.Write.{bytes_of}
use Rattle.draw_bytes.proofs.write_settings.Goals as goal

pub returns : goal.returns
returns c = c.put_words.ensures ∙ ap bytes_of c.settings_words.ensures
