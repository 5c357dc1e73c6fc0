use mathlib.Core.Path.{ap, ◌∙◌}
use Rattle.settings.specs.Channels.{color_of}
use Rattle.draw_layouts.specs.Numbers.{four_at, color_at}
use Rattle.draw_layouts.proofs.Read.{four_is}
use Rattle.draw_layouts.proofs.color_at.Goals as goal

pub returns : goal.returns
unfolding color_at four_at
returns c = c.from.ensures ∙ ap color_of (c.floats_at.ensures ∙ four_is c.args.b.now c.args.at)
