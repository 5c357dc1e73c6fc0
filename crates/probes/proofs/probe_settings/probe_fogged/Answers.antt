use mathlib.Core.Path.{ap, ◌∙◌}
use Rattle.fragment.specs.Fragment.{fogged_of, fog_factor_of}
use Rattle.settings.specs.Channels.{channels_of}
use Rattle.probes.proofs.probe_settings.probe_fogged.Goals as goal

pub returns : goal.returns
unfolding fogged_of fog_factor_of
returns c = c.from-3.ensures ∙ ap channels_of (rw (c.fogged.ensures, c.from.ensures, c.from-2.ensures))
