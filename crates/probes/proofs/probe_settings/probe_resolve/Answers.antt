use mathlib.Core.Path.{ap, ◌∙◌}
use Rattle.settings.specs.Channels.{channels_of}
use Rattle.probes.proofs.Defaults.{factor_is}
use Rattle.probes.proofs.probe_settings.probe_resolve.Goals as goal

pub returns : goal.returns
returns c = c.from-3.ensures ∙ ap channels_of (rw (c.resolve.ensures, factor_is c.args.code _ c.try_from.ensures c.unwrap_or-factor.ensures, c.from.ensures, c.from-2.ensures))
