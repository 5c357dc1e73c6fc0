use mathlib.Core.Path.{ap, ◌∙◌}
use Rattle.settings.specs.Channels.{channels_of}
use Rattle.probes.proofs.Defaults.{factor_is}
use Rattle.probes.proofs.probe_settings.probe_blend.Goals as goal

pub returns : goal.returns
returns c = c.from-3.ensures ∙ ap channels_of (rw (c.blend-blended.ensures, factor_is c.args.src_code _ c.try_from.ensures c.unwrap_or-src_factor.ensures, factor_is c.args.dst_code _ c.try_from-2.ensures c.unwrap_or-dst_factor.ensures, c.from.ensures, c.from-2.ensures))
