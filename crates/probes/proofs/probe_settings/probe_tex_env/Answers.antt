use mathlib.Core.Path.{ap, ◌∙◌}
use Rattle.fragment.specs.Fragment.{tex_env_of}
use Rattle.settings.specs.Channels.{channels_of}
use Rattle.probes.proofs.probe_settings.probe_tex_env.Goals as goal

pub returns : goal.returns
unfolding tex_env_of
returns c = c.from-5.ensures ∙ ap channels_of (rw (c.apply_tex_env-combined.ensures, c.from.ensures, c.from-2.ensures, c.from-3.ensures, c.from-4.ensures))
