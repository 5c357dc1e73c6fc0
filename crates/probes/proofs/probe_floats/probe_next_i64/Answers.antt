use Rattle.std.proofs.Common.{◌∙◌}
use Rattle.probes.proofs.Next.{next_pair}
use Rattle.probes.proofs.probe_floats.probe_next_i64.Goals as goal

pub returns : goal.returns
returns c = c.next-s.ensures ∙ next_pair 63 c.args.below c.args.m
