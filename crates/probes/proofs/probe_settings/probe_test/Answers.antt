use Rattle.probes.proofs.Defaults.{compare_is}
use Rattle.probes.proofs.probe_settings.probe_test.Goals as goal

pub returns : goal.returns
returns c = rw (c.test.ensures, compare_is c.args.code _ c.try_from.ensures c.unwrap_or.ensures)
