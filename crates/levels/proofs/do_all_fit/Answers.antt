use Rattle.std.proofs.Common.{rules, tests}
use Rattle.std.proofs.lemmas.Iterator.{YieldsList-from_slice}
use Rattle.std.proofs.lemmas.Iterator.Search.{all_from_yields_List}
use Rattle.levels.specs.Levels.{fits}
use Rattle.levels.proofs.do_all_fit.Goals as goal

pub returns : goal.returns
returns c = all_from_yields_List (fits c.args.len) _ _ c.all.result c.all.ensures.ran (YieldsList-from_slice c.args.levels.now cc) (λ x b q k. search (rules, tests))
