use Rattle.std.proofs.lemmas.Iterator.{YieldsList-from_slice}
use Rattle.std.proofs.lemmas.Iterator.Search.{all_from_yields_List}
use Rattle.std.proofs.Common.{◌≡◌, rules, ◌∙◌}
use Rattle.std.specs.List.{list_all}
use Rattle.levels.specs.Levels.{valid_of}
use Rattle.draw_checks.specs.Checks.{records_fit}
use Rattle.draw_checks.proofs.Below.{below_all}
use Rattle.draw_checks.proofs.records_fit.Goals as goal

pub returns : goal.returns
unfolding records_fit
returns c =
    let each : c.all.result ≡ list_all (valid_of c.args.len) c.args.textures.now = all_from_yields_List (valid_of c.args.len) _ _ _ c.all.ensures.ran (YieldsList-from_slice c.args.textures.now cc) (λ x b q k. search rules) in
    each ∙ below_all (valid_of c.args.len) c.args.textures.now _
