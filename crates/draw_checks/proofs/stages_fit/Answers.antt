use Rattle.std.proofs.lemmas.Iterator.{YieldsList-from_slice}
use Rattle.std.proofs.lemmas.Iterator.Search.{all_from_yields_List}
use Rattle.std.proofs.Common.{◌≡◌, arith, rules, ◌∙◌, length, take}
use Rattle.std.specs.List.{list_all}
use borrow.Author.Tests.{le-leb, lt-leb}
use Rattle.lists.proofs.Choice.{yes, no}
use Rattle.draw_checks.specs.Checks.{stage_fits, stages_fit}
use Rattle.draw_checks.proofs.Below.{below_take}
use Rattle.draw_checks.proofs.stages_fit.Goals as goal

pub slice_bounds-stages-end : goal.slice_bounds-stages-end
slice_bounds-stages-end c =
    let n : length c.args.stages ≡ 4 = search rules in
    omega arith

pub returns-then-count-le-MAX_TEXTURE_STAGES : goal.returns-then-count-le-MAX_TEXTURE_STAGES
unfolding stages_fit
returns-then-count-le-MAX_TEXTURE_STAGES c =
    let each : c.all.result ≡ list_all stage_fits (take c.args.count c.args.stages) = all_from_yields_List stage_fits _ _ _ c.all.ensures.ran (YieldsList-from_slice (take c.args.count c.args.stages) cc) (λ x b q k. search rules) in
    yes _ (le-leb c.args.count 4 c.if-count-le-MAX_TEXTURE_STAGES.true) (each ∙ below_take stage_fits c.args.stages _ c.args.count (search rules))

pub returns-else-count-le-MAX_TEXTURE_STAGES : goal.returns-else-count-le-MAX_TEXTURE_STAGES
unfolding stages_fit
returns-else-count-le-MAX_TEXTURE_STAGES c = no _ (lt-leb c.args.count 4 c.if-count-le-MAX_TEXTURE_STAGES.false) (lt-leb c.args.count 4 c.if-count-le-MAX_TEXTURE_STAGES.false)
