use Rattle.std.proofs.Common.{◌≡◌, rules, ap, ◌∙◌, length, take}
use Rattle.std.proofs.lemmas.List.{take_min}
use Rattle.draw_layouts.specs.Stages.{used}
use Rattle.draw_layouts.proofs.Stages.used.Goals as goal

pub returns : goal.returns
unfolding used
returns c =
    let x = c.args.self.now in
    let four : length x.first ≡ 4 = search rules in
    ap (λ n. take n x.first) (rw four c.min.ensures) ∙ take_min x.count x.first
