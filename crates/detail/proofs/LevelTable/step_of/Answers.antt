use Rattle.std.proofs.Common.{◌≡◌, T, true, false, sym, subst, rules, ◌+◌, slice_index_or}
use Rattle.std.proofs.lemmas.Iterator.{first_from_Range}
use lib.Ieee.{fits, binary64, lt, nan}
use Rattle.detail.proofs.Fractions.{first_above}
use Rattle.detail.proofs.LevelTable.step_of.Goals as goal

pub returns : goal.returns
returns c =
    let f : fits binary64 c.args.s.m ≡ true = search rules in
    let t = c.args.self.now.thresholds in
    let m = c.args.s.m in
    first_above t c.args.self.now.are_thresholds m (subst T (sym f) tt) c.args.s.positive c.args.s.below_two c.start.result c.start.ensures.0 c.start.ensures.1 c.find.result
    (first_from_Range _ _ _ c.find.result (λ i. lt m (slice_index_or t (i + 1) nan) ≡ true) (λ i. lt m (slice_index_or t (i + 1) nan) ≡ false) c.find.ensures.ran (λ x q k. search rules) (λ x q k. search rules))
    _ c.unwrap_or.ensures
