use Rattle.std.proofs.Common.{rules, refl}
use Rattle.lists.specs.Lists.{tab}
use Rattle.lists.proofs.Choice.{yes, no}
use Rattle.lists.proofs.Made.{tab_from_fn}
use Rattle.gradients.specs.Gradients.{sum_of}
use Rattle.coverage.specs.Coverage.{color_of, corners_at}
use Rattle.coverage.proofs.color_at.Goals as goal

pub returns-then-smooth : goal.returns-then-smooth
unfolding tab color_of
returns-then-smooth c =
    let t = c.args in
    yes _ c.if-smooth.true
    (rw (c.from.ensures, tab_from_fn _ _ (λ i. sum_of t.p (corners_at i t.of.a t.of.b t.of.c)) (λ i q y k. search rules) 4 _ c.from_fn-between.ensures.items) refl)

pub returns : goal.returns
unfolding color_of
returns c = no _ c.if-smooth.false c.from-2.ensures
