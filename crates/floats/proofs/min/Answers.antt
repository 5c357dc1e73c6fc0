use Rattle.std.proofs.Common.{refl, sym, ◌∙◌}
use Rattle.floats.proofs.Signs.{nan_is}
use Rattle.floats.specs.Num.{min_of}
use Rattle.lists.proofs.Choice.{yes, no}
use Rattle.floats.proofs.min.Goals as goal

pub returns-then-is_nan : goal.returns-then-is_nan
unfolding min_of
returns-then-is_nan c = yes _ (nan_is c.args.a ∙ sym c.is_nan.ensures.value ∙ c.if-is_nan.true) refl

pub returns-then-b-a : goal.returns-then-b-a
unfolding min_of
returns-then-b-a c = no _ (nan_is c.args.a ∙ sym c.is_nan.ensures.value ∙ c.if-is_nan.false) (yes _ c.if-b-a.true refl)

pub returns-else-b-a : goal.returns-else-b-a
unfolding min_of
returns-else-b-a c = no _ (nan_is c.args.a ∙ sym c.is_nan.ensures.value ∙ c.if-is_nan.false) (no _ c.if-b-a.false refl)
