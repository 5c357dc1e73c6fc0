use Rattle.std.proofs.Common.{refl, sym, ◌∙◌}
use Rattle.floats.proofs.Signs.{nan_is}
use Rattle.floats.specs.Num.{max_of}
use Rattle.lists.proofs.Choice.{yes, no}
use Rattle.floats.proofs.max.Goals as goal

pub returns-then-is_nan : goal.returns-then-is_nan
unfolding max_of
returns-then-is_nan c = yes _ (nan_is c.args.a ∙ sym c.is_nan.ensures.value ∙ c.if-is_nan.true) refl

pub returns-then-a-b : goal.returns-then-a-b
unfolding max_of
returns-then-a-b c = no _ (nan_is c.args.a ∙ sym c.is_nan.ensures.value ∙ c.if-is_nan.false) (yes _ c.if-a-b.true refl)

pub returns-else-a-b : goal.returns-else-a-b
unfolding max_of
returns-else-a-b c = no _ (nan_is c.args.a ∙ sym c.is_nan.ensures.value ∙ c.if-is_nan.false) (no _ c.if-a-b.false refl)
