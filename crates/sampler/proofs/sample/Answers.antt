use mathlib.Core.Path.{◌∙◌, sym}
use Rattle.sampler.proofs.Chosen.{valid_call, invalid_call}
use Rattle.sampler.proofs.sample.Goals as goal

pub returns-then-not-is_valid : goal.returns-then-not-is_valid
returns-then-not-is_valid c = invalid_call _ _ _ (sym c.is_valid.ensures ∙ c.if-not-is_valid.true)

pub sample_with_gradients-requires : goal.sample_with_gradients-requires
sample_with_gradients-requires c = sym c.is_valid.ensures ∙ c.if-not-is_valid.false

pub returns : goal.returns
returns c = rw c.sample_with_gradients.ensures (valid_call _ _ _ (sym c.is_valid.ensures ∙ c.if-not-is_valid.false))
