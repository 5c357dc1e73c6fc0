use mathlib.Core.Path.{ap, ◌∙◌}
use Rattle.answers.specs.Results.{answer_number}
use Rattle.tilefringe.proofs.target.tf_compare_func.Goals as goal

pub returns : goal.returns
returns c = c.number.ensures ∙ ap answer_number c.try_from.ensures
