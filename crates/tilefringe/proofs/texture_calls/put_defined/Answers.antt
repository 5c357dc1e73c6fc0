use Rattle.std.proofs.Common.{refl}
use Rattle.answers.proofs.Answered.{refused_test}
use Rattle.lists.proofs.Choice.{no}
use Rattle.tilefringe.specs.TextureCalls.{written}
use Rattle.tilefringe.proofs.texture_calls.put_defined.Goals as goal

pub returns-in_err-answer-clause-layout : goal.returns-in_err-answer-clause-layout
unfolding written
returns-in_err-answer-clause-layout c = λ t. rw c.in_err-answer.was (no _ (refused_test c.in_err-answer.field-0.0 _ refl) refl)

pub returns : goal.returns
unfolding written
returns c = record {
  number = rw c.in_ok-answer.was refl;
  layout = λ t. rw c.in_ok-answer.was c.put_define.ensures;
}
