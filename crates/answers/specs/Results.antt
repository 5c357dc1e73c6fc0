-- The numbers of document 01, "Operations and their refusals", of an operation's Result: 0 is done.
use Rattle.std.specs.Prelude.{ℕ, Result, Ok, Err}
use Rattle.answers.specs.declared.Refusal.{Refusal}
use Rattle.answers.specs.Numbers.{refusal_number}

abbrev pub answer_number : {T : Type 0} → Result T Refusal → ℕ
answer_number (Ok done) = 0
answer_number (Err why) = refusal_number why
