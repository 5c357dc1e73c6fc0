-- What an operation's answer leaves in a number that it may rewrite. Assumes nothing.
use mathlib.Core.Path.{◌≡◌, ◌∙◌}
use mathlib.Core.Bool.{cond}
use Prim.Native.Nat.{ℕ}
use lib.Dec.{eqb}
use Rattle.std.proofs.Common.{Result, Ok, Err, MatchResult}
use Rattle.std.specs.Result.{result_unwrap_or, IsOkAnd}
use Rattle.answers.specs.declared.Refusal.{Refusal}
use Rattle.answers.specs.Results.{answer_number}
use Rattle.answers.proofs.Answered.{refused_test, done_test}
use Rattle.compressed.specs.Compressed.{sized_bytes}
use Rattle.sampler.specs.declared.Texel.{Texel}
use Rattle.sampler.specs.Samples.{outcome_of}
use Rattle.tilefringe.specs.SampleCalls.{packed, told, ended}

-- a size that is told where the number n of the answer is 0
pub sized : (a : Result ℕ Refusal) (n size old : ℕ) → answer_number a ≡ n → sized_bytes a ≡ cond (eqb n 0) size 0 → result_unwrap_or a old ≡ cond (eqb n 0) size old
sized (Ok m) n size old e f = let t = done_test n e in f ∙ rw t
sized (Err why) n size old e f = rw (refused_test why n e)

-- a texel that is told as its number: m is the answer with the number in the texel's place
pub numbered : (a : Result Texel Refusal) (m : Result ℕ Refusal) (Made : Texel → ℕ → Type 0) (old : ℕ) → MatchResult a (λ x. IsOkAnd m (Made x)) (λ why. m ≡ Err why)
    → ((x : Texel) (n : ℕ) → Made x n → n ≡ packed x) → told (answer_number m) (result_unwrap_or m old) ≡ ended old (outcome_of a)
numbered (Ok x) (Ok n) Made old e is = rw (is x n e)
numbered (Ok x) (Err why) Made old e is = absurd e
numbered (Err why) m Made old e is = rw e
