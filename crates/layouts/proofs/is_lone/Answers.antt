use Rattle.std.proofs.Common.{◌≡◌, Bool, true, false, List, ℕ, ◌+◌, ◌-◌, ◌*◌, ◌<◌, MatchBool, get_or, rules, tests, subst, arith, ◌∙◌}
use Rattle.std.specs.List.{AllWithin, range_with_len}
use Rattle.std.proofs.lemmas.Bool.{false≢true}
use Rattle.std.proofs.lemmas.Iterator.{YieldsList-from_range, cases_from_all}
use Rattle.std.proofs.lemmas.List.FromFn.{get_or-range_with_len}
use Rattle.layouts.specs.Words.{word}
use Rattle.layouts.proofs.is_lone.Goals as goal

-- each of the ten from the walk over their numbers
each : (b : List ℕ) (r : Bool) (No : Type 0) → MatchBool r (AllWithin (λ i. word b (i * 20) ≡ 0) (range_with_len 1 10) 0 10) No
    → r ≡ true → (k : ℕ) → 0 < k → k < 11 → word b (k * 20) ≡ 0
each b true No m e k h n =
    let p : 1 + (k - 1) ≡ k = omega arith in
    let g : get_or (range_with_len 1 10) (k - 1) 0 ≡ k = get_or-range_with_len 1 10 (k - 1) 0 (omega arith) ∙ p in
    subst (λ i. word b (i * 20) ≡ 0) g (m (k - 1) 0 (omega arith) (omega arith))
each b false No m e k h n = absurd (false≢true e)

pub returns : goal.returns
returns c =
    each c.args.b.now c.all.result _
    (cases_from_all _ _ c.all.result (λ i. word c.args.b.now (i * 20) ≡ 0) (λ i. Unit {0}) c.all.ensures.ran (YieldsList-from_range 1 11 10 (cc) (omega arith)) (λ x q k. search (rules, tests)) (λ x q k. tt))
