use Rattle.std.proofs.Common.{rules, tests, sym, ap, ◌∙◌, ◌≡◌, true, List, ℕ, ◌+◌, ◌-◌, length, take, drop, get_or, arith}
use Rattle.std.proofs.lemmas.Iterator.{YieldsList-from_slice}
use Rattle.std.proofs.lemmas.Iterator.Adapters.{serves_from_places}
use Rattle.std.proofs.lemmas.Iterator.Search.{any_from_yields_List}
use Rattle.std.proofs.lemmas.List.{take_rest, get_or-drop, get_or_default}
use Rattle.levels.specs.declared.MipLevel.{MipLevel}
use Rattle.levels.specs.Levels.{absent, fits, overlaps}
use Rattle.levels.proofs.Valid.{fits_at}
use Rattle.levels.proofs.Stored.any_overlap.Goals as goal

-- the levels from a place on
rest_is : (l : List MipLevel) (i : ℕ) → length l ≡ 11 → take (11 - i) (drop i l) ≡ drop i l
rest_is l i h = ap (λ n. take (n - i) (drop i l)) (sym h) ∙ take_rest l i

pub any-requires-clause-callable : goal.any-requires-clause-callable
any-requires-clause-callable c =
    let s = c.args.self.now in
    let rest = drop c.args.from s.levels in
    serves_from_places (YieldsList-from_slice rest (c.iter.ensures.rest ∙ rest_is s.levels c.args.from (omega arith))) (λ x q e. search (rules, tests))
    (λ x k h e _ _ _ _ _ _ _.
    let f : fits s.len (get_or rest k absent) ≡ true = rw (get_or-drop c.args.from s.levels k absent) (fits_at s.len s.levels s.fit (c.args.from + k)) in
    (c.requires.1, ap (fits s.len) (e ∙ get_or_default rest k x.now absent h) ∙ f))

pub returns : goal.returns
returns c =
    let rest = drop c.args.from c.args.self.now.levels in
    any_from_yields_List (overlaps c.args.m) _ _ c.any.result c.any.ensures.ran (YieldsList-from_slice rest (c.iter.ensures.rest ∙ rest_is c.args.self.now.levels c.args.from (omega arith))) (λ x b q e. search (rules, tests))
