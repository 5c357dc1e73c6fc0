use Rattle.std.proofs.Common.{rules, tests, refl, ap, ◌∙◌, ◌≡◌, true, arith, ◌+◌, drop, length, ◌<◌, not}
use Rattle.std.proofs.lemmas.Iterator.{YieldsList-from_slice}
use Rattle.std.proofs.lemmas.Iterator.Consumers.{YieldsList-from_enumerate}
use Rattle.std.proofs.lemmas.Iterator.Adapters.{serves_from_places}
use Rattle.std.proofs.lemmas.Iterator.Search.{any_from_yields_List}
use Rattle.std.proofs.lemmas.List.FromFn.{get_or-enumerate_from, length-enumerate_from}
use Rattle.std.proofs.lemmas.List.{get_or_default}
use Rattle.lists.specs.Lists.{any}
use Rattle.levels.specs.Levels.{absent, fits, overlaps}
use Rattle.levels.proofs.Valid.{fits_at}
use Rattle.levels.proofs.Apart.{pairs_apart}
use Rattle.levels.proofs.Stored.are_pairs_apart.Goals as goal

pub any-requires-clause-callable : goal.any-requires-clause-callable
any-requires-clause-callable c =
    let s = c.args.self.now in
    serves_from_places (YieldsList-from_enumerate (YieldsList-from_slice s.levels cc) cc) (λ x q e. search (rules, tests))
    (λ x k h e.
    let n : k < length s.levels = rw (length-enumerate_from 0 s.levels) at h in
    let p = e ∙ get_or-enumerate_from 0 s.levels k (x.0, x.1.now) n in
    let i : x.0 ≡ 0 + k = ap (λ q. q.0) p in
    let f : fits s.len x.1.now ≡ true = ap (λ q. fits s.len q.1) p ∙ ap (fits s.len) (get_or_default s.levels k x.1.now absent n) ∙ fits_at s.len s.levels s.fit k in
    ((λ _ _ _ _ _. search rules), (λ _ _ _ _ _ _ _. (omega arith, f))))

pub returns : goal.returns
returns c =
    let l = c.args.self.now.levels in
    ap not (any_from_yields_List (λ p. any (overlaps p.1) (drop (p.0 + 1) l)) _ _ c.any.result c.any.ensures.ran (YieldsList-from_enumerate (YieldsList-from_slice l cc) cc) (λ x b q e. search (rules, tests)))
    ∙ pairs_apart l l 0 refl
