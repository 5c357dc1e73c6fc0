use Rattle.std.proofs.Common.{◌≡◌, List, ℕ, ◌+◌, ◌-◌, length, get_or, take, drop, sym, ap, ◌∙◌, arith}
use Rattle.std.proofs.lemmas.List.{take_rest, get_or-drop}
use Rattle.levels.specs.declared.MipLevel.{MipLevel}
use Rattle.levels.specs.Levels.{absent, follows}
use Rattle.levels.proofs.Chain.{climb_on, climb_stop, climb_end, top_start, top_none}
use Rattle.levels.proofs.calculate_max_complete_mipmap_level.Goals as goal

-- the level whose turn it is, behind the first
next_is : (l : List MipLevel) (i : ℕ) → length l ≡ 11 → get_or (take 10 (drop 1 l)) i absent ≡ get_or l (i + 1) absent
next_is l i h =
    let n : 10 ≡ length l - 1 = omega arith in
    let k : 1 + i ≡ i + 1 = omega arith in
    ap (λ m. get_or (take m (drop 1 l)) i absent) n ∙ ap (λ xs. get_or xs i absent) (take_rest l 1) ∙ get_or-drop 1 l i absent ∙ ap (λ m. get_or l m absent) k

pub returns-then-not-is_complete : goal.returns-then-not-is_complete
returns-then-not-is_complete c = sym (top_none c.args.levels absent (sym c.is_complete.ensures ∙ c.if-not-is_complete.true))

pub loop-level-init : goal.loop-level-init
loop-level-init c = top_start c.args.levels absent (omega arith) (sym c.is_complete.ensures ∙ c.if-not-is_complete.false)

pub returns-then-not-does_follow : goal.returns-then-not-does_follow
returns-then-not-does_follow c =
    let e = next_is c.args.levels c.loop-level.level (omega arith) in
    sym (climb_stop c.args.levels absent c.loop-level.level c.loop-level.width c.loop-level.height (omega arith) (ap (follows c.loop-level.width c.loop-level.height) (sym e) ∙ sym c.does_follow.ensures ∙ c.if-not-does_follow.true))
    ∙ c.loop-level.invariant

pub loop-level-preserved : goal.loop-level-preserved
loop-level-preserved c =
    let e = next_is c.args.levels c.loop-level.level (omega arith) in
    rw e
    (climb_on c.args.levels absent c.loop-level.level c.loop-level.width c.loop-level.height (omega arith) (ap (follows c.loop-level.width c.loop-level.height) (sym e) ∙ sym c.does_follow.ensures ∙ c.if-not-does_follow.false)
    ∙ c.loop-level.invariant)

pub returns : goal.returns
returns c =
    let e : c.loop-level.level ≡ 10 = omega arith in
    sym (rw (sym e) (climb_end c.args.levels absent c.loop-level.level c.loop-level.width c.loop-level.height (omega arith))) ∙ c.loop-level.invariant
