use native.Mathlib.Numerals.{add-one}
use lib.ListN.{set}
use lib.Seq.{drop-cons, append_snoc}
use Rattle.std.proofs.Common.{◌≡◌, List, ℕ, suc, ◌+◌, ◌<◌, ◌++◌, length, get_or, drop, refl, sym, ap, ◌∙◌, arith}
use Rattle.lists.specs.Lists.{tab}
use Rattle.lists.proofs.Choice.{yes, no}
use Rattle.lists.proofs.Tables.{tab_none, tab_more, tab_all}
use Rattle.levels.specs.declared.MipLevel.{MipLevel}
use Rattle.levels.specs.Levels.{absent}
use Rattle.texture.specs.Define.{stay_at, stay}
use Rattle.texture.proofs.staying.Goals as goal
use Rattle.texture.proofs.staying.Goals.{then-not-does_stay, else-not-does_stay}

-- a level left as it stands
tab_kept : (f : ℕ → MipLevel) (n : ℕ) (d : List MipLevel) → n < length d → get_or d n absent ≡ f n → tab n f ++ drop n d ≡ tab (n + 1) f ++ drop (n + 1) d
unfolding tab
tab_kept f n d h e = rw (add-one, drop-cons d n absent, e) (sym (append_snoc (tab n f) (f n) (drop (suc n) d)))

pub loop-i-init : goal.loop-i-init
loop-i-init c = tab_none _ _

pub loop-i-preserved : goal.loop-i-preserved
unfolding stay_at
loop-i-preserved c =
    let l = c.args.levels in
    let i = c.loop-i.i in
    let f = stay_at l c.args.k in
    elim c.if-not-does_stay.branch [
      | then-not-does_stay w ↦
          let e : absent ≡ f i = no _ (sym c.does_stay.ensures ∙ w.if-not-does_stay.true) refl in
          w.levels-is ∙ rw c.loop-i.invariant (ap (set (tab i f ++ drop i l) i) e ∙ tab_more f i l (omega arith))
      | else-not-does_stay w ↦
          w.levels-is ∙ c.loop-i.invariant ∙ tab_kept f i l (omega arith) (yes _ (sym c.does_stay.ensures ∙ w.if-not-does_stay.false) refl)
    ]

pub returns : goal.returns
unfolding stay
returns c =
    let e : c.loop-i.i ≡ 11 = omega arith in
    c.loop-i.invariant ∙ rw e (tab_all _ 11 c.args.levels (omega arith))
