use mathlib.Core.Path.{◌≡◌, refl, sym, ◌∙◌}
use mathlib.Core.Bool.{Bool, true, false, cond, not}
use borrow.Author.Tests.{not-true, not-false}
use Rattle.std.proofs.lemmas.Bool.{true≢false}
use Rattle.lists.proofs.Choice.{yes, no}
use Rattle.coverage.specs.Coverage.{covered_by}
use Rattle.coverage.proofs.is_covered.Goals as goal
use Rattle.coverage.proofs.is_covered.Goals.{then-not-w, else-not-w}

opposite : (t : Bool) → not t ≡ cond t false true
opposite true = refl
opposite false = refl

pub returns-then-not-w-2 : goal.returns-then-not-w-2
unfolding covered_by
returns-then-not-w-2 c =
    elim c.if-not-w.branch [
      | then-not-w w ↦ no _ w.if-not-w.true (no _ (not-true _ (sym w.value-is ∙ c.if-not-w-2.true)) (opposite _))
      | else-not-w w ↦ absurd (true≢false (sym w.if-not-w.false ∙ not-true _ (sym w.value-is ∙ c.if-not-w-2.true)))
    ]

pub returns-else-not-w-2 : goal.returns-else-not-w-2
unfolding covered_by
returns-else-not-w-2 c =
    elim c.if-not-w.branch [
      | then-not-w w ↦ no _ w.if-not-w.true (yes _ (not-false _ (sym w.value-is ∙ c.if-not-w-2.false)) c.if-not-w-2.false)
      | else-not-w w ↦ yes _ w.if-not-w.false c.if-not-w-2.false
    ]
