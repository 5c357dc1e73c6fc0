use Rattle.std.proofs.lemmas.Bool.{true≢false}
use Rattle.std.proofs.Common.{◌≡◌, true, sym, ◌∙◌}
use Rattle.levels.proofs.Valid.{fits_known}
use Rattle.levels.proofs.Stored.overlap.Goals as goal
use Rattle.levels.proofs.Stored.overlap.Goals.{then-a, else-a}

pub size_of-requires : goal.size_of-requires
size_of-requires c =
    let p : c.args.a.present ≡ true = elim c.if-a.branch [ then-a w ↦ w.if-a.true | else-a w ↦ absurd (true≢false (sym c.if-b.true ∙ w.value-is ∙ w.if-a.false)) ] in
    let k = fits_known _ _ c.requires.0 p in
    (k.wide, k.high)

pub size_of-requires-then-b : goal.size_of-requires-then-b
size_of-requires-then-b c =
    let q : c.args.b.present ≡ true = elim c.if-a.branch [ then-a w ↦ sym w.value-is ∙ c.if-b.true | else-a w ↦ absurd (true≢false (sym c.if-b.true ∙ w.value-is ∙ w.if-a.false)) ] in
    let j = fits_known _ _ c.requires.1 q in
    (j.wide, j.high)
