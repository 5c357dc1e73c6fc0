use Rattle.std.proofs.Common.{rules, refl, sym, ap, ◌∙◌}
use Rattle.lists.specs.Lists.{any}
use Rattle.levels.specs.Levels.{overlaps}
use Rattle.lists.proofs.Choice.{yes, no}
use Rattle.levels.proofs.Valid.{fits_past, fits_within}
use Rattle.texture.specs.Define.{place_check}
use Rattle.texture.proofs.Defining.{stay_fits}
use Rattle.texture.proofs.Entry.place_check.Goals as goal
use Rattle.texture.proofs.Entry.place_check.Goals.{then-not-does_fit-via-then-not-does_fit, then-not-does_fit-via-else-not-does_fit+then-any_overlap}

pub returns-then-not-does_fit : goal.returns-then-not-does_fit
unfolding place_check
returns-then-not-does_fit c =
    let p = c.args.self.small in
    elim c.then-not-does_fit.branch [
      | then-not-does_fit-via-then-not-does_fit w ↦ yes _ (fits_past _ _ p.0 p.1 p.2 (sym c.does_fit.ensures ∙ w.if-not-does_fit.true)) refl
      | then-not-does_fit-via-else-not-does_fit+then-any_overlap w ↦
          no _ (fits_within _ _ p.0 p.1 p.2 (sym c.does_fit.ensures ∙ w.if-not-does_fit.false))
          (yes _ (ap (any (overlaps c.args.self.m)) (sym c.staying.ensures) ∙ sym w.any_overlap.ensures ∙ w.if-any_overlap.true) refl)
    ]

pub invariant_of-others : goal.invariant_of-others
invariant_of-others c = record { fit = rw c.staying.ensures (stay_fits _ _ _ c.requires) }

pub any_overlap-requires : goal.any_overlap-requires
any_overlap-requires c = (search rules, sym c.does_fit.ensures ∙ c.if-not-does_fit.false)

pub returns : goal.returns
unfolding place_check
returns c =
    let p = c.args.self.small in
    no _ (fits_within _ _ p.0 p.1 p.2 (sym c.does_fit.ensures ∙ c.if-not-does_fit.false))
    (no _ (ap (any (overlaps c.args.self.m)) (sym c.staying.ensures) ∙ sym c.any_overlap.ensures ∙ c.if-any_overlap.false) refl)
