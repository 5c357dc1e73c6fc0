use Rattle.std.proofs.Common.{sym, ◌∙◌}
use Rattle.setup.proofs.Setups.{discarded}
use Rattle.setup.proofs.setup_screen.Goals as goal

pub returns-then-is_discarded : goal.returns-then-is_discarded
returns-then-is_discarded c =
    discarded c.args.front_face c.args.cull c.args.within _ _ _ c.signed_area-area.ensures (sym c.area_fits.ensures ∙ c.if-not-area_fits.false)
    (rw c.is_front.ensures at (sym c.is_discarded.ensures ∙ c.if-is_discarded.true))
