use Rattle.std.proofs.Common.{sym, ◌∙◌}
use Rattle.levels.proofs.Valid.{valid_fits}
use Rattle.texture.proofs.Entry.check_against.Goals as goal

pub place_check-requires : goal.place_check-requires
place_check-requires c = rw c.kept_levels.ensures (valid_fits _ _ (sym c.is_valid.ensures ∙ c.if-not-is_valid.false))
