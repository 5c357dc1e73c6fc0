use mathlib.Core.Path.{refl, sym}
use Rattle.coords.proofs.Quick.{held_whole}
use Rattle.coords.proofs.far_floor.Goals as goal

pub returns : goal.returns
returns c = held_whole _ _ _ (record { sfits = c.saturating_f32_to_i64.type_inv }) c.saturating_f32_to_i64.result refl (record { whole = rw (sym c.floor-low.ensures) c.saturating_f32_to_i64.ensures; low = c.floor-low.ensures })
