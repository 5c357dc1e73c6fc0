use mathlib.Core.Path.{refl}
use mathlib.Core.Logic.{inl, inr}
use Rattle.blocks.proofs.Block.is_dxt.Goals as goal

-- Each format by itself: so the edit dxt3_read_as_atc is refused for the equation, and not where a search gives up.
pub returns-in-Dxt1Rgb : goal.returns-in-Dxt1Rgb
returns-in-Dxt1Rgb c = elim c.in-Dxt1Rgb.is [
  | inl e ↦ rw e refl
  | inr (inl e) ↦ rw e refl
  | inr (inr (inl e)) ↦ rw e refl
  | inr (inr (inr e)) ↦ rw e refl
]
