use mathlib.Core.Path.{refl}
use Rattle.settings.proofs.saturated.Goals as goal

-- With it the edit saturate_sides_swapped is refused for the equation, and not where a search gives up.
pub returns : goal.returns
returns c = rw (c.splat.ensures, c.min-f.ensures) refl
