use mathlib.Core.Path.{refl}
use Rattle.settings.proofs.ArrayF324FromRgba.from.Goals as goal

-- Kept: with it the edit channels_written_reversed is refused for the equation, and not where a search gives up (8a)
pub returns : goal.returns
returns c = refl
