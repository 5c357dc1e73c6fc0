use mathlib.Core.Path.{refl}
use Rattle.sampler.proofs.ArrayU84FromTexel.from.Goals as goal

-- Kept: with it the edit blue_is_lowest is refused for the equation, and not where a search gives up (8a)
pub returns : goal.returns
returns c = refl
