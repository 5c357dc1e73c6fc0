use Rattle.std.proofs.Common.{refl}
use Rattle.screen.specs.Screen.{y_of}
use Rattle.screen.proofs.screen_y.Goals as goal

-- Kept: by `unfolding(..)` on the function it is proved too, but the edit y_from_the_top is then refused by a limit of the search alone. (8a)
pub returns : goal.returns
unfolding y_of
returns c = refl
