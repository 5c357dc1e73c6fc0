-- A triangle left by clipping that draws nothing, by the tests of its area. Assumes nothing.
use Rattle.std.specs.Prelude.{Option, None}
use mathlib.Core.Path.{◌≡◌}
use mathlib.Core.Bool.{true, false}
use lib.Ieee.{Float}
use Rattle.settings.specs.declared.FrontFace.{FrontFace}
use Rattle.settings.specs.declared.CullMode.{CullMode}
use Rattle.screen.specs.declared.ScreenVertex.{ScreenVertex}
use Rattle.screen.specs.Facing.{area_of, area_fits, front_of, discard_of}
use Rattle.scissor.specs.declared.PixelBox.{PixelBox}
use Rattle.setup.specs.Setup.{on_screen}

module _ (f : FrontFace) (cull : Option CullMode) (within : PixelBox) (a b c : ScreenVertex) {area : Float} (e : area ≡ area_of a b c) where
  pub no_area : area_fits area ≡ false → None ≡ on_screen f cull within a b c
  unfolding on_screen
  no_area h = rw (← e, h)

  pub discarded : area_fits area ≡ true → discard_of cull (front_of f area) ≡ true → None ≡ on_screen f cull within a b c
  unfolding on_screen
  discarded h k = rw (← e, h, k)
