-- Area, facing and culling of a triangle on the screen: raster.rs, raster_clipped; OpenGL ES 1.1, Basic Polygon Rasterization.
use Rattle.std.specs.Prelude.{Bool, true, false, cond, not, Float, Option, Some, None}
use Rattle.std.specs.Float.Ieee as Ieee
use Rattle.floats.specs.Num.{◌⊖◌, ◌⊗◌, zero32, finite_of}
use Rattle.settings.specs.declared.CullMode.{CullMode}
use Rattle.settings.specs.declared.CullMode.TheVariants.{Front, Back, FrontAndBack}
use Rattle.settings.specs.declared.FrontFace.{FrontFace}
use Rattle.settings.specs.declared.FrontFace.TheVariants.{Cw, Ccw}
use Rattle.screen.specs.declared.ScreenVertex.{ScreenVertex}

-- twice the area; rows count downwards, so that of a counter-clockwise triangle is negative
unfoldable pub area_of : ScreenVertex → ScreenVertex → ScreenVertex → Float
area_of a b c = (b.x ⊖ a.x) ⊗ (c.y ⊖ a.y) ⊖ (c.x ⊖ a.x) ⊗ (b.y ⊖ a.y)

-- Document 01, Corners: the area is 0 or not finite
unfoldable pub area_fits : Float → Bool
area_fits a = cond (Ieee.eq a zero32) false (finite_of a)

abbrev pub front_of : FrontFace → Float → Bool
front_of Ccw area = Ieee.lt area zero32
front_of Cw area = Ieee.lt zero32 area

-- whether a mode discards a front face, or one that is not
abbrev pub discard_by : CullMode → Bool → Bool
discard_by FrontAndBack front = true
discard_by Front front = front
discard_by Back front = not front

abbrev pub discard_of : Option CullMode → Bool → Bool
discard_of None front = false
discard_of (Some mode) front = discard_by mode front
