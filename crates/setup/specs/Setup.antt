-- One triangle left by clipping, made ready to fill: raster.rs, raster_clipped, up to its loops.
use Rattle.std.specs.Prelude.{cond, Option, Some, None}
use Rattle.floats.specs.Num.{◌⊘◌, one32}
use Rattle.settings.specs.declared.DepthRange.{DepthRange}
use Rattle.settings.specs.declared.FrontFace.{FrontFace}
use Rattle.vertices.specs.declared.Vertex.{Vertex}
use Rattle.screen.specs.declared.View.{View}
use Rattle.screen.specs.declared.ScreenVertex.{ScreenVertex}
use Rattle.screen.specs.Screen.{corner_of}
use Rattle.screen.specs.Facing.{area_of, area_fits, front_of, discard_of}
use Rattle.scissor.specs.declared.PixelBox.{PixelBox}
use Rattle.setup.specs.Box.{covered_of}
use Rattle.setup.specs.declared.Raster.{Raster}
use Rattle.settings.specs.declared.CullMode.{CullMode}

-- the corners, 1 / area and the pixels, where there are any
abbrev pub raster_of : ScreenVertex → ScreenVertex → ScreenVertex → Option PixelBox → Option Raster
raster_of a b c None = None
raster_of a b c (Some box) =
    Some (record { corners = record { a = a; b = b; c = c }; inv_area = one32 ⊘ area_of a b c; pixels = box })

-- three corners on the screen: nothing where the area is 0 or not finite, where the face is discarded, and where no pixel is left
unfoldable pub on_screen : FrontFace → Option CullMode → PixelBox → ScreenVertex → ScreenVertex → ScreenVertex → Option Raster
on_screen f cull within a b c =
    cond (area_fits (area_of a b c)) (cond (discard_of cull (front_of f (area_of a b c))) None (raster_of a b c (covered_of a b c within))) None

-- what to do with a corner, if it is kept
abbrev pub with_corner : Option ScreenVertex → (ScreenVertex → Option Raster) → Option Raster
with_corner None f = None
with_corner (Some v) f = f v

unfoldable pub setup_of : View → DepthRange → FrontFace → Option CullMode → PixelBox → Vertex → Vertex → Vertex → Option Raster
setup_of view r f cull within a b c =
    with_corner (corner_of view r a) (λ p. with_corner (corner_of view r b) (λ q. with_corner (corner_of view r c) (λ s. on_screen f cull within p q s)))
