-- How the exports of probe_clip take and tell their numbers.
use Rattle.std.specs.Prelude.{ℕ, Bool, true, false, cond, List, [], ◌∷◌, get_or, Float, Option, Some, None}
use Rattle.std.proofs.lemmas.List.Edits.{sets}
use Rattle.std.specs.Float.{nan}
use Rattle.settings.specs.declared.DepthRange.{DepthRange}
use Rattle.settings.specs.declared.FrontFace.{FrontFace}
use Rattle.settings.specs.declared.FrontFace.TheVariants.{Cw, Ccw}
use Rattle.screen.specs.declared.View.{View}
use Rattle.scissor.specs.declared.PixelBox.{PixelBox}
use Rattle.setup.specs.declared.Raster.{Raster}
use Rattle.gradients.specs.declared.PerCorner.{PerCorner}
use Rattle.gradients.specs.declared.Attribute.{Attribute}
use Rattle.settings.specs.declared.CullMode.{CullMode}
use Rattle.replay.specs.Numbered as N

abbrev pub view_from : List Float → View
view_from l = record { x = get_or l 0 nan; y = get_or l 1 nan; width = get_or l 2 nan; height = get_or l 3 nan; rows = get_or l 4 nan }

abbrev pub range_from : Float → Float → DepthRange
range_from n f = record { near = n; far = f }

abbrev pub box_from : List ℕ → PixelBox
box_from l = record { x0 = get_or l 0 0; y0 = get_or l 1 0; x1 = get_or l 2 0; y1 = get_or l 3 0 }

abbrev pub corners_from : List Float → ℕ → ℕ → ℕ → PerCorner Float
corners_from l i j k = record { a = get_or l i nan; b = get_or l j nan; c = get_or l k nan }

abbrev pub face_of : Bool → FrontFace
face_of ccw = cond ccw Ccw Cw

abbrev pub cull_of : ℕ → Option CullMode
cull_of n = N.cull_of n

abbrev pub floats_of : Raster → List Float
floats_of r =
    let t = r.corners in
    t.a.x ∷ t.a.y ∷ t.a.z ∷ t.a.inv_w ∷ t.b.x ∷ t.b.y ∷ t.b.z ∷ t.b.inv_w
    ∷ t.c.x ∷ t.c.y ∷ t.c.z ∷ t.c.inv_w ∷ r.inv_area ∷ []

abbrev pub ends_of : PixelBox → List ℕ
ends_of p = p.x0 ∷ p.y0 ∷ p.x1 ∷ p.y1 ∷ []

abbrev pub attribute_floats : Attribute → List Float
attribute_floats a = a.value ∷ a.dx ∷ a.dy ∷ []

-- what an export answers and leaves
pub record Told : Type 0 where
  pub draws : Bool
  pub floats : List Float
  pub ends : List ℕ

abbrev pub told : Bool → List Float → List ℕ → Told
told b f e = record { draws = b; floats = f; ends = e }

abbrev pub told_of : Option Raster → List Float → List ℕ → Told
told_of None f e = told false f e
told_of (Some r) f e = told true (sets f 0 (floats_of r)) (sets e 0 (ends_of r.pixels))
