-- A colour as its four channels in turn.
use Rattle.std.specs.Prelude.{List, [], ◌∷◌, Float, get_or}
use Rattle.std.specs.Float.{nan}
use Rattle.settings.specs.declared.Rgba.{Rgba}

abbrev pub color_of : List Float → Rgba
color_of l = record { r = get_or l 0 nan; g = get_or l 1 nan; b = get_or l 2 nan; a = get_or l 3 nan }

abbrev pub channels_of : Rgba → List Float
channels_of v = v.r ∷ v.g ∷ v.b ∷ v.a ∷ []
