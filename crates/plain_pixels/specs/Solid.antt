-- A triangle of one colour: settings under which each pixel that it writes gets its last corner's colour in all four bytes.
use Rattle.std.specs.Prelude.{ℕ, Bool, false, cond, List, [], ◌∷◌, get_or}
use Rattle.std.specs.Float.{nan}
use Rattle.channels.specs.Channel.{byte_of}
use Rattle.settings.specs.declared.ColorMask.{ColorMask}
use Rattle.settings.specs.declared.PipelineState.{PipelineState}
use Rattle.coverage.specs.declared.Primitive.{Primitive}

abbrev pub all_on : ColorMask → Bool
all_on m = cond m.r (cond m.g (cond m.b m.a false) false) false

-- flat, and neither fog, nor blending, nor an alpha test, nor a mask
unfoldable pub solid_of : PipelineState → Bool
solid_of s = cond s.smooth_shading false (cond s.fog false (cond s.blend false (cond s.alpha_test false (all_on s.color_mask))))

-- the bytes of the last corner's colour
unfoldable pub solid_color : Primitive → List ℕ
solid_color t =
    byte_of (get_or t.vertices.c.color 0 nan) ∷ byte_of (get_or t.vertices.c.color 1 nan) ∷ byte_of (get_or t.vertices.c.color 2 nan) ∷ byte_of (get_or t.vertices.c.color 3 nan) ∷ []
