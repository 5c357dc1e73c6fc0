-- The blend factors: four multipliers from the source and the destination colour.
use Rattle.std.specs.Prelude.{Float}
use Rattle.floats.specs.Num.{◌⊖◌, min_of, zero32, one32}
use Rattle.settings.specs.declared.Rgba.{Rgba}
use Rattle.settings.specs.declared.BlendFactor.{BlendFactor}
use Rattle.settings.specs.declared.BlendFactor.TheVariants as B

abbrev pub splat_of : Float → Rgba
splat_of v = record { r = v; g = v; b = v; a = v }

abbrev pub one_minus : Rgba → Rgba
one_minus v = record { r = one32 ⊖ v.r; g = one32 ⊖ v.g; b = one32 ⊖ v.b; a = one32 ⊖ v.a }

abbrev pub saturated_of : Float → Float → Rgba
saturated_of src dst = record { r = min_of src (one32 ⊖ dst); g = min_of src (one32 ⊖ dst); b = min_of src (one32 ⊖ dst); a = one32 }

-- OpenGL ES 1.1, Blending: what each factor is
abbrev pub resolve_of : BlendFactor → Rgba → Rgba → Rgba
resolve_of B.Zero src dst = splat_of zero32
resolve_of B.One src dst = splat_of one32
resolve_of B.SrcColor src dst = src
resolve_of B.OneMinusSrcColor src dst = one_minus src
resolve_of B.SrcAlpha src dst = splat_of src.a
resolve_of B.OneMinusSrcAlpha src dst = splat_of (one32 ⊖ src.a)
resolve_of B.DstAlpha src dst = splat_of dst.a
resolve_of B.OneMinusDstAlpha src dst = splat_of (one32 ⊖ dst.a)
resolve_of B.DstColor src dst = dst
resolve_of B.OneMinusDstColor src dst = one_minus dst
resolve_of B.SrcAlphaSaturate src dst = saturated_of src.a dst.a
