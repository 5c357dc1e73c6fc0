-- Settings, a texture's record and a signed number by the numbers that the records and the probes have for them.
use Rattle.std.specs.Prelude.{ℕ, ◌+◌, ◌*◌, not, cond, List, [], ◌∷◌, eqb, get_or, ℤ, pos, negsuc, Option, Some, None}
use Rattle.levels.specs.declared.MipLevel.{MipLevel}
use Rattle.levels.specs.declared.Texture.{Texture}
use Rattle.levels.specs.declared.Wrap.{Wrap}
use Rattle.levels.specs.declared.Wrap.TheVariants.{Repeat, ClampToEdge}
use Rattle.levels.specs.declared.Filter.{Filter}
use Rattle.levels.specs.declared.Filter.TheVariants as Texel
use Rattle.levels.specs.declared.MinFilter.{MinFilter}
use Rattle.levels.specs.declared.MinFilter.TheVariants as Min
use Rattle.settings.specs.declared.TexEnvMode.{TexEnvMode}
use Rattle.settings.specs.declared.TexEnvMode.TheVariants as E
use Rattle.settings.specs.declared.CullMode.{CullMode}
use Rattle.settings.specs.declared.CullMode.TheVariants.{Front, Back, FrontAndBack}
use Rattle.replay.specs.declared.numbered.Signed.{Signed}

abbrev pub wrap_from : ℕ → Wrap
wrap_from n = cond (eqb n 0) Repeat ClampToEdge

abbrev pub filter_from : ℕ → Filter
filter_from n = cond (eqb n 0) Texel.Nearest Texel.Linear

abbrev pub min_from : ℕ → MinFilter
min_from n =
    cond (eqb n 0) Min.Nearest
    (cond (eqb n 1) Min.Linear
    (cond (eqb n 2) Min.NearestMipmapNearest
    (cond (eqb n 3) Min.LinearMipmapNearest
    (cond (eqb n 4) Min.NearestMipmapLinear Min.LinearMipmapLinear))))

unfoldable pub environment_of : ℕ → TexEnvMode
environment_of n =
    cond (eqb n 1) E.Replace (cond (eqb n 2) E.Decal (cond (eqb n 3) E.Blend (cond (eqb n 4) E.Add E.Modulate)))

abbrev pub cull_of : ℕ → Option CullMode
cull_of n = cond (eqb n 1) (Some Front) (cond (eqb n 2) (Some Back) (cond (eqb n 3) (Some FrontAndBack) None))

-- 49 numbers: four for each level (present, place, width, height), then the top level, the filters and the wraps
abbrev pub level_from : List ℕ → ℕ → MipLevel
level_from l k = record { present = not (eqb (get_or l (k * 4) 0) 0); place = get_or l (k * 4 + 1) 0; width = get_or l (k * 4 + 2) 0; height = get_or l (k * 4 + 3) 0 }

unfoldable pub levels_from : List ℕ → List MipLevel
levels_from l =
    level_from l 0 ∷ level_from l 1 ∷ level_from l 2 ∷ level_from l 3 ∷ level_from l 4 ∷ level_from l 5 ∷ level_from l 6 ∷ level_from l 7 ∷ level_from l 8 ∷ level_from l 9 ∷ level_from l 10 ∷ []

unfoldable pub texture_from : List ℕ → Texture
texture_from l =
    record {
      levels = levels_from l;
      max_mipmap_level = get_or l 44 0;
      min_filter = min_from (get_or l 45 0);
      mag_filter = filter_from (get_or l 46 0);
      wrap_s = wrap_from (get_or l 47 0);
      wrap_t = wrap_from (get_or l 48 0);
    }

-- n, or -1 - n where it is below 0
abbrev pub signed_of : Signed → ℤ
signed_of s = cond s.below (negsuc s.n) (pos s.n)
