-- A texture's record, coordinates and a texel as the sampler's comparison passes them.
use Rattle.std.specs.Prelude.{ℕ, ◌+◌, ◌*◌, false, cond, List, get_or, Float, Option, Some, None}
use Rattle.std.specs.Float.Ieee as Ieee
use Rattle.std.specs.Float.{nan, inf, binary64}
use Rattle.levels.specs.declared.MipLevel.{MipLevel}
use Rattle.levels.specs.declared.Texture.{Texture}
use Rattle.levels.specs.declared.Wrap.{Wrap}
use Rattle.levels.specs.declared.Filter.{Filter}
use Rattle.levels.specs.declared.MinFilter.{MinFilter}
use Rattle.mipmaps.specs.declared.Coordinates.{Coordinates}
use Rattle.detail.specs.Steps.{steps_of}
use Rattle.sampler.specs.declared.Texel.{Texel}
use Rattle.sampler.specs.Texels.{packed_of}
use Rattle.replay.specs.Numbered as N

-- n of a finite q above 1
abbrev pub steps_if : Float → Option ℕ
steps_if q = cond (Ieee.lt (Ieee.of_bits binary64 0x3ff0_0000_0000_0000) q) (cond (Ieee.lt q (inf false)) (Some (steps_of q)) None) None

-- and else 0
abbrev pub steps_from : Float → ℕ
steps_from q = cond (Ieee.lt (Ieee.of_bits binary64 0x3ff0_0000_0000_0000) q) (cond (Ieee.lt q (inf false)) (steps_of q) 0) 0

-- a texture's record by its numbers, as records have it too
abbrev pub level_from : List ℕ → ℕ → MipLevel
level_from l k = N.level_from l k

abbrev pub levels_from : List ℕ → List MipLevel
levels_from l = N.levels_from l

abbrev pub wrap_from : ℕ → Wrap
wrap_from n = N.wrap_from n

abbrev pub filter_from : ℕ → Filter
filter_from n = N.filter_from n

abbrev pub min_from : ℕ → MinFilter
min_from n = N.min_from n

abbrev pub texture_from : List ℕ → Texture
texture_from l = N.texture_from l

-- six floats a sample
abbrev pub coordinates_from : List Float → ℕ → Coordinates
coordinates_from l i =
    record {
      s = get_or l (i * 6) nan;
      t = get_or l (i * 6 + 1) nan;
      dsdx = get_or l (i * 6 + 2) nan;
      dtdx = get_or l (i * 6 + 3) nan;
      dsdy = get_or l (i * 6 + 4) nan;
      dtdy = get_or l (i * 6 + 5) nan;
    }

-- the four bytes as one number, red lowest
abbrev pub packed : Texel → ℕ
packed x = packed_of x
