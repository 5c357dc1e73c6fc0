-- Which levels a sample reads, and by which filter: from the record's filters and top level, level 0's sides and the gradients.
use Rattle.std.specs.Prelude.{ℕ, ◌+◌, ◌≤◌, ◌<◌, Bool, cond, eqb, List, get_or, Float, Option, Some, None}
use Rattle.std.specs.Option.{MatchOption}
use Rattle.std.specs.Float.Ieee as Ieee
use Rattle.std.specs.Float.{nan, binary64}
use Rattle.levels.specs.declared.Filter.{Filter}
use Rattle.levels.specs.declared.Filter.TheVariants as Texel
use Rattle.levels.specs.declared.MinFilter.{MinFilter}
use Rattle.levels.specs.declared.MinFilter.TheVariants as Min
use Rattle.detail.specs.Pairs.{q_of}
use Rattle.detail.specs.Steps.{cut_of, nearest_level, lower_level, way_up}
use Rattle.mipmaps.specs.declared.Mipmap.{Mipmap}
use Rattle.mipmaps.specs.declared.Mipmap.TheVariants.{NearestLevel, Between}
use Rattle.mipmaps.specs.declared.Chosen.{Chosen}
use Rattle.mipmaps.specs.declared.Coordinates.{Coordinates}

-- six numbers in the order of the fields
abbrev pub coordinates_of : List Float → Coordinates
coordinates_of l =
    record {
      s = get_or l 0 nan;
      t = get_or l 1 nan;
      dsdx = get_or l 2 nan;
      dtdx = get_or l 3 nan;
      dsdy = get_or l 4 nan;
      dtdy = get_or l 5 nan;
    }

-- texture.rs, MinFilter::texel_filter
abbrev pub texel_filter : MinFilter → Filter
texel_filter Min.Nearest = Texel.Nearest
texel_filter Min.Linear = Texel.Linear
texel_filter Min.NearestMipmapNearest = Texel.Nearest
texel_filter Min.LinearMipmapNearest = Texel.Linear
texel_filter Min.NearestMipmapLinear = Texel.Nearest
texel_filter Min.LinearMipmapLinear = Texel.Linear

-- texture.rs, MinFilter::mipmap_filter: None, Some(false) and Some(true)
abbrev pub mipmap_filter : MinFilter → Option Mipmap
mipmap_filter Min.Nearest = None
mipmap_filter Min.Linear = None
mipmap_filter Min.NearestMipmapNearest = Some NearestLevel
mipmap_filter Min.LinearMipmapNearest = Some NearestLevel
mipmap_filter Min.NearestMipmapLinear = Some Between
mipmap_filter Min.LinearMipmapLinear = Some Between

-- one level; a level and the next, and how many 256ths of the way to it
abbrev pub one_level : ℕ → Filter → Chosen
one_level k f = record { level = k; filter = f; part = None }

abbrev pub two_levels : ℕ → Filter → ℕ → Chosen
two_levels k f part = record { level = k; filter = f; part = Some part }

-- Document 01, Level of detail: between levels, n div 256 and the next, n mod 256 parts of 256 of the way; remainder 0 reads one level
unfoldable pub between : Filter → ℕ → Chosen
between f n = cond (eqb (way_up n) 0) (one_level (lower_level n) f) (two_levels (lower_level n) f (way_up n))

-- Document 01, Level of detail: the minifying filter at a detail of n / 256
unfoldable pub minified : Option Mipmap → Filter → ℕ → Chosen
minified None f n = one_level 0 f
minified (Some NearestLevel) f n = one_level (nearest_level n) f
minified (Some Between) f n = between f n

unfoldable pub q_at : ℕ → ℕ → Coordinates → Float
q_at width height p = q_of width height p.dsdx p.dtdx p.dsdy p.dtdy

-- Document 01, Level of detail: the magnifying filter reads level 0 where q is NaN or at most 1
abbrev pub above_one : Float → Bool
above_one q = Ieee.lt (Ieee.of_bits binary64 0x3ff0_0000_0000_0000) q

-- texture.rs, sample_with_gradients: the levels, with level 0's sides and the top level
unfoldable pub chosen_of : ℕ → ℕ → ℕ → MinFilter → Filter → Coordinates → Chosen
chosen_of width height top min mag p =
    cond (above_one (q_at width height p)) (minified (mipmap_filter min) (texel_filter min) (cut_of (q_at width height p) top)) (one_level 0 mag)

-- the levels are among 0 to top, and a part is less than the whole
abbrev pub Within : ℕ → Chosen → Type 0
Within top c = MatchOption c.part (c.level ≤ top) (λ (part : ℕ). (c.level + 1 ≤ top) × (part < 256))
