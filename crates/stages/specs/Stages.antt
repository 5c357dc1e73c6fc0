-- The texture stages of a fragment, in order: raster.rs, raster_clipped; OpenGL ES 1.1, Texture Application.
use Rattle.std.specs.Prelude.{ℕ, ◌+◌, ◌*◌, ◌<◌, ◌≤◌, ◌≡◌, true, cond, List, [], get_or, Float}
use Rattle.std.specs.Float.{nan}
use Rattle.lists.specs.Lists.{iter, flat}
use Rattle.levels.specs.declared.Texture.{Texture}
use Rattle.levels.specs.declared.MinFilter.TheVariants as Min
use Rattle.levels.specs.declared.Filter.TheVariants.{Nearest}
use Rattle.levels.specs.declared.Wrap.TheVariants.{Repeat}
use Rattle.levels.specs.Levels.{level_of, complete, valid_of}
use Rattle.settings.specs.declared.Rgba.{Rgba}
use Rattle.settings.specs.declared.TextureStage.{TextureStage}
use Rattle.settings.specs.declared.TexEnvMode.TheVariants.{Modulate}
use Rattle.fragment.specs.Fragment.{units_of, tex_env_of}
use Rattle.gradients.specs.declared.PerCorner.{PerCorner}
use Rattle.gradients.specs.Gradients.{attribute_of}
use Rattle.mipmaps.specs.declared.Coordinates.{Coordinates}
use Rattle.sampler.specs.declared.Texel.{Texel}
use Rattle.sampler.specs.Addresses.{addresses_of}
use Rattle.sampler.specs.Samples.{sample_of}
use Rattle.coverage.specs.declared.Primitive.{Primitive}
use Rattle.coverage.specs.Coverage.{corners_at}

-- what stands past the end of a list of stages or records
abbrev pub no_stage : TextureStage
no_stage = record { unit = 0; env = Modulate; env_color = record { r = nan; g = nan; b = nan; a = nan } }

abbrev pub no_texture : Texture
no_texture = record { levels = []; max_mipmap_level = 0; min_filter = Min.Nearest; mag_filter = Nearest; wrap_s = Repeat; wrap_t = Repeat }

-- stage i of a draw, and the record of the texture that it reads
abbrev pub stage_at : List TextureStage → ℕ → TextureStage
stage_at stages i = get_or stages i no_stage

abbrev pub texture_at : List Texture → ℕ → Texture
texture_at xs i = get_or xs i no_texture

-- unit u's coordinates of the three corners stand at 2 u and 2 u + 1
abbrev pub texcoords : Primitive → ℕ → PerCorner Float
texcoords t i = corners_at i t.vertices.a.texcoord t.vertices.b.texcoord t.vertices.c.texcoord

-- raster.rs, raster_clipped: s and t of a unit with their four derivatives. They are the unit's, whatever place the stage has.
unfoldable pub coordinates_of : Primitive → PerCorner Float → Float → ℕ → Coordinates
coordinates_of t w rec u =
    let s = attribute_of (texcoords t (u * 2)) w rec t.derivatives in
    let r = attribute_of (texcoords t (u * 2 + 1)) w rec t.derivatives in
    record { s = s.value; t = r.value; dsdx = s.dx; dtdx = r.dx; dsdy = s.dy; dtdy = r.dy }

abbrev pub texel_color : Texel → Rgba
texel_color x = units_of x.r x.g x.b x.a

-- Document 01, Forms that change: a stage whose level 0 is incomplete passes its colour on
unfoldable pub stage_color : List ℕ → TextureStage → Texture → Coordinates → Rgba → Rgba
stage_color store stage x p frag = cond (complete (level_of x 0)) (tex_env_of stage frag (texel_color (sample_of store x p))) frag

-- stage i, from the colour that the stage before it left. xs: the records that the stages read, stage by stage
unfoldable pub stage_step : List ℕ → List TextureStage → List Texture → Primitive → PerCorner Float → Float → ℕ → Rgba → Rgba
stage_step store stages xs t w rec i frag =
    stage_color store (stage_at stages i) (texture_at xs i) (coordinates_of t w rec (stage_at stages i).unit) frag

-- the first n stages in turn
unfoldable pub stages_color : List ℕ → List TextureStage → ℕ → List Texture → Primitive → PerCorner Float → Float → Rgba → Rgba
stages_color store stages n xs t w rec frag = iter n (stage_step store stages xs t w rec) frag

-- Document 01, Demand 3: the addresses of the store's bytes that the stages take, stage by stage
unfoldable pub stages_addresses : List TextureStage → ℕ → List Texture → Primitive → PerCorner Float → Float → List ℕ
stages_addresses stages n xs t w rec = flat n (λ i. addresses_of (texture_at xs i) (coordinates_of t w rec (stage_at stages i).unit))

-- what checks 6 and 8 show of the stages in use; len: the store's length
pub record StagesFit (len n : ℕ) (stages : List TextureStage) (xs : List Texture) : Type 0 where
  pub few : n ≤ 4
  pub units : (i : ℕ) → i < n → (stage_at stages i).unit < 4
  pub valid : (i : ℕ) → i < n → valid_of len (texture_at xs i) ≡ true
