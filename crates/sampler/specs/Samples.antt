-- A sample: the texel from the bytes at its addresses.
use Rattle.std.specs.Prelude.{ℕ, ◌+◌, ◌*◌, ◌≤◌, ◌<◌, ◌≡◌, true, cond, List, eqb, length, take, drop, Float, Result, Ok, Err}
use Rattle.std.specs.Option.{option_map_or}
use Rattle.answers.specs.declared.Refusal.{Refusal}
use Rattle.answers.specs.Numbers.{refusal_number}
use Rattle.levels.specs.declared.MipLevel.{MipLevel}
use Rattle.levels.specs.declared.Texture.{Texture}
use Rattle.levels.specs.declared.Filter.{Filter}
use Rattle.levels.specs.declared.Filter.TheVariants.{Nearest, Linear}
use Rattle.levels.specs.Levels.{level_of, complete, valid_of}
use Rattle.levels.specs.declared.Wrap.{Wrap}
use Rattle.coords.specs.Coords.{wrap_coord, first_of, second_of, weight_of}
use Rattle.mipmaps.specs.declared.Chosen.{Chosen}
use Rattle.mipmaps.specs.declared.Coordinates.{Coordinates}
use Rattle.sampler.specs.declared.Texel.{Texel}
use Rattle.sampler.specs.Texels.{texel_at, white, linear_texel, part_of, mix_texel}
use Rattle.sampler.specs.Addresses.{index_of, filter_addresses, levels_for, addresses_of, bytes_at}

-- how many bytes a filter takes of one level
abbrev pub taken : Filter → ℕ
taken Nearest = 4
taken Linear = 16

-- how many bytes a sample takes of its levels
abbrev pub count_of : Chosen → ℕ
count_of c = option_map_or (λ (part : ℕ). taken c.filter + taken c.filter) c.part (taken c.filter)

-- the levels that a sample reads, from the first to the last, and by which filter
abbrev pub first_level : Chosen → ℕ
first_level c = c.level

abbrev pub last_level : Chosen → ℕ
last_level c = option_map_or (λ (part : ℕ). c.level + 1) c.part c.level

abbrev pub level_filter : Chosen → Filter
level_filter c = c.filter

-- texture.rs, sample_filter: the texel of a level from the bytes at `filter_addresses`
unfoldable pub filter_texel : Filter → MipLevel → Float → Float → List ℕ → Texel
filter_texel Nearest m s t b = texel_at b 0
filter_texel Linear m s t b = linear_texel (weight_of s m.width) (weight_of t m.height) (texel_at b 0) (texel_at b 4) (texel_at b 8) (texel_at b 12)

-- texture.rs, sample_with_gradients: from the bytes at `chosen_addresses`
unfoldable pub chosen_texel : Texture → Chosen → Float → Float → List ℕ → Texel
chosen_texel x c s t b =
    let f = c.filter in
    option_map_or
    (λ (part : ℕ). mix_texel (part_of part) (filter_texel f (level_of x c.level) s t (take (taken f) b)) (filter_texel f (level_of x (c.level + 1)) s t (drop (taken f) b)))
    c.part (filter_texel f (level_of x c.level) s t b)

-- the texel from the bytes at `addresses_of`
unfoldable pub texel_from : Texture → Coordinates → List ℕ → Texel
texel_from x p b = cond (complete (level_of x 0)) (chosen_texel x (levels_for x p) p.s p.t b) white

-- Document 01, port order 4; texture.rs, sample_with_gradients
unfoldable pub sample_of : List ℕ → Texture → Coordinates → Texel
sample_of store x p = texel_from x p (bytes_at store (addresses_of x p))

-- ---- the operation

-- Document 01, Sample: 8
unfoldable pub sample_check : ℕ → Texture → ℕ
sample_check n x = cond (valid_of n x) 0 8

-- what is answered: the number alone, or the texel
pub data Outcome : Type 0 where
  refused : ℕ → Outcome
  sampled : Texel → Outcome

abbrev pub outcome_of : Result Texel Refusal → Outcome
outcome_of (Err why) = refused (refusal_number why)
outcome_of (Ok x) = sampled x

unfoldable pub sample_call : List ℕ → Texture → Coordinates → Outcome
sample_call store x p = cond (eqb (sample_check (length store) x) 0) (sampled (sample_of store x p)) (refused (sample_check (length store) x))

-- ---- of the part of the store that holds one level

-- a level of width by height texels
pub record Image (width height : ℕ) (l : List ℕ) : Type 0 where
  pub some_wide : 0 < width
  pub wide : width ≤ 1024
  pub some_high : 0 < height
  pub high : height ≤ 1024
  pub bytes : length l ≡ height * width * 4

unfoldable pub nearest_in : List ℕ → ℕ → ℕ → Wrap → Wrap → Float → Float → Texel
nearest_in l width height ws wt s t = texel_at l (index_of width (wrap_coord ws s width) (wrap_coord wt t height))

unfoldable pub linear_in : List ℕ → ℕ → ℕ → Wrap → Wrap → Float → Float → Texel
linear_in l width height ws wt s t =
    let x0 = first_of ws s width in
    let x1 = second_of ws s width in
    let y0 = first_of wt t height in
    let y1 = second_of wt t height in
    linear_texel (weight_of s width) (weight_of t height) (texel_at l (index_of width x0 y0)) (texel_at l (index_of width x1 y0)) (texel_at l (index_of width x0 y1)) (texel_at l (index_of width x1 y1))

-- ---- of a valid record with level 0 complete
pub record Readable (n : ℕ) (x : Texture) : Type 0 where
  pub valid : valid_of n x ≡ true
  pub whole : complete (level_of x 0) ≡ true
  pub few : x.max_mipmap_level ≤ 10

unfoldable pub level_texel : List ℕ → Texture → ℕ → Filter → Float → Float → Texel
level_texel store x k f s t = filter_texel f (level_of x k) s t (bytes_at store (filter_addresses f (level_of x k) x.wrap_s x.wrap_t s t))
