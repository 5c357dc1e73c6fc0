-- The bytes of the store that a sample takes, by their addresses, from the record and the coordinates alone. Repeats are kept.
use Rattle.std.specs.Prelude.{ℕ, ◌+◌, ◌*◌, cond, List, [], ◌∷◌, ◌++◌, map, get_or, Float}
use Rattle.std.specs.Option.{option_map_or}
use Rattle.levels.specs.declared.MipLevel.{MipLevel}
use Rattle.levels.specs.declared.Texture.{Texture}
use Rattle.levels.specs.declared.Wrap.{Wrap}
use Rattle.levels.specs.declared.Filter.{Filter}
use Rattle.levels.specs.declared.Filter.TheVariants.{Nearest, Linear}
use Rattle.levels.specs.Levels.{level_of, complete}
use Rattle.coords.specs.Coords.{wrap_coord, first_of, second_of}
use Rattle.mipmaps.specs.declared.Chosen.{Chosen}
use Rattle.mipmaps.specs.declared.Coordinates.{Coordinates}
use Rattle.mipmaps.specs.Mipmaps.{chosen_of}

-- texture.rs, sample_nearest_level: the first byte of texel x, y of a level, counted from the level's place
unfoldable pub index_of : ℕ → ℕ → ℕ → ℕ
index_of width x y = (y * width + x) * 4

-- the addresses of the four bytes of texel x, y
unfoldable pub texel_addresses : MipLevel → ℕ → ℕ → List ℕ
texel_addresses m x y = let a = m.place + index_of m.width x y in a ∷ (a + 1) ∷ (a + 2) ∷ (a + 3) ∷ []

-- texture.rs, sample_nearest_level: one texel
unfoldable pub nearest_addresses : MipLevel → Wrap → Wrap → Float → Float → List ℕ
nearest_addresses m ws wt s t = texel_addresses m (wrap_coord ws s m.width) (wrap_coord wt t m.height)

-- texture.rs, sample_linear_level: c00, c10, c01, c11
unfoldable pub linear_addresses : MipLevel → Wrap → Wrap → Float → Float → List ℕ
linear_addresses m ws wt s t =
    let x0 = first_of ws s m.width in
    let x1 = second_of ws s m.width in
    let y0 = first_of wt t m.height in
    let y1 = second_of wt t m.height in
    texel_addresses m x0 y0 ++ (texel_addresses m x1 y0 ++ (texel_addresses m x0 y1 ++ texel_addresses m x1 y1))

-- texture.rs, sample_filter
unfoldable pub filter_addresses : Filter → MipLevel → Wrap → Wrap → Float → Float → List ℕ
filter_addresses Nearest m ws wt s t = nearest_addresses m ws wt s t
filter_addresses Linear m ws wt s t = linear_addresses m ws wt s t

-- the levels that a sample of the texture reads
unfoldable pub levels_for : Texture → Coordinates → Chosen
levels_for t p = chosen_of (level_of t 0).width (level_of t 0).height t.max_mipmap_level t.min_filter t.mag_filter p

-- of one level, or of a level and then the next
unfoldable pub chosen_addresses : Texture → Chosen → Float → Float → List ℕ
chosen_addresses x c s t =
    let first = filter_addresses c.filter (level_of x c.level) x.wrap_s x.wrap_t s t in
    option_map_or (λ (part : ℕ). first ++ filter_addresses c.filter (level_of x (c.level + 1)) x.wrap_s x.wrap_t s t) c.part first

-- Document 01, port order 4: none where level 0 is incomplete
unfoldable pub addresses_of : Texture → Coordinates → List ℕ
addresses_of x p = cond (complete (level_of x 0)) (chosen_addresses x (levels_for x p) p.s p.t) []

-- the bytes at some addresses
abbrev pub bytes_at : List ℕ → List ℕ → List ℕ
bytes_at store l = map (λ (a : ℕ). get_or store a 0) l
