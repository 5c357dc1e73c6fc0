-- What a sample takes: how many bytes, and that the texel hangs on those bytes alone. Assumes nothing.
use Prim.Native.Nat.{ℕ, ◌+◌}
use mathlib.Core.Path.{◌≡◌, refl, ap, ap₂, ◌∙◌}
use mathlib.Core.Bool.{Bool, true, false, cond}
use mathlib.Core.List.{List, [], ◌∷◌, ◌++◌, Memᴰ}
use lib.ListN.{length, get_or, length-append}
use lib.Ieee.{Float}
use Rattle.std.specs.Prelude.{Option, Some, None}
use Rattle.std.specs.Option.{option_map_or}
use Rattle.levels.specs.declared.MipLevel.{MipLevel}
use Rattle.levels.specs.declared.Texture.{Texture}
use Rattle.levels.specs.declared.Wrap.{Wrap}
use Rattle.levels.specs.declared.Filter.{Filter}
use Rattle.levels.specs.declared.Filter.TheVariants.{Nearest, Linear}
use Rattle.levels.specs.Levels.{level_of, complete}
use Rattle.mipmaps.specs.declared.Chosen.{Chosen}
use Rattle.mipmaps.specs.declared.Coordinates.{Coordinates}
use Rattle.sampler.specs.Addresses.{texel_addresses, nearest_addresses, linear_addresses, filter_addresses, chosen_addresses, levels_for, addresses_of, bytes_at}
use Rattle.sampler.specs.Samples.{taken, count_of, texel_from, sample_of}

-- ---- how many: four of a nearest sample and sixteen of a linear one, doubled between two levels, none where level 0 is incomplete
pub filter_count : (f : Filter) (m : MipLevel) (ws wt : Wrap) (s t : Float) → length (filter_addresses f m ws wt s t) ≡ taken f
unfolding filter_addresses nearest_addresses linear_addresses texel_addresses
filter_count Nearest m ws wt s t = refl
filter_count Linear m ws wt s t = refl

pub chosen_count : (x : Texture) (c : Chosen) (s t : Float) → length (chosen_addresses x c s t) ≡ count_of c
unfolding chosen_addresses
chosen_count x c s t = go c.part
  where
    go : (o : Option ℕ) → length (option_map_or (λ (part : ℕ). filter_addresses c.filter (level_of x c.level) x.wrap_s x.wrap_t s t ++ filter_addresses c.filter (level_of x (c.level + 1)) x.wrap_s x.wrap_t s t) o (filter_addresses c.filter (level_of x c.level) x.wrap_s x.wrap_t s t))
        ≡ option_map_or (λ (part : ℕ). taken c.filter + taken c.filter) o (taken c.filter)
    go None = filter_count c.filter (level_of x c.level) x.wrap_s x.wrap_t s t
    go (Some part) =
        length-append (filter_addresses c.filter (level_of x c.level) x.wrap_s x.wrap_t s t) (filter_addresses c.filter (level_of x (c.level + 1)) x.wrap_s x.wrap_t s t)
        ∙ ap₂ (λ (m n : ℕ). m + n) (filter_count c.filter (level_of x c.level) x.wrap_s x.wrap_t s t) (filter_count c.filter (level_of x (c.level + 1)) x.wrap_s x.wrap_t s t)

pub address_count : (x : Texture) (p : Coordinates) → length (addresses_of x p) ≡ cond (complete (level_of x 0)) (count_of (levels_for x p)) 0
unfolding addresses_of
address_count x p = go (complete (level_of x 0))
  where
    go : (b : Bool) → length (cond b (chosen_addresses x (levels_for x p) p.s p.t) []) ≡ cond b (count_of (levels_for x p)) 0
    go true = chosen_count x (levels_for x p) p.s p.t
    go false = refl

-- ---- two stores with the same bytes at these addresses give the same texel
pub same_bytes : (store other l : List ℕ) → ((a : ℕ) → Memᴰ a l → get_or store a 0 ≡ get_or other a 0) → bytes_at store l ≡ bytes_at other l
same_bytes store other [] h = refl
same_bytes store other (a ∷ l) h = ap₂ (λ (b : ℕ) (r : List ℕ). b ∷ r) (h a (Memᴰ.head refl)) (same_bytes store other l (λ b m. h b (Memᴰ.tail m)))

pub texel_of_bytes : (store other : List ℕ) (x : Texture) (p : Coordinates) → bytes_at store (addresses_of x p) ≡ bytes_at other (addresses_of x p) → sample_of store x p ≡ sample_of other x p
unfolding sample_of
texel_of_bytes store other x p e = ap (λ (b : List ℕ). texel_from x p b) e

pub same_texel : (store other : List ℕ) (x : Texture) (p : Coordinates) → ((a : ℕ) → Memᴰ a (addresses_of x p) → get_or store a 0 ≡ get_or other a 0) → sample_of store x p ≡ sample_of other x p
same_texel store other x p h = texel_of_bytes store other x p (same_bytes store other (addresses_of x p) h)
