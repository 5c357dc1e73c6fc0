-- A sample of one level or of two, from the levels' own samples. Assumes nothing.
use Prim.Native.Nat.{ℕ, ◌+◌}
use mathlib.Core.Path.{◌≡◌, refl, sym, ap, ◌∙◌}
use mathlib.Core.Bool.{true, false}
use mathlib.Core.List.{List, ◌++◌, map-append}
use lib.ListN.{length, get_or, take, drop}
use lib.Seq.{take_at, drop_at}
use lib.Ieee.{Float}
use Rattle.std.specs.Prelude.{Some, None}
use Rattle.lists.proofs.Choice.{no}
use Rattle.levels.specs.declared.MipLevel.{MipLevel}
use Rattle.levels.specs.declared.Texture.{Texture}
use Rattle.levels.specs.declared.Wrap.{Wrap}
use Rattle.levels.specs.declared.Filter.{Filter}
use Rattle.levels.specs.declared.Filter.TheVariants.{Nearest, Linear}
use Rattle.levels.specs.Levels.{level_of, complete, valid_of}
use Rattle.mipmaps.specs.declared.Chosen.{Chosen}
use Rattle.mipmaps.specs.declared.Coordinates.{Coordinates}
use Rattle.sampler.specs.declared.Texel.{Texel}
use Rattle.sampler.specs.Texels.{white, part_of, mix_texel}
use Rattle.sampler.specs.Addresses.{texel_addresses, nearest_addresses, linear_addresses, filter_addresses, chosen_addresses, levels_for, addresses_of, bytes_at}
use Rattle.sampler.specs.Samples.{taken, filter_texel, chosen_texel, level_texel, texel_from, sample_of, sample_check, sample_call, sampled, refused}

filter_bytes : (store : List ℕ) (f : Filter) (m : MipLevel) (ws wt : Wrap) (s t : Float) → length (bytes_at store (filter_addresses f m ws wt s t)) ≡ taken f
unfolding filter_addresses nearest_addresses linear_addresses texel_addresses
filter_bytes store Nearest m ws wt s t = refl
filter_bytes store Linear m ws wt s t = refl

module _ (store : List ℕ) (x : Texture) (s t : Float) where
  pub chosen_one : (c : Chosen) → c.part ≡ None → level_texel store x c.level c.filter s t ≡ chosen_texel x c s t (bytes_at store (chosen_addresses x c s t))
  unfolding level_texel chosen_texel chosen_addresses
  chosen_one c e = rw e

  addresses : Filter → ℕ → List ℕ
  addresses f k = filter_addresses f (level_of x k) x.wrap_s x.wrap_t s t

  apart : (f : Filter) (k j : ℕ) → bytes_at store (addresses f k ++ addresses f j) ≡ bytes_at store (addresses f k) ++ bytes_at store (addresses f j)
  apart f k j = map-append (λ (a : ℕ). get_or store a 0) (addresses f k) (addresses f j)

  below : (f : Filter) (k j : ℕ) → take (taken f) (bytes_at store (addresses f k ++ addresses f j)) ≡ bytes_at store (addresses f k)
  unfolding addresses
  below f k j = ap (λ (l : List ℕ). take (taken f) l) (apart f k j) ∙ take_at (bytes_at store (addresses f k)) (bytes_at store (addresses f j)) (taken f) (filter_bytes store f (level_of x k) x.wrap_s x.wrap_t s t)

  above : (f : Filter) (k j : ℕ) → drop (taken f) (bytes_at store (addresses f k ++ addresses f j)) ≡ bytes_at store (addresses f j)
  unfolding addresses
  above f k j = ap (λ (l : List ℕ). drop (taken f) l) (apart f k j) ∙ drop_at (bytes_at store (addresses f k)) (bytes_at store (addresses f j)) (taken f) (filter_bytes store f (level_of x k) x.wrap_s x.wrap_t s t)

  chosen_two : (c : Chosen) (part : ℕ) → c.part ≡ Some part
      → mix_texel (part_of part) (level_texel store x c.level c.filter s t) (level_texel store x (c.level + 1) c.filter s t) ≡ chosen_texel x c s t (bytes_at store (chosen_addresses x c s t))
  unfolding level_texel chosen_texel chosen_addresses addresses
  chosen_two c part e =
      let k = c.level in
      let f = c.filter in
      rw e
      (ap (λ (l : List ℕ). mix_texel (part_of part) (filter_texel f (level_of x k) s t l) (filter_texel f (level_of x (k + 1)) s t (bytes_at store (addresses f (k + 1))))) (sym (below f k (k + 1)))
      ∙ ap (λ (l : List ℕ). mix_texel (part_of part) (filter_texel f (level_of x k) s t (take (taken f) (bytes_at store (addresses f k ++ addresses f (k + 1))))) (filter_texel f (level_of x (k + 1)) s t l)) (sym (above f k (k + 1))))

  pub chosen_pair : (c : Chosen) (part : ℕ) → c.part ≡ Some part → (a b : Texel) → a ≡ level_texel store x c.level c.filter s t → b ≡ level_texel store x (c.level + 1) c.filter s t
      → mix_texel (part_of part) a b ≡ chosen_texel x c s t (bytes_at store (chosen_addresses x c s t))
  chosen_pair c part e a b g h = rw (g, h) (chosen_two c part e)

module _ (store : List ℕ) (x : Texture) (p : Coordinates) where
  pub incomplete : complete (level_of x 0) ≡ false → white ≡ sample_of store x p
  unfolding sample_of texel_from
  incomplete h = no _ h refl

  pub complete_sample : complete (level_of x 0) ≡ true → (c : Chosen) → c ≡ levels_for x p → chosen_texel x c p.s p.t (bytes_at store (chosen_addresses x c p.s p.t)) ≡ sample_of store x p
  unfolding sample_of texel_from addresses_of
  complete_sample h c e = rw (e, h)

  pub valid_call : valid_of (length store) x ≡ true → sampled (sample_of store x p) ≡ sample_call store x p
  unfolding sample_call sample_check
  valid_call h = rw h

  pub invalid_call : valid_of (length store) x ≡ false → refused 8 ≡ sample_call store x p
  unfolding sample_call sample_check
  invalid_call h = rw h
