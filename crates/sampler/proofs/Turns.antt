-- The texels of one level or of two, read in a loop, are those that a sample takes. Assumes nothing.
use Prim.Native.Nat.{ℕ, ◌+◌, ◌-◌, ◌≤◌, ◌<◌}
use mathlib.Core.Path.{◌≡◌, ap, ◌∙◌}
use mathlib.Core.List.{List}
use native.Mathlib.Omega.{arith}
use lib.ListN.{get_or, length, take, drop, length-take, length-drop}
use lib.Seq.{get_or-take, get_or-drop}
use lib.Ieee.{Float}
use Rattle.std.specs.Prelude.{Option, Some, None}
use Rattle.std.specs.Option.{MatchOption, is_some}
use Rattle.std.specs.Int.{from_bool}
use Rattle.levels.specs.declared.MipLevel.{MipLevel}
use Rattle.levels.specs.declared.Texture.{Texture}
use Rattle.levels.specs.declared.Filter.{Filter}
use Rattle.levels.specs.Levels.{absent}
use Rattle.mipmaps.specs.declared.Chosen.{Chosen}
use Rattle.mipmaps.specs.Mipmaps.{Within}
use Rattle.sampler.specs.declared.Texel.{Texel}
use Rattle.sampler.specs.Addresses.{filter_addresses, bytes_at}
use Rattle.sampler.specs.Samples.{filter_texel, level_texel}
use Rattle.sampler.proofs.Records.{level_sample}

-- where the loop over the levels ends
pub end_in : (top : ℕ) (c : Chosen) → Within top c → c.level + (1 + from_bool (is_some c.part)) ≤ top + 1
end_in top c w = go c.part w
  where
    go : (o : Option ℕ) → MatchOption o (c.level ≤ top) (λ (part : ℕ). (c.level + 1 ≤ top) × (part < 256)) → c.level + (1 + from_bool (is_some o)) ≤ top + 1
    go None w = omega arith
    go (Some part) w = omega (arith, w.0)

-- the levels of a sample among those of its texture
pub part_at : (x : Texture) (a n i : ℕ) → i < n → get_or (take n (drop a x.levels)) i absent ≡ get_or x.levels (a + i) absent
part_at x a n i h = rw (get_or-take, get_or-drop)

pub part_long : (x : Texture) (a n : ℕ) → a + n ≤ length x.levels → length (take n (drop a x.levels)) ≡ n
part_long x a n h = simp (length-take, length-drop) (omega arith)

-- and how many they are, for a loop that runs r more turns than one
pub turns : (x : Texture) (c : Chosen) (r : ℕ) → length x.levels ≡ 11 → x.max_mipmap_level ≤ 10 → Within x.max_mipmap_level c → r ≡ from_bool (is_some c.part)
    → length (take (c.level + (1 + r) - c.level) (drop c.level x.levels)) ≡ 1 + r
turns x c r long few w q =
    part_long x c.level (c.level + (1 + r) - c.level) (omega (arith, q, end_in _ c w, long, few)) ∙ omega arith

-- what a turn of the loop finds
pub turned : (store : List ℕ) (x : Texture) (f : Filter) (s t : Float) (a n i : ℕ) → i < n → (y : Texel)
    → (let m = get_or (take n (drop a x.levels)) i absent in y ≡ filter_texel f m s t (bytes_at store (filter_addresses f m x.wrap_s x.wrap_t s t))) → (j : ℕ) → i + 1 ≡ j + 1 → y ≡ level_texel store x (a + j) f s t
turned store x f s t a n i l y z j h =
    z ∙ ap (λ (m : MipLevel). filter_texel f m s t (bytes_at store (filter_addresses f m x.wrap_s x.wrap_t s t))) (part_at x a n i l) ∙ level_sample store x (a + i) f s t
    ∙ ap (λ (k : ℕ). level_texel store x (a + k) f s t) (same i j h)
  where
    same : (k j : ℕ) → k + 1 ≡ j + 1 → k ≡ j
    same k j h = omega arith
