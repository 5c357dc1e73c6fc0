-- A level's texels, read from the part of the store that holds it, are those at its addresses in the store. Assumes nothing.
use Prim.Native.Nat.{ℕ, ◌+◌, ◌*◌, ◌≤◌, ◌<◌}
use mathlib.Core.Path.{◌≡◌, refl, ◌∙◌}
use mathlib.Core.List.{List}
use native.Mathlib.Nat.{add_assoc}
use native.Mathlib.Omega.{arith}
use lib.ListN.{length, get_or, length-take, length-drop}
use lib.Seq.{get_or-take, get_or-drop}
use lib.Ieee.{Float}
use Rattle.levels.specs.declared.MipLevel.{MipLevel}
use Rattle.levels.specs.declared.Wrap.{Wrap}
use Rattle.levels.specs.declared.Filter.TheVariants.{Nearest, Linear}
use Rattle.levels.specs.Levels.{Fits, size_of, texels_of}
use Rattle.coords.specs.Coords.{first_of, second_of, weight_of}
use Rattle.coords.proofs.Sides.{coord_below, first_below, second_below}
use Rattle.sampler.specs.declared.Texel.{Texel}
use Rattle.sampler.specs.Texels.{texel_at, linear_texel}
use Rattle.sampler.specs.Addresses.{index_of, texel_addresses, nearest_addresses, linear_addresses, filter_addresses, bytes_at}
use Rattle.sampler.specs.Samples.{Image, nearest_in, linear_in, filter_texel}
use Rattle.sampler.proofs.Indices.{index_in}

pub level_image : (store : List ℕ) (m : MipLevel) → Fits (length store) m → 0 < m.width → 0 < m.height → Image m.width m.height (texels_of store m)
unfolding texels_of size_of
level_image store m f w h =
    let within : m.place + m.height * m.width * 4 ≤ length store = f.within in
    record { some_wide = w; wide = f.wide; some_high = h; high = f.high; bytes = simp (length-take, length-drop) (omega arith) }

module _ (store : List ℕ) (m : MipLevel) where
  byte_in : (i j : ℕ) → i + j < size_of m → get_or (texels_of store m) (i + j) 0 ≡ get_or store (m.place + i + j) 0
  unfolding texels_of
  byte_in i j h = rw (get_or-take, get_or-drop, add_assoc)

  first_in : (i : ℕ) → i < size_of m → get_or (texels_of store m) i 0 ≡ get_or store (m.place + i) 0
  unfolding texels_of
  first_in i h = rw (get_or-take, get_or-drop)

  texel_in : (x y : ℕ) → index_of m.width x y + 4 ≤ size_of m → texel_at (texels_of store m) (index_of m.width x y) ≡ texel_at (bytes_at store (texel_addresses m x y)) 0
  unfolding texel_at texel_addresses
  texel_in x y h =
      let i = index_of m.width x y in
      let b0 : get_or (texels_of store m) i 0 ≡ get_or store (m.place + i) 0 = first_in i (omega arith) in
      let b1 : get_or (texels_of store m) (i + 1) 0 ≡ get_or store (m.place + i + 1) 0 = byte_in i 1 (omega arith) in
      let b2 : get_or (texels_of store m) (i + 2) 0 ≡ get_or store (m.place + i + 2) 0 = byte_in i 2 (omega arith) in
      let b3 : get_or (texels_of store m) (i + 3) 0 ≡ get_or store (m.place + i + 3) 0 = byte_in i 3 (omega arith) in
      rw (b0, b1, b2, b3)

  module _ (ws wt : Wrap) (s t : Float) (f : Fits (length store) m) (sw : 0 < m.width) (sh : 0 < m.height) where
    inside : (x y : ℕ) → x < m.width → y < m.height → index_of m.width x y + 4 ≤ size_of m
    unfolding size_of
    inside x y h k = index_in m.width m.height x y h k

    pub nearest_is : nearest_in (texels_of store m) m.width m.height ws wt s t ≡ filter_texel Nearest m s t (bytes_at store (filter_addresses Nearest m ws wt s t))
    unfolding nearest_in filter_texel filter_addresses nearest_addresses
    nearest_is = texel_in _ _ (inside _ _ (coord_below m.width sw f.wide ws s) (coord_below m.height sh f.high wt t))

    -- the texel at x, y, from its own four bytes
    own : ℕ → ℕ → Texel
    own x y = texel_at (bytes_at store (texel_addresses m x y)) 0

    by_texels : linear_in (texels_of store m) m.width m.height ws wt s t
        ≡ linear_texel (weight_of s m.width) (weight_of t m.height) (own (first_of ws s m.width) (first_of wt t m.height)) (own (second_of ws s m.width) (first_of wt t m.height))
        (own (first_of ws s m.width) (second_of wt t m.height)) (own (second_of ws s m.width) (second_of wt t m.height))
    unfolding linear_in own
    by_texels =
        let x0 = first_below m.width sw f.wide ws s in
        let x1 = second_below m.width sw f.wide ws s in
        let y0 = first_below m.height sh f.high wt t in
        let y1 = second_below m.height sh f.high wt t in
        rw (texel_in _ _ (inside _ _ x0 y0), texel_in _ _ (inside _ _ x1 y0), texel_in _ _ (inside _ _ x0 y1), texel_in _ _ (inside _ _ x1 y1))

    as_bytes : linear_texel (weight_of s m.width) (weight_of t m.height) (own (first_of ws s m.width) (first_of wt t m.height)) (own (second_of ws s m.width) (first_of wt t m.height))
        (own (first_of ws s m.width) (second_of wt t m.height)) (own (second_of ws s m.width) (second_of wt t m.height))
        ≡ filter_texel Linear m s t (bytes_at store (filter_addresses Linear m ws wt s t))
    unfolding own filter_texel filter_addresses linear_addresses texel_addresses texel_at
    as_bytes = refl

    pub linear_is : linear_in (texels_of store m) m.width m.height ws wt s t ≡ filter_texel Linear m s t (bytes_at store (filter_addresses Linear m ws wt s t))
    linear_is = by_texels ∙ as_bytes
