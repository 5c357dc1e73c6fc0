-- Which bytes of the store a define, a patch and a sample touch: those of levels of the record. Assumes nothing.
use Rattle.std.specs.Prelude.{Option, Some, None}
use Rattle.std.specs.Option.{MatchOption, option_map_or}
use mathlib.Core.Path.{◌≡◌, refl, ◌∙◌}
use mathlib.Core.Logic.{◌⊎◌, inl, inr}
use mathlib.Core.Bool.{Bool, true, false, cond}
use mathlib.Core.List.{List, [], ◌∷◌, ◌++◌}
use Prim.Native.Nat.{ℕ, zero, suc, ◌+◌, ◌*◌, ◌≤◌, ◌<◌}
use native.Mathlib.Decide.{dec_lt, ℕ_discrete}
use native.Mathlib.Omega.{arith}
use lib.Dec.{leb}
use lib.ListN.{length, get_or, replicate, length-set, get_or-eq_default}
use lib.Ieee.{Float}
use borrow.Author.Tests.{leb-true, ltb-true, le-leb, lt-ltb}
use Rattle.std.proofs.lemmas.Bool.{false≢true}
use Rattle.lists.proofs.Choice.{was_true}
use Rattle.lists.proofs.Rows.{row_in}
use Rattle.lists.proofs.Tables.{length_tab}
use Rattle.levels.specs.declared.MipLevel.{MipLevel}
use Rattle.levels.specs.declared.Texture.{Texture}
use Rattle.levels.specs.declared.Wrap.{Wrap}
use Rattle.levels.specs.declared.Filter.{Filter}
use Rattle.levels.specs.declared.Filter.TheVariants.{Nearest, Linear}
use Rattle.levels.specs.Levels.{absent, new_texture, level_at, levels_of, level_of, size_of, complete, Fits, valid_of}
use Rattle.levels.proofs.Valid.{valid_level, valid_chain, length_levels, complete_present, complete_wide, complete_high}
use Rattle.texture.specs.Define.{stay, stay_at, enter_level, define_record, in_run}
use Rattle.texture.specs.Patch.{row_place, in_rows}
use Rattle.texture.proofs.Validity.{define_enters, define_drops, define_keeps, define_keeps_all}
use Rattle.coords.specs.Coords.{first_of, second_of}
use Rattle.coords.proofs.Sides.{coord_below, first_below, second_below}
use Rattle.mipmaps.specs.declared.Chosen.{Chosen}
use Rattle.mipmaps.specs.declared.Coordinates.{Coordinates}
use Rattle.mipmaps.specs.Mipmaps.{Within}
use Rattle.mipmaps.proofs.Choices.{chosen_within}
use Rattle.sampler.specs.Addresses.{index_of, texel_addresses, nearest_addresses, linear_addresses, filter_addresses, levels_for, chosen_addresses, addresses_of}
use Rattle.sampler.proofs.Indices.{index_in}
use Rattle.isolation.specs.Machine.{In}
use Rattle.frames.proofs.Fragments.{in_either}
use Rattle.orders.specs.Plans.{InLevel}

-- ---- runs

pub is_in_run : (place n b : ℕ) → place ≤ b → b < place + n → in_run place n b ≡ true
is_in_run place n b h k = rw (le-leb place b h, lt-ltb b (place + n) k)

pub run_in : (place n b : ℕ) → in_run place n b ≡ true → (place ≤ b) × (b < place + n)
run_in place n b e = let a = was_true (leb place b) e false≢true in (leb-true place b a.0, ltb-true b (place + n) a.1)

-- ---- the bytes of a sample

join : {C : Type 0} (b : ℕ) (xs ys : List ℕ) → (In b xs → C) → (In b ys → C) → In b (xs ++ ys) → C
join {C} b xs ys f g i = go (in_either b xs ys i)
  where
    go : In b xs ⊎ In b ys → C
    go (inl j) = f j
    go (inr j) = g j

module _ (m : MipLevel) (here : m.present ≡ true) where
  texel_in : (x y b : ℕ) → x < m.width → y < m.height → In b (texel_addresses m x y) → InLevel m b
  unfolding texel_addresses size_of
  texel_in x y b h k i = (here, is_in_run m.place (m.height * m.width * 4) b (low (m.place + index_of m.width x y) (omega arith) i) (high (m.place + index_of m.width x y) (omega (arith, room)) i))
    where
      room : index_of m.width x y + 4 ≤ m.height * m.width * 4
      room = index_in m.width m.height x y h k

      low : (a : ℕ) → m.place ≤ a → In b (a ∷ (a + 1) ∷ (a + 2) ∷ (a + 3) ∷ []) → m.place ≤ b
      low a q (inl e) = omega (arith, e)
      low a q (inr (inl e)) = omega (arith, e)
      low a q (inr (inr (inl e))) = omega (arith, e)
      low a q (inr (inr (inr (inl e)))) = omega (arith, e)
      low a q (inr (inr (inr (inr e)))) = absurd e

      high : (a : ℕ) → a + 4 ≤ m.place + m.height * m.width * 4 → In b (a ∷ (a + 1) ∷ (a + 2) ∷ (a + 3) ∷ []) → b < m.place + m.height * m.width * 4
      high a q (inl e) = omega (arith, e, q)
      high a q (inr (inl e)) = omega (arith, e, q)
      high a q (inr (inr (inl e))) = omega (arith, e, q)
      high a q (inr (inr (inr (inl e)))) = omega (arith, e, q)
      high a q (inr (inr (inr (inr e)))) = absurd e

  module _ (wide : 0 < m.width) (high : 0 < m.height) (w : m.width ≤ 1024) (h : m.height ≤ 1024) where
    filter_in : (f : Filter) (ws wt : Wrap) (s t : Float) (b : ℕ) → In b (filter_addresses f m ws wt s t) → InLevel m b
    unfolding filter_addresses nearest_addresses linear_addresses
    filter_in Nearest ws wt s t b i = texel_in _ _ b (coord_below m.width wide w ws s) (coord_below m.height high h wt t) i
    filter_in Linear ws wt s t b i =
        join b (texel_addresses m (first_of ws s m.width) (first_of wt t m.height)) _ (texel_in _ _ b (first_below m.width wide w ws s) (first_below m.height high h wt t))
        (join b (texel_addresses m (second_of ws s m.width) (first_of wt t m.height)) _ (texel_in _ _ b (second_below m.width wide w ws s) (first_below m.height high h wt t))
        (join b (texel_addresses m (first_of ws s m.width) (second_of wt t m.height)) _ (texel_in _ _ b (first_below m.width wide w ws s) (second_below m.height high h wt t))
        (texel_in (second_of ws s m.width) (second_of wt t m.height) b (second_below m.width wide w ws s) (second_below m.height high h wt t)))) i

-- the byte is in one of the record's levels
pub record Somewhere (x : Texture) (b : ℕ) : Type 0 where
  pub level : ℕ
  pub inside : InLevel (level_of x level) b

module _ (n : ℕ) (x : Texture) (valid : valid_of n x ≡ true) (whole : complete (level_of x 0) ≡ true) where
  level_in : (k : ℕ) → k ≤ x.max_mipmap_level → (f : Filter) (s t : Float) (b : ℕ) → In b (filter_addresses f (level_of x k) x.wrap_s x.wrap_t s t) → Somewhere x b
  level_in k h f s t b i =
      let c : complete (level_of x k) ≡ true = valid_chain n x valid whole k h in
      let p : (level_of x k).present ≡ true = complete_present (level_of x k) c in
      let z : Fits n (level_of x k) = valid_level n x valid k p in
      record { level = k; inside = filter_in (level_of x k) p (complete_wide (level_of x k) c) (complete_high (level_of x k) c) z.wide z.high f x.wrap_s x.wrap_t s t b i }

  chosen_in : (c : Chosen) → Within x.max_mipmap_level c → (s t : Float) (b : ℕ) → In b (chosen_addresses x c s t) → Somewhere x b
  unfolding chosen_addresses
  chosen_in c h s t b i = go c.part h i
    where
      at : ℕ → List ℕ
      at k = filter_addresses c.filter (level_of x k) x.wrap_s x.wrap_t s t

      pick : c.level + 1 ≤ x.max_mipmap_level → In b (at c.level) ⊎ In b (at (c.level + 1)) → Somewhere x b
      pick q (inl j) = level_in c.level (omega (arith, q)) c.filter s t b j
      pick q (inr j) = level_in (c.level + 1) q c.filter s t b j

      go : (o : Option ℕ) → MatchOption o (c.level ≤ x.max_mipmap_level) (λ (part : ℕ). (c.level + 1 ≤ x.max_mipmap_level) × (part < 256))
          → In b (option_map_or (λ (part : ℕ). at c.level ++ at (c.level + 1)) o (at c.level)) → Somewhere x b
      go None q j = level_in c.level q c.filter s t b j
      go (Some part) q j = pick q.0 (in_either b (at c.level) (at (c.level + 1)) j)

-- a sample of a valid record takes bytes of its levels
pub sample_in : (n : ℕ) (x : Texture) (p : Coordinates) (b : ℕ) → valid_of n x ≡ true → In b (addresses_of x p) → Somewhere x b
unfolding addresses_of levels_for
sample_in n x p b v i = go (complete (level_of x 0)) refl i
  where
    go : (c : Bool) → complete (level_of x 0) ≡ c → In b (cond c (chosen_addresses x (levels_for x p) p.s p.t) []) → Somewhere x b
    go true e j = chosen_in n x v e (levels_for x p) (chosen_within (level_of x 0).width (level_of x 0).height x.max_mipmap_level x.min_filter x.mag_filter p) p.s p.t b j
    go false e j = absurd j

-- ---- the bytes of a patch

row_inside : (m : MipLevel) (x y w r b : ℕ) → x + w ≤ m.width → y + r < m.height → in_run (row_place m x y r) (w * 4) b ≡ true → in_run m.place (size_of m) b ≡ true
unfolding row_place size_of
row_inside m x y w r b e f k =
    let z = run_in (row_place m x y r) (w * 4) b k in
    is_in_run m.place (m.height * m.width * 4) b (omega (arith, z.0)) (omega (arith, z.1, row_in (y + r) m.height m.width x w f e))

pub rows_in : (m : MipLevel) (x y w h : ℕ) → m.present ≡ true → x + w ≤ m.width → (r : ℕ) → y + r ≤ m.height → (b : ℕ) → in_rows m x y w r b ≡ true → InLevel m b
unfolding in_rows
rows_in m x y w h q e zero f b i = absurd (false≢true i)
rows_in m x y w h q e (suc r) f b i = go (in_run (row_place m x y r) (w * 4) b) refl i (rows_in m x y w h q e r (omega arith) b)
  where
    go : (c : Bool) → in_run (row_place m x y r) (w * 4) b ≡ c → cond c true (in_rows m x y w r b) ≡ true → (in_rows m x y w r b ≡ true → InLevel m b) → InLevel m b
    go true k j rest = (q, row_inside m x y w r b e (omega arith) k)
    go false k j rest = rest j

-- ---- the levels after a define

absent_out : (b : ℕ) → InLevel absent b → ⊥
absent_out b i = false≢true i.0

past_end : (t : Texture) (k w h place : ℕ) (j : ℕ) → (j < 11 → ⊥) → level_of (define_record t k (level_at place w h)) j ≡ absent
unfolding level_of define_record enter_level stay
past_end t k w h place j n =
    let l : length (enter_level (levels_of t.levels) k (level_at place w h)) ≡ 11 = length-set (stay (levels_of t.levels) k) k (level_at place w h) ∙ length_tab (stay_at (levels_of t.levels) k) 11 in
    get_or-eq_default (levels_of (enter_level (levels_of t.levels) k (level_at place w h))) absent
    (omega (arith, l, length_levels (enter_level (levels_of t.levels) k (level_at place w h)) (omega (arith, l))))

-- a byte of a level is one of the new level's, or one of that level's as it was
pub define_in : (t : Texture) (k w h place : ℕ) → k < 11 → (j b : ℕ) → InLevel (level_of (define_record t k (level_at place w h)) j) b
    → InLevel (level_at place w h) b ⊎ InLevel (level_of t j) b
define_in t k w h place i j b z = go (ℕ_discrete j k) (dec_lt j k) (dec_lt j 11) (ℕ_discrete k 0)
  where
    go : Dec (j ≡ k) → Dec (j < k) → Dec (j < 11) → Dec (k ≡ 0) → InLevel (level_at place w h) b ⊎ InLevel (level_of t j) b
    go (yes e) y u v = inl (rw (e, define_enters t k w h place i) at z)
    go (no n) (yes y) u v = inr (rw (define_keeps t k w h place i j y) at z)
    go (no n) (no y) (no u) v = absurd (absent_out b (rw (past_end t k w h place j u) at z))
    go (no n) (no y) (yes u) (yes v) = inr (rw (define_keeps_all t k w h place i j v (omega arith) u) at z)
    go (no n) (no y) (yes u) (no v) = absurd (absent_out b (rw (define_drops t k w h place i j (omega arith) (omega arith) u) at z))

-- ---- a new record

absent_all : (n k : ℕ) → get_or (replicate n absent) k absent ≡ absent
absent_all zero k = refl
absent_all (suc n) zero = refl
absent_all (suc n) (suc k) = absent_all n k

-- it has no level with a byte: level 0 is 0 by 0, and there is no other
pub new_out : (k b : ℕ) → InLevel (level_of new_texture k) b → ⊥
unfolding level_of levels_of new_texture size_of
new_out zero b i = let z = run_in 0 0 b i.1 in omega (arith, z.1)
new_out (suc k) b i = absent_out b (rw (absent_all 10 k) at i)
