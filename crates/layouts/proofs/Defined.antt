-- What a define puts into a layout reads back as the record that it leaves. Assumes nothing.
use mathlib.Core.Bool.{Bool, true, false, cond}
use mathlib.Core.Path.{◌≡◌, refl, sym, ap, ◌∙◌}
use mathlib.Core.List.{List}
use mathlib.Core.Logic.{◌⊎◌, inl, inr}
use Prim.Native.Nat.{ℕ, zero, suc, ◌+◌, ◌*◌, ◌≤◌, ◌<◌}
use native.Mathlib.Nat.{le_refl, zero-add}
use native.Mathlib.Decide.{dec_lt}
use native.Mathlib.Omega.{arith}
use lib.ListN.{length, get_or}
use lib.Seq.{paste, length-paste}
use borrow.Author.Tests.{eq-eqb, ne_eqb, lt-ltb, le-ltb}
use Rattle.std.proofs.Common.{Some, w64}
use Rattle.std.specs.Int.{to_le_bytes}
use Rattle.std.proofs.lemmas.List.{places}
use Rattle.lists.specs.Lists.{iter}
use Rattle.levels.specs.declared.MipLevel.{MipLevel}
use Rattle.levels.specs.declared.Texture.{Texture}
use Rattle.levels.specs.Levels.{absent, level_at, levels_of, level_of}
use Rattle.levels.proofs.Lone.{kept_above}
use Rattle.texture.specs.Define.{stays, define_record}
use Rattle.texture.proofs.Validity.{define_puts, define_top_in, define_keeps, define_keeps_all}
use Rattle.layouts.specs.Words.{word, long}
use Rattle.layouts.specs.Records.{read_level, codes_known, read_texture, read_of, level_bytes, level_bytes_at, put_level, put_define}
use Rattle.layouts.proofs.Lone.{level_first, level_above}
use Rattle.layouts.proofs.RoundTrip.{word_same, long_same, long_digits, flag_back, width_back, height_back, place_back, length_level}

-- ---- a run of n bytes put at p

module _ (b : List ℕ) (p : ℕ) (s : List ℕ) (n : ℕ) (h : p + n ≤ length b) (e : n ≤ length s) where
  byte_before : (a : ℕ) → a < p → get_or (paste b p s n) a 0 ≡ get_or b a 0
  byte_before a k = grind (arith, places, h, k)

  byte_behind : (a : ℕ) → p + n ≤ a → get_or (paste b p s n) a 0 ≡ get_or b a 0
  byte_behind a k = grind (arith, places, h, k, e)

  pub byte_put : (j : ℕ) → j < n → get_or (paste b p s n) (p + j) 0 ≡ get_or s j 0
  byte_put j k = grind (arith, places, h, k, e)

  pub word_before : (w : ℕ) → w + 4 ≤ p → word (paste b p s n) w ≡ word b w
  word_before w k = word_same (paste b p s n) b w w (λ j i. byte_before (w + j) (omega arith))

  pub word_behind : (w : ℕ) → p + n ≤ w → word (paste b p s n) w ≡ word b w
  word_behind w k = word_same (paste b p s n) b w w (λ j i. byte_behind (w + j) (omega arith))

  pub long_before : (w : ℕ) → w + 8 ≤ p → long (paste b p s n) w ≡ long b w
  long_before w k = long_same (paste b p s n) b w w (λ j i. byte_before (w + j) (omega arith))

  long_behind : (w : ℕ) → p + n ≤ w → long (paste b p s n) w ≡ long b w
  long_behind w k = long_same (paste b p s n) b w w (λ j i. byte_behind (w + j) (omega arith))

  pub level_before : (i : ℕ) → i * 20 + 20 ≤ p → read_level (paste b p s n) i ≡ read_level b i
  unfolding read_level
  level_before i k = rw (word_before (i * 20) (omega arith), word_before (i * 20 + 4) (omega arith), word_before (i * 20 + 8) (omega arith), long_before (i * 20 + 12) (omega arith))

  level_behind : (i : ℕ) → p + n ≤ i * 20 → read_level (paste b p s n) i ≡ read_level b i
  unfolding read_level
  level_behind i k = rw (word_behind (i * 20) (omega arith), word_behind (i * 20 + 4) (omega arith), word_behind (i * 20 + 8) (omega arith), long_behind (i * 20 + 12) (omega arith))

-- a level's numbers fit their bytes
abbrev Small : MipLevel → Type 0
Small m = (m.width < 4294967296) × (m.height < 4294967296) × (m.place < 18446744073709551616)

-- level i put
module _ (b : List ℕ) (i : ℕ) (m : MipLevel) (h : i * 20 + 20 ≤ length b) (s : Small m) where
  put_at : (q j : ℕ) → q + j < 20 → get_or (paste b (i * 20) (level_bytes m) 20) (i * 20 + q + j) 0 ≡ get_or (level_bytes m) (q + j) 0
  unfolding level_bytes
  put_at q j k =
      let f : i * 20 + q + j ≡ i * 20 + (q + j) = omega arith in
      ap (λ (a : ℕ). get_or (paste b (i * 20) (level_bytes m) 20) a 0) f ∙ byte_put b (i * 20) (level_bytes m) 20 h (le_refl 20) (q + j) k

  level_put : read_level (paste b (i * 20) (level_bytes m) 20) i ≡ m
  unfolding read_level
  level_put =
      let c = paste b (i * 20) (level_bytes m) 20 in
      let f = word_same c (level_bytes m) (i * 20) 0 (λ j k. ap (λ (a : ℕ). get_or c a 0) (omega arith) ∙ put_at 0 j (omega arith)) in
      let w = word_same c (level_bytes m) (i * 20 + 4) 4 (λ j k. put_at 4 j (omega arith)) in
      let g = word_same c (level_bytes m) (i * 20 + 8) 8 (λ j k. put_at 8 j (omega arith)) in
      let p = long_same c (level_bytes m) (i * 20 + 12) 12 (λ j k. put_at 12 j (omega arith)) in
      rw (f, w, g, p, flag_back m, width_back m s.0, height_back m s.1, place_back m s.2)

-- ---- the levels

module _ (k : ℕ) (l : List MipLevel) (small : (i : ℕ) → i < 11 → stays k i ≡ false → Small (get_or l i absent)) where
  turn_length : (c : List ℕ) (n : ℕ) → n < 11 → length c ≡ 244 → length (put_level k l n c) ≡ 244
  unfolding put_level
  turn_length c n h e = go (stays k n)
    where
      go : (y : Bool) → length (cond y c (paste c (n * 20) (level_bytes_at l n) 20)) ≡ 244
      go true = e
      go false = length-paste c (n * 20) (level_bytes_at l n) 20 (omega (arith, e)) (rw (length_level l n) (le_refl 20)) ∙ e

  turn_before : (c : List ℕ) (n i : ℕ) → n < 11 → i < n → length c ≡ 244 → read_level (put_level k l n c) i ≡ read_level c i
  unfolding put_level
  turn_before c n i h o e = go (stays k n)
    where
      go : (y : Bool) → read_level (cond y c (paste c (n * 20) (level_bytes_at l n) 20)) i ≡ read_level c i
      go true = refl
      go false = level_before c (n * 20) (level_bytes_at l n) 20 (omega (arith, e)) (rw (length_level l n) (le_refl 20)) i (omega arith)

  turn_behind : (c : List ℕ) (n i : ℕ) → i < 11 → n < i → length c ≡ 244 → read_level (put_level k l n c) i ≡ read_level c i
  unfolding put_level
  turn_behind c n i h o e = go (stays k n)
    where
      go : (y : Bool) → read_level (cond y c (paste c (n * 20) (level_bytes_at l n) 20)) i ≡ read_level c i
      go true = refl
      go false = level_behind c (n * 20) (level_bytes_at l n) 20 (omega (arith, e)) (rw (length_level l n) (le_refl 20)) i (omega arith)

  turn_here : (c : List ℕ) (n : ℕ) → n < 11 → length c ≡ 244 → read_level (put_level k l n c) n ≡ cond (stays k n) (read_level c n) (get_or l n absent)
  unfolding put_level level_bytes_at
  turn_here c n h e = go (stays k n) refl
    where
      go : (y : Bool) → stays k n ≡ y → read_level (cond y c (paste c (n * 20) (level_bytes (get_or l n absent)) 20)) n ≡ cond y (read_level c n) (get_or l n absent)
      go true q = refl
      go false q = level_put c n (get_or l n absent) (omega (arith, e)) (small n h q)

  turn_word : (c : List ℕ) (n i : ℕ) → n < 11 → 220 ≤ i → length c ≡ 244 → word (put_level k l n c) i ≡ word c i
  unfolding put_level
  turn_word c n i h o e = go (stays k n)
    where
      go : (y : Bool) → word (cond y c (paste c (n * 20) (level_bytes_at l n) 20)) i ≡ word c i
      go true = refl
      go false = word_behind c (n * 20) (level_bytes_at l n) 20 (omega (arith, e)) (rw (length_level l n) (le_refl 20)) i (omega arith)

  module _ (b : List ℕ) (size : length b ≡ 244) where
    after_length : (n : ℕ) → n ≤ 11 → length (iter n (put_level k l) b) ≡ 244
    unfolding iter
    after_length zero h = size
    after_length (suc n) h = turn_length (iter n (put_level k l) b) n (omega arith) (after_length n (omega arith))

    after_word : (n i : ℕ) → n ≤ 11 → 220 ≤ i → word (iter n (put_level k l) b) i ≡ word b i
    unfolding iter
    after_word zero i h o = refl
    after_word (suc n) i h o = turn_word (iter n (put_level k l) b) n i (omega arith) o (after_length n (omega arith)) ∙ after_word n i (omega arith) o

    untouched : (n i : ℕ) → n ≤ i → i < 11 → read_level (iter n (put_level k l) b) i ≡ read_level b i
    unfolding iter
    untouched zero i h o = refl
    untouched (suc n) i h o =
        turn_behind (iter n (put_level k l) b) n i o (omega arith) (after_length n (omega arith)) ∙ untouched n i (omega arith) o

    touched : (n i : ℕ) → i < n → n ≤ 11 → read_level (iter n (put_level k l) b) i ≡ cond (stays k i) (read_level b i) (get_or l i absent)
    unfolding iter
    touched zero i h o = absurd (omega arith)
    touched (suc n) i h o = go (λ q. touched n i q (omega arith)) (dec_lt i n)
      where
        go : (i < n → read_level (iter n (put_level k l) b) i ≡ cond (stays k i) (read_level b i) (get_or l i absent)) → Dec (i < n) → read_level (iter (suc n) (put_level k l) b) i ≡ cond (stays k i) (read_level b i) (get_or l i absent)
        go f (yes q) = turn_before (iter n (put_level k l) b) n i (omega arith) q (after_length n (omega arith)) ∙ f q
        go f (no q) =
            let e : i ≡ n = omega arith in
            rw e (turn_here (iter n (put_level k l) b) n (omega arith) (after_length n (omega arith)) ∙ rw (untouched n n (le_refl n) (omega arith)) refl)

-- the layout after a define: each level is read as found, or as the record has it
module _ (k : ℕ) (t : Texture) (small : (i : ℕ) → i < 11 → stays k i ≡ false → Small (get_or t.levels i absent)) (b : List ℕ) (size : length b ≡ 244) where
  top_bytes : List ℕ
  top_bytes = to_le_bytes w64 t.max_mipmap_level

  room : 220 + 8 ≤ length (iter 11 (put_level k t.levels) b)
  room = omega (arith, after_length k t.levels small b size 11 (le_refl 11))

  level_read : (i : ℕ) → i < 11 → read_level (put_define k t b) i ≡ cond (stays k i) (read_level b i) (get_or t.levels i absent)
  unfolding put_define
  level_read i h =
      level_before (iter 11 (put_level k t.levels) b) 220 (to_le_bytes w64 t.max_mipmap_level) 8 room (le_refl 8) i (omega arith)
      ∙ touched k t.levels small b size 11 i h (le_refl 11)

-- The levels of the record that the layout holds then are those that the define leaves. Its numbers are u32 and usize.
module _ (k w h place : ℕ) (known : k < 11) (wide : w < 4294967296) (high : h < 4294967296) (far : place < 18446744073709551616) (b : List ℕ) (size : length b ≡ 244) where
  abbrev before : Texture
  before = read_texture b

  abbrev left : Texture
  left = define_record before k (level_at place w h)

  abbrev put : List ℕ
  put = put_define k left b

  -- a level that is put is the one defined, or none
  small : (i : ℕ) → i < 11 → stays k i ≡ false → Small (get_or left.levels i absent)
  small i o e = go (define_puts before k w h place known i o e)
    where
      go : (get_or left.levels i absent ≡ level_at place w h) ⊎ (get_or left.levels i absent ≡ absent) → Small (get_or left.levels i absent)
      go (inl q) = rw q (wide, high, far)
      go (inr q) = rw q (omega arith, omega arith, omega arith)

  found : (i : ℕ) → i < 11 → stays k i ≡ true → level_of left i ≡ level_of before i → level_of (read_texture put) i ≡ level_of left i
  found zero o e q =
      let r : read_level put 0 ≡ read_level b 0 = level_read k left small b size 0 o ∙ rw e refl in
      sym (level_first put) ∙ ap (λ (m : MipLevel). level_at m.place m.width m.height) r ∙ level_first b ∙ sym q
  found (suc i) o e q =
      let r : read_level put (suc i) ≡ read_level b (suc i) = level_read k left small b size (suc i) o ∙ rw e refl in
      sym (level_above put (suc i) (omega arith) o) ∙ r ∙ level_above b (suc i) (omega arith) o ∙ sym q

  written : (i : ℕ) → i < 11 → stays k i ≡ false → level_of (read_texture put) i ≡ level_of left i
  unfolding level_of levels_of
  written zero o e =
      let r : read_level put 0 ≡ get_or left.levels 0 absent = level_read k left small b size 0 o ∙ rw e refl in
      sym (level_first put) ∙ ap (λ (m : MipLevel). level_at m.place m.width m.height) r
  written (suc i) o e =
      let r : read_level put (suc i) ≡ get_or left.levels (suc i) absent = level_read k left small b size (suc i) o ∙ rw e refl in
      sym (level_above put (suc i) (omega arith) o) ∙ r ∙ sym (kept_above left.levels (suc i) (omega arith))

  pub level_defined : (i : ℕ) → i < 11 → level_of (read_texture put) i ≡ level_of left i
  unfolding stays
  level_defined i o = go (dec_lt i k) (dec_lt 0 k) (dec_lt 0 i)
    where
      go : Dec (i < k) → Dec (0 < k) → Dec (0 < i) → level_of (read_texture put) i ≡ level_of left i
      go (yes a) q r = found i o (rw (lt-ltb i k a)) (define_keeps before k w h place known i a)
      go (no a) (yes q) r = written i o (rw (le-ltb i k (omega arith), ne_eqb k 0 (λ e. omega arith)))
      go (no a) (no q) (yes r) =
          let z : k ≡ 0 = omega arith in
          found i o (rw (le-ltb i k (omega arith), eq-eqb k 0 z, lt-ltb 0 i r)) (define_keeps_all before k w h place known i z r o)
      go (no a) (no q) (no r) =
          let z : k ≡ 0 = omega arith in
          let y : i ≡ 0 = omega arith in
          written i o (rw (z, y) refl)

  pub length_defined : length put ≡ 244
  unfolding put_define
  length_defined =
      length-paste (iter 11 (put_level k left.levels) b) 220 (to_le_bytes w64 left.max_mipmap_level) 8 (room k left small b size) (le_refl 8)
      ∙ after_length k left.levels small b size 11 (le_refl 11)

  -- and so is its top level
  pub top_defined : (read_texture put).max_mipmap_level ≡ left.max_mipmap_level
  unfolding read_texture put_define long word
  top_defined =
      let s : List ℕ = to_le_bytes w64 left.max_mipmap_level in
      long_same put s 220 0 (λ j o. byte_put (iter 11 (put_level k left.levels) b) 220 s 8 (room k left small b size) (le_refl 8) j o ∙ ap (λ (a : ℕ). get_or s a 0) (sym (zero-add j)))
      ∙ long_digits left.max_mipmap_level (omega (arith, define_top_in before k w h place known))

  -- its filters and wraps are as found, and have their codes
  pub word_kept : (i : ℕ) → 228 ≤ i → word put i ≡ word b i
  unfolding put_define
  word_kept i n =
      word_behind (iter 11 (put_level k left.levels) b) 220 (to_le_bytes w64 left.max_mipmap_level) 8 (room k left small b size) (le_refl 8) i n
      ∙ after_word k left.levels small b size 11 i (le_refl 11) (omega arith)

  pub codes_kept : codes_known put ≡ codes_known b
  unfolding codes_known
  codes_kept = rw (word_kept 228 (omega arith), word_kept 232 (omega arith), word_kept 236 (omega arith), word_kept 240 (omega arith)) refl

  pub define_reads : codes_known b ≡ true → read_of put ≡ Some (read_texture put)
  unfolding read_of
  define_reads e = rw (length_defined, codes_kept ∙ e) refl
