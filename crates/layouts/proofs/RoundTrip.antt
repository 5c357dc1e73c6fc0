-- What is written reads back the same. Assumes nothing.
use mathlib.Core.Bool.{Bool, true, false, cond, not}
use mathlib.Core.Path.{◌≡◌, refl, sym, ap, ◌∙◌}
use mathlib.Core.List.{List, ◌++◌}
use Prim.Native.Nat.{ℕ, ◌+◌, ◌*◌, ◌/◌, ◌%◌, ◌<◌}
use native.Mathlib.Nat.{add-zero, zero-add}
use native.Mathlib.Omega.{arith}
use lib.Dec.{eqb}
use lib.ListN.{length, get_or, length-append, get_or-append}
use lib.Seq.{get_or-append-add, ext_get_or}
use borrow.Author.Tests.{eq-eqb, eqb-true}
use Rattle.std.proofs.lemmas.Bool.{false≢true}
use Rattle.std.proofs.Common.{Option, Some, None, Ok, is_some}
use Rattle.lists.specs.Lists.{tab, flat}
use Rattle.lists.proofs.Flats.{get_or_flat}
use Rattle.lists.proofs.Rows.{length_flat}
use Rattle.lists.proofs.Tables.{length_tab, get_or_tab}
use Rattle.levels.specs.declared.MipLevel.{MipLevel}
use Rattle.levels.specs.declared.Texture.{Texture}
use Rattle.levels.specs.declared.MinFilter.{MinFilter}
use Rattle.levels.specs.declared.MinFilter.TheVariants as min
use Rattle.levels.specs.declared.Filter.{Filter}
use Rattle.levels.specs.declared.Filter.TheVariants as mag
use Rattle.levels.specs.declared.Wrap.{Wrap}
use Rattle.levels.specs.declared.Wrap.TheVariants as wrap
use Rattle.levels.specs.Codes.{min_filter_of, filter_of, wrap_of, min_code, mag_code, wrap_code}
use Rattle.levels.specs.Levels.{absent}
use Rattle.layouts.specs.Words.{word, long}
use Rattle.layouts.specs.Records.{read_level, codes_known, read_texture, read_of, level_bytes, level_bytes_at, rest_bytes, record_bytes}

-- ---- numbers

digits_2 : (n : ℕ) → n % 256 + 256 * (n / 256 % 256) ≡ n % 65536
digits_2 n = omega arith

digits_3 : (n : ℕ) → n % 65536 + 65536 * (n / 65536 % 256) ≡ n % 16777216
digits_3 n = omega arith

digits_4 : (n : ℕ) → n % 16777216 + 16777216 * (n / 16777216 % 256) ≡ n % 4294967296
digits_4 n = omega arith

-- four bytes, the low one first, are a number modulo 2 ^ 32
pub digits : (n : ℕ) → n % 256 + 256 * (n / 256 % 256) + 65536 * (n / 65536 % 256) + 16777216 * (n / 16777216 % 256) ≡ n % 4294967296
digits n = rw (digits_2 n, digits_3 n, digits_4 n)

fifth : (n : ℕ) → n / 1099511627776 ≡ n / 4294967296 / 256
fifth n = omega arith

sixth : (n : ℕ) → n / 281474976710656 ≡ n / 4294967296 / 65536
sixth n = omega arith

seventh : (n : ℕ) → n / 72057594037927936 ≡ n / 4294967296 / 16777216
seventh n = omega arith

halves : (n : ℕ) → n < 18446744073709551616 → n % 4294967296 + 4294967296 * (n / 4294967296 % 4294967296) ≡ n
halves n h = omega arith

-- four bytes that stand the same in two lists
pub word_same : (b l : List ℕ) (p q : ℕ) → ((j : ℕ) → j < 4 → get_or b (p + j) 0 ≡ get_or l (q + j) 0) → word b p ≡ word l q
unfolding word
word_same b l p q h =
    let e0 : get_or b p 0 ≡ get_or l q 0 = ap (λ (i : ℕ). get_or b i 0) (sym (add-zero p)) ∙ h 0 (omega arith) ∙ ap (λ (i : ℕ). get_or l i 0) (add-zero q) in
    rw (e0, h 1 (omega arith), h 2 (omega arith), h 3 (omega arith))

pub long_same : (b l : List ℕ) (p q : ℕ) → ((j : ℕ) → j < 8 → get_or b (p + j) 0 ≡ get_or l (q + j) 0) → long b p ≡ long l q
unfolding long
long_same b l p q h =
    let e0 = word_same b l p q (λ j k. h j (omega arith)) in
    let e4 = word_same b l (p + 4) (q + 4) (λ j k. later j k) in
    rw (e0, e4)
  where
    later : (j : ℕ) → j < 4 → get_or b (p + 4 + j) 0 ≡ get_or l (q + 4 + j) 0
    later j k =
        let f : p + 4 + j ≡ p + (4 + j) = omega arith in
        let g : q + (4 + j) ≡ q + 4 + j = omega arith in
        ap (λ (i : ℕ). get_or b i 0) f ∙ h (4 + j) (omega arith) ∙ ap (λ (i : ℕ). get_or l i 0) g

-- ---- one level

module _ (m : MipLevel) where
  pub flag_back : not (eqb (word (level_bytes m) 0) 0) ≡ m.present
  unfolding word level_bytes
  flag_back = here m.present
    where
      here : (p : Bool) → not (eqb (cond p 1 0 + 256 * 0 + 65536 * 0 + 16777216 * 0) 0) ≡ p
      here true = refl
      here false = refl

  pub width_back : m.width < 4294967296 → word (level_bytes m) 4 ≡ m.width
  unfolding word level_bytes
  width_back h = digits m.width ∙ omega arith

  pub height_back : m.height < 4294967296 → word (level_bytes m) 8 ≡ m.height
  unfolding word level_bytes
  height_back h = digits m.height ∙ omega arith

-- eight bytes of a number that fits them
pub long_digits : (n : ℕ) → n < 18446744073709551616
    → (n % 256 + 256 * (n / 256 % 256) + 65536 * (n / 65536 % 256) + 16777216 * (n / 16777216 % 256))
    + 4294967296 * (n / 4294967296 % 256 + 256 * (n / 1099511627776 % 256) + 65536 * (n / 281474976710656 % 256) + 16777216 * (n / 72057594037927936 % 256)) ≡ n
long_digits n h = rw (digits n, fifth n, sixth n, seventh n, digits (n / 4294967296)) (halves n h)

pub place_back : (m : MipLevel) → m.place < 18446744073709551616 → long (level_bytes m) 12 ≡ m.place
unfolding long word level_bytes
place_back m h = long_digits m.place h

-- ---- the rest

rest_top : (t : Texture) → t.max_mipmap_level < 18446744073709551616 → long (rest_bytes t) 0 ≡ t.max_mipmap_level
unfolding long word rest_bytes
rest_top t h = long_digits t.max_mipmap_level h

-- a code's two low bytes and two zeros
abbrev two : ℕ → ℕ
two n = n % 256 + 256 * (n / 256 % 256) + 65536 * 0 + 16777216 * 0

min_two : (f : MinFilter) → min_filter_of (two (min_code f)) ≡ Ok f
unfolding min_filter_of
min_two min.Nearest = refl
min_two min.Linear = refl
min_two min.NearestMipmapNearest = refl
min_two min.LinearMipmapNearest = refl
min_two min.NearestMipmapLinear = refl
min_two min.LinearMipmapLinear = refl

mag_two : (f : Filter) → filter_of (two (mag_code f)) ≡ Ok f
unfolding filter_of
mag_two mag.Nearest = refl
mag_two mag.Linear = refl

wrap_two : (w : Wrap) → wrap_of (two (wrap_code w)) ≡ Ok w
unfolding wrap_of
wrap_two wrap.Repeat = refl
wrap_two wrap.ClampToEdge = refl

module _ (t : Texture) where
  min_rest : min_filter_of (word (rest_bytes t) 8) ≡ Ok t.min_filter
  unfolding word rest_bytes
  min_rest = min_two t.min_filter

  mag_rest : filter_of (word (rest_bytes t) 12) ≡ Ok t.mag_filter
  unfolding word rest_bytes
  mag_rest = mag_two t.mag_filter

  wrap_s_rest : wrap_of (word (rest_bytes t) 16) ≡ Ok t.wrap_s
  unfolding word rest_bytes
  wrap_s_rest = wrap_two t.wrap_s

  wrap_t_rest : wrap_of (word (rest_bytes t) 20) ≡ Ok t.wrap_t
  unfolding word rest_bytes
  wrap_t_rest = wrap_two t.wrap_t

-- ---- the whole record

-- the numbers fit their bytes, as those of any record in the code do
pub record Sized (t : Texture) : Type 0 where
  pub eleven : length t.levels ≡ 11
  pub wide : (i : ℕ) → (get_or t.levels i absent).width < 4294967296
  pub high : (i : ℕ) → (get_or t.levels i absent).height < 4294967296
  pub placed : (i : ℕ) → (get_or t.levels i absent).place < 18446744073709551616
  pub top : t.max_mipmap_level < 18446744073709551616

pub length_level : (l : List MipLevel) (i : ℕ) → length (level_bytes_at l i) ≡ 20
unfolding level_bytes_at level_bytes
length_level l i = refl

pub length_rest : (t : Texture) → length (rest_bytes t) ≡ 24
unfolding rest_bytes
length_rest t = refl

module _ (t : Texture) where
  pub levels_length : length (flat 11 (level_bytes_at t.levels)) ≡ 220
  levels_length = length_flat 20 (level_bytes_at t.levels) (λ i. length_level t.levels i) 11

  pub length_record : length (record_bytes t) ≡ 244
  unfolding record_bytes
  length_record = length-append (flat 11 (level_bytes_at t.levels)) (rest_bytes t) ∙ rw (levels_length, length_rest t)

  -- byte j of level i, and byte j of the rest
  level_byte : (i j : ℕ) → i < 11 → j < 20 → get_or (record_bytes t) (i * 20 + j) 0 ≡ get_or (level_bytes (get_or t.levels i absent)) j 0
  unfolding record_bytes level_bytes_at
  level_byte i j h k =
      get_or-append (flat 11 (level_bytes_at t.levels)) (rest_bytes t) 0 (i * 20 + j) (omega (arith, levels_length))
      ∙ get_or_flat 20 (level_bytes_at t.levels) (λ n. length_level t.levels n) 0 11 i j h k

  rest_byte : (j : ℕ) → get_or (record_bytes t) (220 + j) 0 ≡ get_or (rest_bytes t) j 0
  unfolding record_bytes
  rest_byte j =
      ap (λ (n : ℕ). get_or (flat 11 (level_bytes_at t.levels) ++ rest_bytes t) (n + j) 0) (sym levels_length)
      ∙ get_or-append-add (flat 11 (level_bytes_at t.levels)) (rest_bytes t) j 0

  -- the same with the place q of a field in between
  field_byte : (i q j : ℕ) → i < 11 → q + j < 20 → get_or (record_bytes t) (i * 20 + q + j) 0 ≡ get_or (level_bytes (get_or t.levels i absent)) (q + j) 0
  field_byte i q j h k =
      let e : i * 20 + q + j ≡ i * 20 + (q + j) = omega arith in
      ap (λ (n : ℕ). get_or (record_bytes t) n 0) e ∙ level_byte i (q + j) h k

  rest_field : (q j : ℕ) → get_or (record_bytes t) (220 + q + j) 0 ≡ get_or (rest_bytes t) (q + j) 0
  rest_field q j =
      let e : 220 + q + j ≡ 220 + (q + j) = omega arith in
      ap (λ (n : ℕ). get_or (record_bytes t) n 0) e ∙ rest_byte (q + j)

  module _ (s : Sized t) where
    level_back : (i : ℕ) → i < 11 → read_level (record_bytes t) i ≡ get_or t.levels i absent
    unfolding read_level
    level_back i h =
        let m = get_or t.levels i absent in
        let f = word_same (record_bytes t) (level_bytes m) (i * 20) 0 (λ j k. level_byte i j h (omega arith) ∙ ap (λ (n : ℕ). get_or (level_bytes m) n 0) (sym (zero-add j))) in
        let w = word_same (record_bytes t) (level_bytes m) (i * 20 + 4) 4 (λ j k. field_byte i 4 j h (omega arith)) in
        let g = word_same (record_bytes t) (level_bytes m) (i * 20 + 8) 8 (λ j k. field_byte i 8 j h (omega arith)) in
        let p = long_same (record_bytes t) (level_bytes m) (i * 20 + 12) 12 (λ j k. field_byte i 12 j h (omega arith)) in
        rw (f, w, g, p, flag_back m, width_back m (s.wide i), height_back m (s.high i), place_back m (s.placed i))

    levels_back : tab 11 (read_level (record_bytes t)) ≡ t.levels
    levels_back =
        let l = length_tab (read_level (record_bytes t)) 11 in
        ext_get_or absent (tab 11 (read_level (record_bytes t))) t.levels (l ∙ sym s.eleven)
        (λ i h. let o = rw l at h in get_or_tab (read_level (record_bytes t)) 11 i absent o ∙ level_back i o)

    top_back : long (record_bytes t) 220 ≡ t.max_mipmap_level
    top_back = long_same (record_bytes t) (rest_bytes t) 220 0 (λ j k. rest_byte j ∙ ap (λ (n : ℕ). get_or (rest_bytes t) n 0) (sym (zero-add j))) ∙ rest_top t s.top

  -- a code's word
  code_word : (q : ℕ) → word (record_bytes t) (220 + q) ≡ word (rest_bytes t) q
  code_word q = word_same (record_bytes t) (rest_bytes t) (220 + q) q (λ j k. rest_field q j)

  min_back : min_filter_of (word (record_bytes t) 228) ≡ Ok t.min_filter
  min_back = ap min_filter_of (code_word 8) ∙ min_rest t

  mag_back : filter_of (word (record_bytes t) 232) ≡ Ok t.mag_filter
  mag_back = ap filter_of (code_word 12) ∙ mag_rest t

  wrap_s_back : wrap_of (word (record_bytes t) 236) ≡ Ok t.wrap_s
  wrap_s_back = ap wrap_of (code_word 16) ∙ wrap_s_rest t

  wrap_t_back : wrap_of (word (record_bytes t) 240) ≡ Ok t.wrap_t
  wrap_t_back = ap wrap_of (code_word 20) ∙ wrap_t_rest t

  codes_back : codes_known (record_bytes t) ≡ true
  unfolding codes_known
  codes_back = rw (min_back, mag_back, wrap_s_back, wrap_t_back)

-- reading what was written gives the record
pub write_read : (t : Texture) → Sized t → read_of (record_bytes t) ≡ Some t
unfolding read_of read_texture
write_read t s =
    rw (eq-eqb (length (record_bytes t)) 244 (length_record t), codes_back t, levels_back t s, top_back t s, min_back t, mag_back t, wrap_s_back t, wrap_t_back t)

-- a layout that holds a record has its length
pub known_length : (b : List ℕ) → is_some (read_of b) ≡ true → length b ≡ 244
unfolding read_of
known_length b e = here (eqb (length b) 244) refl e
  where
    here : (c : Bool) → eqb (length b) 244 ≡ c
        → is_some (cond {A = Option Texture} c (cond (codes_known b) (Some (read_texture b)) None) None) ≡ true → length b ≡ 244
    here true q e = eqb-true (length b) 244 q
    here false q e = absurd (false≢true e)

-- and it is the record as it stands there
pub known_texture : (b : List ℕ) → is_some (read_of b) ≡ true → read_of b ≡ Some (read_texture b)
unfolding read_of
known_texture b e = rw (eq-eqb (length b) 244 (known_length b e)) (here (codes_known b) (rw (eq-eqb (length b) 244 (known_length b e)) at e))
  where
    here : (c : Bool) → is_some (cond {A = Option Texture} c (Some (read_texture b)) None) ≡ true → cond c (Some (read_texture b)) None ≡ Some (read_texture b)
    here true e = refl
    here false e = absurd (false≢true e)
