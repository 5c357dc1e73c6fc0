-- What a setting puts into a layout reads back as the record that it leaves. Assumes nothing.
use mathlib.Core.Bool.{Bool, true, false, cond, true≢false}
use mathlib.Core.Path.{◌≡◌, refl, sym, ap, ◌∙◌}
use mathlib.Core.List.{List}
use Prim.Native.Nat.{ℕ, ◌+◌, ◌≤◌, ◌<◌}
use native.Mathlib.Nat.{le_refl, zero-add}
use native.Mathlib.Omega.{arith}
use lib.Dec.{eqb}
use lib.ListN.{length, get_or}
use lib.Seq.{length-paste}
use Rattle.std.proofs.Common.{Some, Result, Ok, Err, w32}
use Rattle.std.specs.Int.{to_le_bytes}
use Rattle.std.specs.Result.{is_ok}
use Rattle.std.proofs.lemmas.Bool.{false≢true}
use Rattle.lists.specs.Lists.{tab}
use Rattle.lists.proofs.Choice.{was_true}
use Rattle.lists.proofs.Tables.{tab_same}
use Rattle.answers.specs.declared.Refusal.{Refusal}
use Rattle.answers.specs.Results.{answer_number}
use Rattle.answers.proofs.Answered.{refused_test}
use Rattle.consts.specs.Codes.{GL_TEXTURE_MAG_FILTER, GL_TEXTURE_MIN_FILTER, GL_TEXTURE_WRAP_S, GL_TEXTURE_WRAP_T}
use Rattle.levels.specs.declared.MinFilter.{MinFilter}
use Rattle.levels.specs.declared.Filter.{Filter}
use Rattle.levels.specs.declared.Wrap.{Wrap}
use Rattle.levels.specs.declared.Texture.{Texture}
use Rattle.levels.specs.Codes.{min_filter_of, filter_of, wrap_of}
use Rattle.texture.specs.Parameters.{ignored, set_check, set_record, with_min_filter, with_mag_filter, with_wrap_s, with_wrap_t}
use Rattle.layouts.specs.Words.{word, long}
use Rattle.layouts.specs.Records.{read_level, codes_known, read_texture, read_of, put_word, put_parameter}
use Rattle.layouts.proofs.RoundTrip.{digits, word_same}
use Rattle.layouts.proofs.Defined.{byte_put, word_before, word_behind, long_before, level_before}

four_bytes : (v : ℕ) → v < 4294967296 → word (to_le_bytes w32 v) 0 ≡ v
unfolding word
four_bytes v h = digits v ∙ omega (arith, h)

-- ---- a word put at p

module _ (b : List ℕ) (p v : ℕ) (h : p + 4 ≤ length b) where
  abbrev bytes : List ℕ
  bytes = to_le_bytes w32 v

  put_length : length (put_word p v b) ≡ length b
  put_length = length-paste b p bytes 4 h (le_refl 4)

  word_put : v < 4294967296 → word (put_word p v b) p ≡ v
  word_put k = word_same (put_word p v b) bytes p 0 (λ j o. byte_put b p bytes 4 h (le_refl 4) j o ∙ ap (λ (a : ℕ). get_or bytes a 0) (sym (zero-add j))) ∙ four_bytes v k

  before : (w : ℕ) → w + 4 ≤ p → word (put_word p v b) w ≡ word b w
  before = word_before b p bytes 4 h (le_refl 4)

  behind : (w : ℕ) → p + 4 ≤ w → word (put_word p v b) w ≡ word b w
  behind = word_behind b p bytes 4 h (le_refl 4)

  module _ (q : 228 ≤ p) where
    levels_kept : tab 11 (read_level (put_word p v b)) ≡ tab 11 (read_level b)
    levels_kept = tab_same 11 (read_level (put_word p v b)) (read_level b) (λ i k. level_before b p bytes 4 h (le_refl 4) i (omega arith))

    top_kept : long (put_word p v b) 220 ≡ long b 220
    top_kept = long_before b p bytes 4 h (le_refl 4) 220 (omega arith)

-- ---- a setting

module _ (b : List ℕ) (v : ℕ) (long_enough : length b ≡ 244) (known : codes_known b ≡ true) (small : v < 4294967296) where
  -- a layout of that length and of known codes is read as it stands
  read_as : (b' : List ℕ) (t : Texture) → length b' ≡ length b → codes_known b' ≡ true → read_texture b' ≡ t → read_of b' ≡ Some t
  unfolding read_of
  read_as b' t e k f = rw (e ∙ long_enough, k, f) refl

  min_known : is_ok (min_filter_of (word b 228)) ≡ true
  unfolding codes_known
  min_known = (was_true _ known false≢true).0

  past_min : cond (is_ok (filter_of (word b 232))) (cond (is_ok (wrap_of (word b 236))) (is_ok (wrap_of (word b 240))) false) false ≡ true
  unfolding codes_known
  past_min = (was_true _ known false≢true).1

  mag_known : is_ok (filter_of (word b 232)) ≡ true
  mag_known = (was_true _ past_min false≢true).0

  s_known : is_ok (wrap_of (word b 236)) ≡ true
  s_known = (was_true _ (was_true _ past_min false≢true).1 false≢true).0

  t_known : is_ok (wrap_of (word b 240)) ≡ true
  t_known = (was_true _ (was_true _ past_min false≢true).1 false≢true).1

  min_reads : (r : Result MinFilter Refusal) → min_filter_of v ≡ r → answer_number r ≡ 0 → read_of (put_word 228 v b) ≡ Some (with_min_filter r (read_texture b))
  unfolding codes_known read_texture
  min_reads (Ok f) e z =
      let h : 228 + 4 ≤ length b = rw long_enough (omega arith) in
      let q : 228 ≤ 228 = omega arith in
      let x = word_put b 228 v h small in
      let c = behind b 228 v h 232 (omega arith) in
      let s = behind b 228 v h 236 (omega arith) in
      let t = behind b 228 v h 240 (omega arith) in
      read_as (put_word 228 v b) _ (put_length b 228 v h) (rw (x, e, c, s, t, mag_known, s_known, t_known) refl)
      (rw (levels_kept b 228 v h q, top_kept b 228 v h q, x, e, c, s, t) refl)
  min_reads (Err why) e z = absurd (true≢false (refused_test why 0 z))

  mag_reads : (r : Result Filter Refusal) → filter_of v ≡ r → answer_number r ≡ 0 → read_of (put_word 232 v b) ≡ Some (with_mag_filter r (read_texture b))
  unfolding codes_known read_texture
  mag_reads (Ok f) e z =
      let h : 232 + 4 ≤ length b = rw long_enough (omega arith) in
      let q : 228 ≤ 232 = omega arith in
      let x = word_put b 232 v h small in
      let a = before b 232 v h 228 (omega arith) in
      let s = behind b 232 v h 236 (omega arith) in
      let t = behind b 232 v h 240 (omega arith) in
      read_as (put_word 232 v b) _ (put_length b 232 v h) (rw (a, x, e, s, t, min_known, s_known, t_known) refl)
      (rw (levels_kept b 232 v h q, top_kept b 232 v h q, a, x, e, s, t) refl)
  mag_reads (Err why) e z = absurd (true≢false (refused_test why 0 z))

  s_reads : (r : Result Wrap Refusal) → wrap_of v ≡ r → answer_number r ≡ 0 → read_of (put_word 236 v b) ≡ Some (with_wrap_s r (read_texture b))
  unfolding codes_known read_texture
  s_reads (Ok f) e z =
      let h : 236 + 4 ≤ length b = rw long_enough (omega arith) in
      let q : 228 ≤ 236 = omega arith in
      let x = word_put b 236 v h small in
      let a = before b 236 v h 228 (omega arith) in
      let c = before b 236 v h 232 (omega arith) in
      let t = behind b 236 v h 240 (omega arith) in
      read_as (put_word 236 v b) _ (put_length b 236 v h) (rw (a, c, x, e, t, min_known, mag_known, t_known) refl)
      (rw (levels_kept b 236 v h q, top_kept b 236 v h q, a, c, x, e, t) refl)
  s_reads (Err why) e z = absurd (true≢false (refused_test why 0 z))

  t_reads : (r : Result Wrap Refusal) → wrap_of v ≡ r → answer_number r ≡ 0 → read_of (put_word 240 v b) ≡ Some (with_wrap_t r (read_texture b))
  unfolding codes_known read_texture
  t_reads (Ok f) e z =
      let h : 240 + 4 ≤ length b = rw long_enough (omega arith) in
      let q : 228 ≤ 240 = omega arith in
      let x = word_put b 240 v h small in
      let a = before b 240 v h 228 (omega arith) in
      let c = before b 240 v h 232 (omega arith) in
      let s = before b 240 v h 236 (omega arith) in
      read_as (put_word 240 v b) _ (put_length b 240 v h) (rw (a, c, s, x, e, min_known, mag_known, s_known) refl)
      (rw (levels_kept b 240 v h q, top_kept b 240 v h q, a, c, s, x, e) refl)
  t_reads (Err why) e z = absurd (true≢false (refused_test why 0 z))

  -- the record of the layout after a setting that is done
  pub set_reads : (p : ℕ) → set_check p v ≡ 0 → read_of (put_parameter p v b) ≡ Some (set_record (read_texture b) p v)
  unfolding put_parameter set_check set_record
  set_reads p = go (eqb p GL_TEXTURE_MIN_FILTER) (eqb p GL_TEXTURE_MAG_FILTER) (eqb p GL_TEXTURE_WRAP_S) (eqb p GL_TEXTURE_WRAP_T)
    where
      of : {A : Type 0} → A → A → A → A → A → Bool → Bool → Bool → Bool → A
      of m n s t none c d e f = cond c m (cond d n (cond e s (cond f t none)))

      go : (c d e f : Bool)
          → of (answer_number (min_filter_of v)) (answer_number (filter_of v)) (answer_number (wrap_of v)) (answer_number (wrap_of v)) (cond (ignored p) 0 16) c d e f ≡ 0
          → read_of (of (put_word 228 v b) (put_word 232 v b) (put_word 236 v b) (put_word 240 v b) b c d e f)
          ≡ Some
          (of (with_min_filter (min_filter_of v) (read_texture b)) (with_mag_filter (filter_of v) (read_texture b)) (with_wrap_s (wrap_of v) (read_texture b))
          (with_wrap_t (wrap_of v) (read_texture b)) (read_texture b) c d e f)
      go true d e f z = min_reads (min_filter_of v) refl z
      go false true e f z = mag_reads (filter_of v) refl z
      go false false true f z = s_reads (wrap_of v) refl z
      go false false false true z = t_reads (wrap_of v) refl z
      go false false false false z = read_as b (read_texture b) refl known refl
