-- What the calls without a draw read and write is 01's list, no less and no more. Assumes nothing.
use Rattle.std.specs.Prelude.{Option, Result, Ok, Err}
use mathlib.Core.Path.{◌≡◌, refl, sym, ap, ◌∙◌, subst}
use mathlib.Core.Logic.{◌≢◌, ◌↔◌}
use mathlib.Core.Bool.{Bool, true, false, cond}
use mathlib.Core.List.{List}
use Prim.Native.Nat.{ℕ, ◌+◌, ◌-◌, ◌*◌, ◌<◌, ◌≤◌}
use native.Mathlib.Omega.{arith}
use lib.Dec.{eqb, ltb, leb, leb-zero}
use lib.ListN.{length, get_or, set, length-set}
use lib.Seq.{get_or-set_same, get_or-set_other}
use lib.Ieee.{Float, nan, is_nan, of_bits}
use borrow.Author.Tests.{eqb-true, eq-eqb, ltb-true, ltb-false, le-ltb, lt-ltb, leb-true, le-leb}
use Rattle.std.proofs.lemmas.Bool.{true≢false, false≢true}
use Rattle.lists.proofs.Choice.{was_true, was_false}
use Rattle.std.specs.Float.{binary32}
use Rattle.settings.specs.declared.ScissorBox.{ScissorBox}
use Rattle.scissor.specs.Scissor.{pixel_in}
use Rattle.scissor.specs.Check.{target_fits}
use Rattle.levels.specs.declared.Texture.{Texture}
use Rattle.consts.specs.Codes.{GL_TEXTURE_MAG_FILTER, GL_TEXTURE_MIN_FILTER, GL_TEXTURE_WRAP_S, GL_TEXTURE_WRAP_T}
use Rattle.answers.specs.declared.Refusal.{Refusal}
use Rattle.levels.specs.declared.MinFilter.{MinFilter}
use Rattle.levels.specs.declared.Filter.{Filter}
use Rattle.levels.specs.declared.Wrap.{Wrap}
use Rattle.levels.specs.Levels.{level_at, level_of, levels_of, size_of, new_texture, complete, top_of, overlap, overlaps, apart, fits, valid_levels, valid_of}
use Rattle.levels.specs.Codes.{min_filter_of, filter_of, wrap_of}
use Rattle.levels.proofs.Valid.{new_valid}
use Rattle.render_target.specs.Clear.{clear_color_check, clear_depth_check}
use Rattle.texture.specs.Define.{place_check, record_check, define_check, define_record, Outcome, define_of, in_run, define_writes}
use Rattle.texture.specs.Patch.{rectangle_check, patch_check, Patched, patch_of, in_rows, patch_writes}
use Rattle.texture.specs.Parameters.{set_check, set_record, Setting, setting, set_of, with_min_filter, with_mag_filter, with_wrap_s, with_wrap_t}
use Rattle.texture.proofs.Defining.{sound}
use Rattle.texture.proofs.Written.{define_done, define_refused, define_inside, patch_effect, patch_none}
use Rattle.isolation.specs.Machine.{Act, Alike}
use Rattle.frames.specs.State.{Place, sizes, pixel, byte, texture, Same, places, Answer, done, drew, refused, is_refused}
use Rattle.frames.proofs.Pixels.{pixel_is_of, at_red, at_depth}
use Rattle.guests.specs.Calls.{Shared, answer_of, with_colors, with_depths, with_texture, clear_color_number, clear_depth_number, BoxReads, box_writes, sides_check, define_number, patch_number, clear_color, clear_depth, define_level, patch_level, set_parameter}
use Rattle.guests.specs.Exact.{Done, left, Needs, ClearExact, ClearColorExact, ClearDepthExact, DefineExact, PatchExact, SetExact, NewExact, Exact}
use Rattle.guests.proofs.Draws.{room}

-- ---- a number and its answer

passed : (n : ℕ) → is_refused (answer_of n) ≡ false → eqb n 0 ≡ true
passed n e = go (eqb n 0) e
  where
    go : (x : Bool) → is_refused (cond x done (refused n)) ≡ false → x ≡ true
    go true k = refl
    go false k = absurd (true≢false k)

is_done : (n : ℕ) → eqb n 0 ≡ true → is_refused (answer_of n) ≡ false
is_done n e = rw e refl

-- the number, told from the answer
abbrev code : Answer → ℕ
code done = 0
code (drew n) = 0
code (refused n) = n

code_of : (n : ℕ) → code (answer_of n) ≡ n
code_of n = go (eqb n 0) refl
  where
    go : (x : Bool) → eqb n 0 ≡ x → code (cond x done (refused n)) ≡ n
    go true e = sym (eqb-true n 0 e)
    go false e = refl

both : (x y : Bool) → cond x y false ≡ true → (x ≡ true) × (y ≡ true)
both x y e = was_true x e false≢true

either : {A : Type 0} (P : A → Type 0) (b : Bool) (m n : A) → P m → P n → P (cond b m n)
either P true m n x y = x
either P false m n x y = y

-- ---- states that differ in one pixel, or in one record

module _ (s : Shared) (p : ℕ) where
  abbrev deep : Float → Shared
  deep d = with_depths s (set s.depths p d)

  deep_like : (d : Float) (m : Place) → m ≢ pixel p → Same m s (deep d)
  deep_like d sizes n = record { same_width = refl; same_height = refl; same_colors = refl; same_depths = sym (length-set s.depths p d); same_store = refl }
  deep_like d (pixel q) n = pixel_is_of _ _ _ _ q (λ j a b. refl) (sym (get_or-set_other s.depths p q d nan (λ e. n (ap pixel e))))
  deep_like d (byte a) n = refl
  deep_like d (texture m) n = refl

  abbrev tinted : ℕ → Shared
  tinted v = with_colors s (set s.colors (p * 4) v)

  tinted_like : (v : ℕ) (m : Place) → m ≢ pixel p → Same m s (tinted v)
  tinted_like v sizes n = record { same_width = refl; same_height = refl; same_colors = sym (length-set s.colors (p * 4) v); same_depths = refl; same_store = refl }
  tinted_like v (pixel q) n = pixel_is_of _ _ _ _ q (λ j a b. sym (get_or-set_other s.colors (p * 4) j v 0 (λ e. n (ap pixel (omega arith))))) refl
  tinted_like v (byte a) n = refl
  tinted_like v (texture m) n = refl

abbrev zero32 : Float
zero32 = of_bits binary32 0

zero_is_a_number : zero32 ≡ nan → ⊥
unfolding of_bits is_nan
zero_is_a_number e = true≢false (sym (ap is_nan e))

module _ (s : Shared) (n : ℕ) where
  abbrev with_record : Texture → Shared
  with_record t = with_texture s n t s.store

  record_like : (t : Texture) (m : Place) → m ≢ texture n → Same m s (with_record t)
  record_like t sizes d = record { same_width = refl; same_height = refl; same_colors = refl; same_depths = refl; same_store = refl }
  record_like t (pixel q) d = refl
  record_like t (byte a) d = refl
  record_like t (texture m) d = go (eqb m n) refl
    where
      go : (x : Bool) → eqb m n ≡ x → s.textures m ≡ cond x t (s.textures m)
      go true e = absurd (d (ap texture (eqb-true m n e)))
      go false e = refl

  there : (t : Texture) → cond (eqb n n) t (s.textures n) ≡ t
  there t = rw (eq-eqb n n refl) refl

-- a record that 8 refuses
abbrev broken : Texture
broken = record {
  levels = new_texture.levels;
  max_mipmap_level = 1;
  min_filter = new_texture.min_filter;
  mag_filter = new_texture.mag_filter;
  wrap_s = new_texture.wrap_s;
  wrap_t = new_texture.wrap_t;
}

broken_invalid : (n : ℕ) → valid_of n broken ≡ false
unfolding valid_of valid_levels new_texture levels_of fits apart overlaps overlap top_of complete size_of
broken_invalid n = rw (leb-zero n) refl

-- ---- clears

-- footprints by the number, and what a number of 0 says
module _ (s : Shared) (a : Act Shared Answer Place) (b : Option ScissorBox) (number : ℕ) where
  box_exact : (a.does s).0 ≡ answer_of number
      → ((l : Place) → a.Reads s l ↔ BoxReads number b s l) → ((l : Place) → a.writes s l ≡ box_writes number b s l)
      → ((p : ℕ) → eqb number 0 ≡ true → pixel_in s.width s.height b p ≡ true → Needs a s (pixel p)) → ClearExact s a b
  box_exact answer reads writes needs = record {
    reads_sizes = (reads sizes).1 tt;
    writes_no_sizes = writes sizes;
    reads_pixel = λ p. ((λ r. let k = (reads (pixel p)).0 r in (ap is_refused answer ∙ is_done number k.0, k.1)), (λ k. (reads (pixel p)).1 (passed number (sym (ap is_refused answer) ∙ k.0), k.1)));
    reads_no_byte = λ m r. (reads (byte m)).0 r;
    reads_no_texture = λ m r. (reads (texture m)).0 r;
    writes_pixel = λ p. ((λ w. let k = both (eqb number 0) (pixel_in s.width s.height b p) (sym (writes (pixel p)) ∙ w) in (ap is_refused answer ∙ is_done number k.0, k.1)), (λ k. writes (pixel p) ∙ rw (passed number (sym (ap is_refused answer) ∙ k.0)) k.1));
    writes_no_byte = λ m. writes (byte m);
    writes_no_texture = λ m. writes (texture m);
    needs_pixel = λ p r. let k = (reads (pixel p)).0 r in needs p k.0 k.1;
  }

module _ (s : Shared) (b : Option ScissorBox) where
  color_fits : eqb (clear_color_number b s) 0 ≡ true → target_fits s.width s.height (length s.colors) (length s.depths) ≡ true
  unfolding clear_color_check
  color_fits e = (was_true (target_fits s.width s.height (length s.colors) (length s.depths)) (eqb-true _ 0 e) (λ z. omega arith)).0

  depth_fits : (v : Float) → eqb (clear_depth_number b v s) 0 ≡ true → target_fits s.width s.height (length s.colors) (length s.depths) ≡ true
  unfolding clear_depth_check
  depth_fits v e = (was_true (target_fits s.width s.height (length s.colors) (length s.depths)) (eqb-true _ 0 e) (λ z. omega arith)).0

  -- a clear of the colours leaves the depth that it found
  color_needs : (rgba : List ℕ) (p : ℕ) → eqb (clear_color_number b s) 0 ≡ true → pixel_in s.width s.height b p ≡ true → Needs (clear_color b rgba) s (pixel p)
  color_needs rgba p e i = record { one = deep s p zero32; other = deep s p nan; one_like = deep_like s p zero32; other_like = deep_like s p nan; differ = differ }
    where
      in_it : p < length s.depths
      in_it = (room s.width s.height (length s.colors) (length s.depths) b p (color_fits e) i).1

      differ : Alike places (clear_color b rgba) (deep s p zero32) (deep s p nan) → ⊥
      differ k =
          let same = at_depth _ _ _ _ p (k.written (pixel p) (rw (length-set s.depths p zero32, e) i)) in
          zero_is_a_number (sym (get_or-set_same s.depths p zero32 nan in_it) ∙ same ∙ get_or-set_same s.depths p nan nan in_it)

  -- a clear of the depths leaves the colour that it found
  depth_needs : (v : Float) (p : ℕ) → eqb (clear_depth_number b v s) 0 ≡ true → pixel_in s.width s.height b p ≡ true → Needs (clear_depth b v) s (pixel p)
  depth_needs v p e i = record { one = tinted s p 0; other = tinted s p 1; one_like = tinted_like s p 0; other_like = tinted_like s p 1; differ = differ }
    where
      in_it : p * 4 < length s.colors
      in_it = omega (arith, (room s.width s.height (length s.colors) (length s.depths) b p (depth_fits v e) i).0)

      differ : Alike places (clear_depth b v) (tinted s p 0) (tinted s p 1) → ⊥
      differ k =
          let same = at_red _ _ _ _ p (k.written (pixel p) (rw (length-set s.colors (p * 4) 0, e) i)) in
          let z : ◌≡◌ {A = ℕ} 0 1 = sym (get_or-set_same s.colors (p * 4) 0 0 in_it) ∙ same ∙ get_or-set_same s.colors (p * 4) 1 0 in_it in omega arith

  color_exact : (rgba : List ℕ) → ClearColorExact s b rgba
  color_exact rgba = record {
    footprint = box_exact s (clear_color b rgba) b (clear_color_number b s) refl (λ l. ((λ r. r), (λ r. r))) (λ l. refl) (color_needs rgba);
    answers = refl;
    leaves = refl;
    leaves_depths = refl;
  }

  depth_exact : (v : Float) → ClearDepthExact s b v
  depth_exact v = record {
    footprint = box_exact s (clear_depth b v) b (clear_depth_number b v s) refl (λ l. ((λ r. r), (λ r. r))) (λ l. refl) (depth_needs v);
    answers = refl;
    leaves = refl;
    leaves_colors = refl;
  }

-- ---- define

sides_of : (k w h : ℕ) → eqb (sides_check k w h) 0 ≡ true → (ltb 1024 w ≡ false) × (ltb 1024 h ≡ false) × (ltb 10 k ≡ false)
unfolding sides_check
sides_of k w h e =
    let a = was_false (ltb 1024 w) (eqb-true _ 0 e) (λ z. omega arith) in
    let b = was_false (ltb 1024 h) a.1 (λ z. omega arith) in
    let d = was_false (ltb 10 k) b.1 (λ z. omega arith) in
    (a.0, b.0, d.0)

sides_are : (k w h : ℕ) → w ≤ 1024 → h ≤ 1024 → k ≤ 10 → eqb (sides_check k w h) 0 ≡ true
unfolding sides_check
sides_are k w h a b d = rw (le-ltb 1024 w a, le-ltb 1024 h b, le-ltb 10 k d) refl

module _ (s : Shared) (n k w h place : ℕ) (rgba : List ℕ) where
  abbrev defining : Act Shared Answer Place
  defining = define_level n k w h place rgba

  -- what it answers over a record and a store
  define_answer : (st : List ℕ) (t : Texture) → (define_of st t k w h place rgba).answer ≡ define_check (length st) t k w h place (length rgba)
  define_answer st t = go (eqb (define_check (length st) t k w h place (length rgba)) 0) refl
    where
      go : (x : Bool) → eqb (define_check (length st) t k w h place (length rgba)) 0 ≡ x → (define_of st t k w h place rgba).answer ≡ define_check (length st) t k w h place (length rgba)
      go true e = let z = eqb-true _ 0 e in ap (λ (o : Outcome). o.answer) (define_done st t k w h place rgba z) ∙ sym z
      go false e = ap (λ (o : Outcome). o.answer) (define_refused st t k w h place rgba e)

  define_answers : (defining.does s).0 ≡ answer_of (define_number n k w h place rgba s)
  define_answers = ap answer_of (define_answer s.store (s.textures n))

  define_passed : Done defining s → eqb (define_number n k w h place rgba s) 0 ≡ true
  define_passed d = passed _ (sym (ap is_refused define_answers) ∙ d)

  define_is_done : eqb (define_number n k w h place rgba s) 0 ≡ true → Done defining s
  define_is_done e = ap is_refused define_answers ∙ is_done _ e

  -- 8 tells a record that is valid from one that isn't
  not_eight : eqb (sides_check k w h) 0 ≡ true → define_check (length s.store) new_texture k w h place (length rgba) ≡ 8 → ⊥
  unfolding define_check record_check place_check
  not_eight e = let q = sides_of k w h e in rw (q.0, q.1, q.2, new_valid (length s.store)) (go _ _ _)
    where
      go : (a b c : Bool) → ◌≡◌ {A = ℕ} (cond a (cond b 10 (cond c 10 0)) 11) 8 → ⊥
      go false b c z = omega arith
      go true true c z = omega arith
      go true false true z = omega arith
      go true false false z = omega arith

  eight : eqb (sides_check k w h) 0 ≡ true → define_check (length s.store) broken k w h place (length rgba) ≡ 8
  unfolding define_check record_check
  eight e = let q = sides_of k w h e in rw (q.0, q.1, q.2, broken_invalid (length s.store)) refl

  define_needs : eqb (sides_check k w h) 0 ≡ true → Needs defining s (texture n)
  define_needs e = record {
    one = with_record s n new_texture;
    other = with_record s n broken;
    one_like = record_like s n new_texture;
    other_like = record_like s n broken;
    differ = differ;
  }
    where
      says : (t : Texture) → code (defining.does (with_record s n t)).0 ≡ define_check (length s.store) t k w h place (length rgba)
      says t = ap (λ (u : Texture). code (answer_of (define_of s.store u k w h place rgba).answer)) (there s n t) ∙ code_of _ ∙ define_answer s.store t

      differ : Alike places defining (with_record s n new_texture) (with_record s n broken) → ⊥
      differ a = not_eight e (sym (says new_texture) ∙ ap code a.answer ∙ says broken ∙ eight e)

  long : eqb (define_number n k w h place rgba s) 0 ≡ true → length rgba ≡ h * w * 4
  unfolding size_of
  long e = (sound (length s.store) (s.textures n) k w h place (length rgba) (eqb-true _ 0 e)).bytes

  in_the_run : (b : ℕ) → in_run place (length rgba) b ≡ true → (place ≤ b) × (b < place + length rgba)
  in_the_run b e = let c = both (leb place b) (ltb b (place + length rgba)) e in (leb-true place b c.0, ltb-true b (place + length rgba) c.1)

  of_the_run : (b : ℕ) → place ≤ b → b < place + length rgba → in_run place (length rgba) b ≡ true
  of_the_run b x y = rw (le-leb place b x, lt-ltb b (place + length rgba) y) refl

  its_bytes : (b : ℕ) → (defining.writes s (byte b) ≡ true) ↔ (Done defining s × (place ≤ b) × (b < place + h * w * 4))
  unfolding define_writes
  its_bytes b = (told, back)
    where
      told : defining.writes s (byte b) ≡ true → Done defining s × (place ≤ b) × (b < place + h * w * 4)
      told e =
          let c = both (eqb (define_number n k w h place rgba s) 0) (in_run place (length rgba) b) e in
          let r = in_the_run b c.1 in
          (define_is_done c.0, r.0, omega (arith, r.1, long c.0))

      back : Done defining s × (place ≤ b) × (b < place + h * w * 4) → defining.writes s (byte b) ≡ true
      back (d, x, y) = let e = define_passed d in rw e (of_the_run b x (omega (arith, y, long e)))

  left_record : eqb (define_number n k w h place rgba s) 0 ≡ true → (define_of s.store (s.textures n) k w h place rgba).texture ≡ define_record (s.textures n) k (level_at place w h)
  left_record e = ap (λ (o : Outcome). o.texture) (define_done s.store (s.textures n) k w h place rgba (eqb-true _ 0 e))

  left_bytes : Done defining s → (b : ℕ) → place ≤ b → b < place + h * w * 4 → get_or (define_of s.store (s.textures n) k w h place rgba).store b 0 ≡ get_or rgba (b - place) 0
  left_bytes d b x y = define_inside s.store (s.textures n) k w h place rgba b ((its_bytes b).1 (d, x, y))

  define_is : DefineExact s n k w h place rgba
  define_is = record {
    frameless = record { reads_no_pixel = λ p r. r; reads_no_byte = λ b r. r; writes_no_sizes = refl; writes_no_pixel = λ p. refl };
    reads_sizes = ((λ r. let c = sides_of k w h r in (ltb-false 1024 w c.0, ltb-false 1024 h c.1, ltb-false 10 k c.2)), (λ r. sides_are k w h r.0 r.1 r.2));
    reads_texture = λ m. ((λ r. let c = sides_of k w h r.1 in (r.0, ltb-false 1024 w c.0, ltb-false 1024 h c.1, ltb-false 10 k c.2)), (λ r. (r.0, sides_are k w h r.1 r.2 r.3)));
    needs_texture = λ m r. subst (λ (i : ℕ). Needs defining s (texture i)) (sym r.0) (define_needs r.1);
    writes_texture = λ m. ((λ e. let c = both (eqb (define_number n k w h place rgba s) 0) (eqb m n) e in (define_is_done c.0, eqb-true m n c.1)), (λ d. rw (define_passed d.0) (eq-eqb m n d.1)));
    writes_byte = its_bytes;
    answers = define_answers;
    leaves_texture = λ d. there s n (define_of s.store (s.textures n) k w h place rgba).texture ∙ left_record (define_passed d);
    leaves_bytes = left_bytes;
  }

-- ---- patch

module _ (s : Shared) (n k x y w h : ℕ) (rgba : List ℕ) where
  abbrev patching : Act Shared Answer Place
  patching = patch_level n k x y w h rgba

  patch_answer : (st : List ℕ) (t : Texture) → (patch_of st t k x y w h rgba).answer ≡ patch_check (length st) t k x y w h (length rgba)
  patch_answer st t = go (eqb (patch_check (length st) t k x y w h (length rgba)) 0) refl
    where
      go : (z : Bool) → eqb (patch_check (length st) t k x y w h (length rgba)) 0 ≡ z → (patch_of st t k x y w h rgba).answer ≡ patch_check (length st) t k x y w h (length rgba)
      go true e = let z = eqb-true _ 0 e in ap (λ (o : Patched). o.answer) (patch_effect t k x y w h rgba st z) ∙ sym z
      go false e = ap (λ (o : Patched). o.answer) (patch_none t k x y w h rgba st e)

  patch_answers : (patching.does s).0 ≡ answer_of (patch_number n k x y w h rgba s)
  patch_answers = ap answer_of (patch_answer s.store (s.textures n))

  patch_passed : Done patching s → eqb (patch_number n k x y w h rgba s) 0 ≡ true
  patch_passed d = passed _ (sym (ap is_refused patch_answers) ∙ d)

  patch_is_done : eqb (patch_number n k x y w h rgba s) 0 ≡ true → Done patching s
  patch_is_done e = ap is_refused patch_answers ∙ is_done _ e

  never_eight : patch_check (length s.store) new_texture k x y w h (length rgba) ≡ 8 → ⊥
  unfolding patch_check rectangle_check
  never_eight = rw (new_valid (length s.store)) (go (ltb 10 k) (level_of new_texture k).present (ltb (level_of new_texture k).width (x + w)) (ltb (level_of new_texture k).height (y + h)) (ltb (length rgba) (h * w * 4)))
    where
      go : (a b c d e : Bool) → ◌≡◌ {A = ℕ} (cond a 12 (cond b (cond c 13 (cond d 13 (cond e 11 0))) 12)) 8 → ⊥
      go true b c d e z = omega arith
      go false false c d e z = omega arith
      go false true true d e z = omega arith
      go false true false true e z = omega arith
      go false true false false true z = omega arith
      go false true false false false z = omega arith

  patch_eight : patch_check (length s.store) broken k x y w h (length rgba) ≡ 8
  unfolding patch_check
  patch_eight = rw (broken_invalid (length s.store)) refl

  patch_needs : Needs patching s (texture n)
  patch_needs = record {
    one = with_record s n new_texture;
    other = with_record s n broken;
    one_like = record_like s n new_texture;
    other_like = record_like s n broken;
    differ = differ;
  }
    where
      says : (t : Texture) → code (patching.does (with_record s n t)).0 ≡ patch_check (length s.store) t k x y w h (length rgba)
      says t = ap (λ (u : Texture). code (answer_of (patch_of s.store u k x y w h rgba).answer)) (there s n t) ∙ code_of _ ∙ patch_answer s.store t

      differ : Alike places patching (with_record s n new_texture) (with_record s n broken) → ⊥
      differ a = never_eight (sym (says new_texture) ∙ ap code a.answer ∙ says broken ∙ patch_eight)

  patch_is : PatchExact s n k x y w h rgba
  unfolding patch_writes
  patch_is = record {
    frameless = record { reads_no_pixel = λ p r. r; reads_no_byte = λ b r. r; writes_no_sizes = refl; writes_no_pixel = λ p. refl };
    reads_sizes = tt;
    reads_texture = λ m. ((λ r. r), (λ r. r));
    needs_texture = λ m r. subst (λ (i : ℕ). Needs patching s (texture i)) (sym r) patch_needs;
    writes_texture = λ m. ((λ e. let c = both (eqb (patch_number n k x y w h rgba s) 0) (eqb m n) e in (patch_is_done c.0, eqb-true m n c.1)), (λ d. rw (patch_passed d.0) (eq-eqb m n d.1)));
    writes_byte = λ b. ((λ e. let c = both (eqb (patch_number n k x y w h rgba s) 0) (in_rows (level_of (s.textures n) k) x y w h b) e in (patch_is_done c.0, c.1)), (λ d. rw (patch_passed d.0) d.1));
    answers = patch_answers;
    leaves_texture = there s n (s.textures n);
    leaves_store = refl;
  }

-- ---- set a parameter

-- whatever is set, the top level stays
abbrev SameTop : Texture → Texture → Type 0
SameTop t u = u.max_mipmap_level ≡ t.max_mipmap_level

min_filter_keeps : (t : Texture) (r : Result MinFilter Refusal) → SameTop t (with_min_filter r t)
min_filter_keeps t (Ok f) = refl
min_filter_keeps t (Err why) = refl

mag_filter_keeps : (t : Texture) (r : Result Filter Refusal) → SameTop t (with_mag_filter r t)
mag_filter_keeps t (Ok f) = refl
mag_filter_keeps t (Err why) = refl

wrap_s_keeps : (t : Texture) (r : Result Wrap Refusal) → SameTop t (with_wrap_s r t)
wrap_s_keeps t (Ok f) = refl
wrap_s_keeps t (Err why) = refl

wrap_t_keeps : (t : Texture) (r : Result Wrap Refusal) → SameTop t (with_wrap_t r t)
wrap_t_keeps t (Ok f) = refl
wrap_t_keeps t (Err why) = refl

module _ (s : Shared) (n c value : ℕ) where
  abbrev setting_it : Act Shared Answer Place
  setting_it = set_parameter n c value

  record_keeps : (t : Texture) → SameTop t (set_record t c value)
  unfolding set_record
  record_keeps t = go (eqb c GL_TEXTURE_MIN_FILTER) (eqb c GL_TEXTURE_MAG_FILTER) (eqb c GL_TEXTURE_WRAP_S) (eqb c GL_TEXTURE_WRAP_T)
    where
      go : (a b d e : Bool) → SameTop t (cond a (with_min_filter (min_filter_of value) t)
          (cond b (with_mag_filter (filter_of value) t) (cond d (with_wrap_s (wrap_of value) t) (cond e (with_wrap_t (wrap_of value) t) t))))
      go true b d e = min_filter_keeps t (min_filter_of value)
      go false true d e = mag_filter_keeps t (filter_of value)
      go false false true e = wrap_s_keeps t (wrap_of value)
      go false false false true = wrap_t_keeps t (wrap_of value)
      go false false false false = refl

  keeps_top : (t : Texture) → SameTop t (set_of t c value).texture
  unfolding set_of
  keeps_top t = either (λ (o : Setting). SameTop t o.texture) (eqb (set_check c value) 0) (setting 0 (set_record t c value)) (setting (set_check c value) t) (record_keeps t) refl

  set_answer : (t : Texture) → (set_of t c value).answer ≡ set_check c value
  unfolding set_of
  set_answer t = go (eqb (set_check c value) 0) refl
    where
      go : (z : Bool) → eqb (set_check c value) 0 ≡ z → (cond {A = Setting} z (setting 0 (set_record t c value)) (setting (set_check c value) t)).answer ≡ set_check c value
      go true e = sym (eqb-true _ 0 e)
      go false e = refl

  set_answers : (setting_it.does s).0 ≡ answer_of (set_check c value)
  set_answers = ap answer_of (set_answer (s.textures n))

  set_passed : Done setting_it s → eqb (set_check c value) 0 ≡ true
  set_passed d = passed _ (sym (ap is_refused set_answers) ∙ d)

  set_is_done : eqb (set_check c value) 0 ≡ true → Done setting_it s
  set_is_done e = ap is_refused set_answers ∙ is_done _ e

  set_needs : eqb (set_check c value) 0 ≡ true → Needs setting_it s (texture n)
  unfolding new_texture
  set_needs e = record {
    one = with_record s n new_texture;
    other = with_record s n broken;
    one_like = record_like s n new_texture;
    other_like = record_like s n broken;
    differ = differ;
  }
    where
      leaves : (t : Texture) → ((left setting_it (with_record s n t)).textures n).max_mipmap_level ≡ t.max_mipmap_level
      leaves t =
          ap (λ (u : Texture). u.max_mipmap_level) (there (with_record s n t) n (set_of ((with_record s n t).textures n) c value).texture)
          ∙ keeps_top ((with_record s n t).textures n)
          ∙ ap (λ (u : Texture). u.max_mipmap_level) (there s n t)

      differ : Alike places setting_it (with_record s n new_texture) (with_record s n broken) → ⊥
      differ a =
          let z : ◌≡◌ {A = ℕ} 0 1 = sym (leaves new_texture) ∙ ap (λ (u : Texture). u.max_mipmap_level) (a.written (texture n) (rw e (eq-eqb n n refl))) ∙ leaves broken in
          omega arith

  set_is : SetExact s n c value
  set_is = record {
    frameless = record { reads_no_pixel = λ p r. r; reads_no_byte = λ b r. r; writes_no_sizes = refl; writes_no_pixel = λ p. refl };
    reads_no_sizes = λ r. r;
    reads_texture = λ m. ((λ r. (set_is_done r.1, r.0)), (λ r. (r.1, set_passed r.0)));
    needs_texture = λ m r. subst (λ (i : ℕ). Needs setting_it s (texture i)) (sym r.0) (set_needs r.1);
    writes_texture = λ m. ((λ e. let d = both (eqb (set_check c value) 0) (eqb m n) e in (set_is_done d.0, eqb-true m n d.1)), (λ d. rw (set_passed d.0) (eq-eqb m n d.1)));
    writes_no_byte = λ b. refl;
    answers = set_answers;
    leaves_texture = there s n (set_of (s.textures n) c value).texture;
  }

-- ---- a new record

new_is : (s : Shared) (n : ℕ) → NewExact s n
new_is s n = record {
  reads_nothing = λ l r. r;
  writes_no_sizes = refl;
  writes_no_pixel = λ p. refl;
  writes_no_byte = λ b. refl;
  writes_texture = λ m. (eqb-true m n, eq-eqb m n);
  answers = refl;
  leaves_texture = there s n new_texture;
}

-- EXACTLY 01's LIST
pub exact : (s : Shared) → Exact s
exact s = record {
  clear_color_exact = λ b rgba. color_exact s b rgba;
  clear_depth_exact = λ b v. depth_exact s b v;
  define_exact = λ n k w h place rgba. define_is s n k w h place rgba;
  patch_exact = λ n k x y w h rgba. patch_is s n k x y w h rgba;
  set_exact = λ n c value. set_is s n c value;
  new_exact = new_is s;
}
