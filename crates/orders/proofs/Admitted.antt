-- Being refused out of hand is the same in every state of a run, and such a call has touched nothing. Assumes nothing.
use mathlib.Core.Path.{◌≡◌, refl, sym, ◌∙◌}
use mathlib.Core.Bool.{Bool, true, false, cond}
use mathlib.Core.List.{List}
use Prim.Native.Nat.{ℕ}
use native.Mathlib.Omega.{arith}
use lib.Dec.{eqb}
use lib.ListN.{length}
use borrow.Author.Tests.{eqb-true, le-ltb}
use Rattle.std.proofs.lemmas.Bool.{true≢false, false≢true, false_from_ne_true, true_from_ne_false}
use Rattle.lists.proofs.Choice.{was_true}
use Rattle.levels.specs.declared.Texture.{Texture}
use Rattle.texture.specs.Define.{define_check, define_of, define_writes}
use Rattle.texture.specs.Parameters.{set_check, set_record, setting, set_of}
use Rattle.texture.proofs.Defining.{Sound, sound}
use Rattle.texture.proofs.Written.{define_refused}
use Rattle.draw.specs.Draw.{draw_check, draw_passed, draw_of, drew_all, outcome}
use Rattle.frames.specs.State.{SameSizes, Place, sizes, pixel, byte, texture, done, refused, is_refused}
use Rattle.guests.specs.Calls.{Shared, answer_of, clear_color_number, clear_depth_number, sides_check}
use Rattle.guests.specs.Guests.{clear_color, clear_depth, draw, define_level, patch_level, set_parameter, new_record, meaning}
use Rattle.guest_draws.specs.Draw.{DrawCall, records_of, early_number, late_number, drawing, scissor_of}
use Rattle.guest_draws.specs.EveryCall.{GuestCall}
use Rattle.orders.specs.Plans.{admitted, Untouching, OutOfHand}

-- a define that is not refused passes 9
pub sides_pass : (k w h : ℕ) → (m : ℕ) (t : Texture) (place len : ℕ) → Sound m t k w h place len → eqb (sides_check k w h) 0 ≡ true
unfolding sides_check
sides_pass k w h m t place len z = rw (le-ltb 1024 w z.wide, le-ltb 1024 h z.high, le-ltb 10 k (omega (arith, z.level_in)))

pub admitted_same : (s t : Shared) → SameSizes s t → (c : GuestCall) → admitted s c ≡ admitted t c
admitted_same s t z (clear_color b rgba) = rw (z.same_width, z.same_height, z.same_colors, z.same_depths)
admitted_same s t z (clear_depth b v) = rw (z.same_width, z.same_height, z.same_colors, z.same_depths)
admitted_same s t z (draw x) = rw (z.same_width, z.same_height, z.same_colors, z.same_depths)
admitted_same s t z (define_level n k w h place rgba) = refl
admitted_same s t z (patch_level n k x y w h rgba) = refl
admitted_same s t z (set_parameter n code value) = refl
admitted_same s t z (new_record n) = refl

-- ---- what writes, has read a pixel, a byte or a record, or is not refused, is admitted

define_admitted : (n k w h place : ℕ) (rgba : List ℕ) (t : Shared) (x : Bool)
    → cond (eqb (define_check (length t.store) (t.textures n) k w h place (length rgba)) 0) x false ≡ true → eqb (sides_check k w h) 0 ≡ true
define_admitted n k w h place rgba t x e =
    let d = was_true (eqb (define_check (length t.store) (t.textures n) k w h place (length rgba)) 0) e false≢true in
    sides_pass k w h (length t.store) (t.textures n) place (length rgba) (sound (length t.store) (t.textures n) k w h place (length rgba) (eqb-true _ 0 d.0))

pub writes_admitted : (c : GuestCall) (t : Shared) (l : Place) → (meaning drawing scissor_of c).writes t l ≡ true → admitted t c ≡ true
unfolding define_writes
writes_admitted (clear_color b rgba) t sizes e = absurd (false≢true e)
writes_admitted (clear_color b rgba) t (pixel p) e = (was_true (eqb (clear_color_number b t) 0) e false≢true).0
writes_admitted (clear_color b rgba) t (byte a) e = absurd (false≢true e)
writes_admitted (clear_color b rgba) t (texture n) e = absurd (false≢true e)
writes_admitted (clear_depth b v) t sizes e = absurd (false≢true e)
writes_admitted (clear_depth b v) t (pixel p) e = (was_true (eqb (clear_depth_number b v t) 0) e false≢true).0
writes_admitted (clear_depth b v) t (byte a) e = absurd (false≢true e)
writes_admitted (clear_depth b v) t (texture n) e = absurd (false≢true e)
writes_admitted (draw x) t sizes e = absurd (false≢true e)
writes_admitted (draw x) t (pixel p) e = (was_true (eqb (early_number x t) 0) e false≢true).0
writes_admitted (draw x) t (byte a) e = absurd (false≢true e)
writes_admitted (draw x) t (texture n) e = absurd (false≢true e)
writes_admitted (define_level n k w h place rgba) t sizes e = absurd (false≢true e)
writes_admitted (define_level n k w h place rgba) t (pixel p) e = absurd (false≢true e)
writes_admitted (define_level n k w h place rgba) t (byte a) e = define_admitted n k w h place rgba t _ e
writes_admitted (define_level n k w h place rgba) t (texture m) e = define_admitted n k w h place rgba t _ e
writes_admitted (patch_level n k x y w h rgba) t l e = refl
writes_admitted (set_parameter n code value) t sizes e = absurd (false≢true e)
writes_admitted (set_parameter n code value) t (pixel p) e = absurd (false≢true e)
writes_admitted (set_parameter n code value) t (byte a) e = absurd (false≢true e)
writes_admitted (set_parameter n code value) t (texture m) e = (was_true (eqb (set_check code value) 0) e false≢true).0
writes_admitted (new_record n) t l e = refl

-- a place that is not the sizes
abbrev pub NotSizes : Place → Type 0
NotSizes sizes = ⊥
NotSizes (pixel p) = Unit {0}
NotSizes (byte b) = Unit {0}
NotSizes (texture n) = Unit {0}

reads_pixel_admitted : (c : GuestCall) (t : Shared) (p : ℕ) → (meaning drawing scissor_of c).Reads t (pixel p) → admitted t c ≡ true
reads_pixel_admitted (clear_color b rgba) t p r = r.0
reads_pixel_admitted (clear_depth b v) t p r = r.0
reads_pixel_admitted (draw x) t p r = r.0.0
reads_pixel_admitted (define_level n k w h place rgba) t p r = absurd r
reads_pixel_admitted (patch_level n k x y w h rgba) t p r = absurd r
reads_pixel_admitted (set_parameter n code value) t p r = absurd r
reads_pixel_admitted (new_record n) t p r = refl

reads_byte_admitted : (c : GuestCall) (t : Shared) (a : ℕ) → (meaning drawing scissor_of c).Reads t (byte a) → admitted t c ≡ true
reads_byte_admitted (clear_color b rgba) t a r = absurd r
reads_byte_admitted (clear_depth b v) t a r = absurd r
reads_byte_admitted (draw x) t a r = r.0.0
reads_byte_admitted (define_level n k w h place rgba) t a r = absurd r
reads_byte_admitted (patch_level n k x y w h rgba) t a r = absurd r
reads_byte_admitted (set_parameter n code value) t a r = absurd r
reads_byte_admitted (new_record n) t a r = refl

reads_name_admitted : (c : GuestCall) (t : Shared) (m : ℕ) → (meaning drawing scissor_of c).Reads t (texture m) → admitted t c ≡ true
reads_name_admitted (clear_color b rgba) t m r = absurd r
reads_name_admitted (clear_depth b v) t m r = absurd r
reads_name_admitted (draw x) t m r = r.0
reads_name_admitted (define_level n k w h place rgba) t m r = r.1
reads_name_admitted (patch_level n k x y w h rgba) t m r = refl
reads_name_admitted (set_parameter n code value) t m r = r.1
reads_name_admitted (new_record n) t m r = refl

pub reads_admitted : (c : GuestCall) (t : Shared) (l : Place) → NotSizes l → (meaning drawing scissor_of c).Reads t l → admitted t c ≡ true
reads_admitted c t sizes o r = absurd o
reads_admitted c t (pixel p) o r = reads_pixel_admitted c t p r
reads_admitted c t (byte a) o r = reads_byte_admitted c t a r
reads_admitted c t (texture m) o r = reads_name_admitted c t m r

answered_zero : (n : ℕ) → is_refused (answer_of n) ≡ false → eqb n 0 ≡ true
answered_zero n e = go (eqb n 0) e
  where
    go : (b : Bool) → is_refused (cond b done (refused n)) ≡ false → b ≡ true
    go true e = refl
    go false e = absurd (true≢false e)

draw_answered : (x : DrawCall) (t : Shared) → is_refused ((drawing x).does t).0 ≡ false → eqb (early_number x t) 0 ≡ true
unfolding draw_of draw_check
draw_answered x t e = go (eqb (early_number x t) 0) refl e
  where
    go : (b : Bool) → eqb (early_number x t) 0 ≡ b
        → is_refused (cond (eqb (cond b (late_number x t) (early_number x t)) 0) (drew_all (draw_passed t.store t.width t.height x.args (records_of x t.textures) t.colors t.depths))
        (outcome (refused (cond b (late_number x t) (early_number x t))) t.colors t.depths)).answer ≡ false → b ≡ true
    go true p q = refl
    go false p q = absurd (true≢false (rw p at q))

define_answered : (n k w h place : ℕ) (rgba : List ℕ) (t : Shared)
    → is_refused (answer_of (define_of t.store (t.textures n) k w h place rgba).answer) ≡ false → eqb (sides_check k w h) 0 ≡ true
define_answered n k w h place rgba t e = go (eqb d 0) refl
  where
    d : ℕ
    d = define_check (length t.store) (t.textures n) k w h place (length rgba)

    go : (b : Bool) → eqb d 0 ≡ b → eqb (sides_check k w h) 0 ≡ true
    go true p = define_admitted n k w h place rgba t true (rw p refl)
    go false p =
        let z : is_refused (answer_of d) ≡ false = rw (define_refused t.store (t.textures n) k w h place rgba p) at e in
        absurd (true≢false (sym (answered_zero d z) ∙ p))

set_answered : (n code value : ℕ) (t : Shared) → is_refused (answer_of (set_of (t.textures n) code value).answer) ≡ false → eqb (set_check code value) 0 ≡ true
unfolding set_of
set_answered n code value t e = go (eqb (set_check code value) 0) refl e
  where
    go : (b : Bool) → eqb (set_check code value) 0 ≡ b
        → is_refused (answer_of (cond b (setting 0 (set_record (t.textures n) code value)) (setting (set_check code value) (t.textures n))).answer) ≡ false → b ≡ true
    go true p q = refl
    go false p q = absurd (true≢false (sym (answered_zero (set_check code value) q) ∙ p))

pub answered_admitted : (c : GuestCall) (t : Shared) → is_refused ((meaning drawing scissor_of c).does t).0 ≡ false → admitted t c ≡ true
answered_admitted (clear_color b rgba) t e = answered_zero (clear_color_number b t) e
answered_admitted (clear_depth b v) t e = answered_zero (clear_depth_number b v t) e
answered_admitted (draw x) t e = draw_answered x t e
answered_admitted (define_level n k w h place rgba) t e = define_answered n k w h place rgba t e
answered_admitted (patch_level n k x y w h rgba) t e = refl
answered_admitted (set_parameter n code value) t e = set_answered n code value t e
answered_admitted (new_record n) t e = refl

-- ---- so a call that is not admitted has touched nothing

module _ (c : GuestCall) (t : Shared) (refused_then : admitted t c ≡ false) where
  not_so : admitted t c ≡ true → ⊥
  not_so e = true≢false (sym e ∙ refused_then)

  sizes_alone : (l : Place) → (meaning drawing scissor_of c).Reads t l → l ≡ sizes
  sizes_alone sizes r = refl
  sizes_alone (pixel p) r = absurd (not_so (reads_pixel_admitted c t p r))
  sizes_alone (byte a) r = absurd (not_so (reads_byte_admitted c t a r))
  sizes_alone (texture m) r = absurd (not_so (reads_name_admitted c t m r))

  untouching : Untouching t c
  untouching = record {
    answers = true_from_ne_false _ (λ e. not_so (answered_admitted c t e));
    writes = λ l. false_from_ne_true _ (λ e. not_so (writes_admitted c t l e));
    reads = sizes_alone;
  }

-- the statement of specs/Plans.antt
pub out_of_hand : OutOfHand
out_of_hand c s t z e = untouching c t (sym (admitted_same s t z c) ∙ e)
