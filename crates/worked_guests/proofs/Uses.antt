-- Which textures the calls use, that none but a draw reads a texel byte, and the columns of a window. Assumes nothing.
use Rattle.std.proofs.lemmas.Bool.{and_parts}
use Rattle.std.specs.Prelude.{Option, Some}
use mathlib.Core.Path.{◌≡◌, sym, subst}
use mathlib.Core.Logic.{inl, inr}
use mathlib.Core.Bool.{Bool, true, false, cond, ◌&&◌, true≢false}
use mathlib.Core.List.{List, [], ◌∷◌}
use Prim.Native.Nat.{ℕ, ◌-◌, ◌%◌, ◌/◌}
use lib.Dec.{eqb, ltb}
use borrow.Author.Tests.{eqb-true}
use Rattle.settings.specs.declared.ScissorBox.{ScissorBox}
use Rattle.scissor.specs.Scissor.{within, in_box, pixel_in}
use Rattle.isolation.specs.Machine.{Act, In}
use Rattle.isolation.specs.Acts.{Uses}
use Rattle.frames.specs.State.{Place, byte, texture, Answer}
use Rattle.texture.specs.Parameters.{set_check}
use Rattle.guests.specs.Calls.{Shared, define_number, patch_number}
use Rattle.guests.specs.Guests.{Call, clear_color, clear_depth, draw, define_level, patch_level, set_parameter, new_record, meaning, no_drawing, no_scissor}

-- every element of a list
abbrev pub All : {A : Type 0} → (A → Type 0) → List A → Type 0
All P [] = Unit {0}
All P (x ∷ l) = P x × All P l

pub both : {A B : Type 0} → A → B → A × B
both a b = (a, b)

pub each : {A : Type 0} (P : A → Type 0) (l : List A) → All P l → (a : A) → In a l → P a
each P [] h a m = absurd m
each P (x ∷ l) (h, r) a (inl e) = subst P (sym e) h
each P (x ∷ l) (h, r) a (inr m) = each P l r a m

named : (b : Bool) (m n : ℕ) → cond b (eqb m n) false ≡ true → m ≡ n
named true m n e = eqb-true m n e
named false m n e = absurd (true≢false (sym e))

-- By: the textures that a draw uses
module _ {Draw : Type 0} (drawing : Draw → Act Shared Answer Place) (scissor_of : Draw → Option ScissorBox) (By : Draw → ℕ → Type 0)
    (own : (d : Draw) (s : Shared) (m : ℕ) → Uses (drawing d) s (texture m) → By d m) where
  -- the textures that a call names
  abbrev pub NamesOf : Call Draw → ℕ → Type 0
  NamesOf (clear_color b rgba) m = ⊥
  NamesOf (clear_depth b v) m = ⊥
  NamesOf (draw d) m = By d m
  NamesOf (define_level n k w h place rgba) m = m ≡ n
  NamesOf (patch_level n k x y w h rgba) m = m ≡ n
  NamesOf (set_parameter n code value) m = m ≡ n
  NamesOf (new_record n) m = m ≡ n

  -- it uses no other
  pub uses_of : (c : Call Draw) (s : Shared) (m : ℕ) → Uses (meaning drawing scissor_of c) s (texture m) → NamesOf c m
  uses_of (clear_color b rgba) s m (inl r) = r
  uses_of (clear_color b rgba) s m (inr w) = true≢false (sym w)
  uses_of (clear_depth b v) s m (inl r) = r
  uses_of (clear_depth b v) s m (inr w) = true≢false (sym w)
  uses_of (draw d) s m u = own d s m u
  uses_of (define_level n k w h place rgba) s m (inl r) = r.0
  uses_of (define_level n k w h place rgba) s m (inr e) = named (eqb (define_number n k w h place rgba s) 0) m n e
  uses_of (patch_level n k x y w h rgba) s m (inl r) = r
  uses_of (patch_level n k x y w h rgba) s m (inr e) = named (eqb (patch_number n k x y w h rgba s) 0) m n e
  uses_of (set_parameter n code value) s m (inl r) = r.0
  uses_of (set_parameter n code value) s m (inr e) = named (eqb (set_check code value) 0) m n e
  uses_of (new_record n) s m (inl r) = absurd r
  uses_of (new_record n) s m (inr e) = eqb-true m n e

-- without a draw
abbrev pub Names : Call ⊥ → ℕ → Type 0
Names = NamesOf no_drawing no_scissor (λ d m. ⊥) (λ d s m u. d)

pub uses_named : (c : Call ⊥) (s : Shared) (m : ℕ) → Uses (meaning no_drawing no_scissor c) s (texture m) → Names c m
uses_named = uses_of no_drawing no_scissor (λ d m. ⊥) (λ d s m u. d)

-- no call but a draw reads a texel byte
pub reads_no_byte : (c : Call ⊥) (s : Shared) (b : ℕ) → (meaning no_drawing no_scissor c).Reads s (byte b) → ⊥
reads_no_byte (clear_color b rgba) s a r = r
reads_no_byte (clear_depth b v) s a r = r
reads_no_byte (draw d) s a r = d
reads_no_byte (define_level n k w h place rgba) s a r = r
reads_no_byte (patch_level n k x y w h rgba) s a r = r
reads_no_byte (set_parameter n code value) s a r = r
reads_no_byte (new_record n) s a r = r

-- a pixel in a box lies in its columns and in its rows, which count from the bottom
module _ (width height : ℕ) (b : ScissorBox) (p : ℕ) (e : pixel_in width height (Some b) p ≡ true) where
  sides : (within b.x b.width (p % width) ≡ true) × (within b.y b.height (height - 1 - p / width) ≡ true)
  unfolding in_box
  sides = and_parts (within b.x b.width (p % width)) _ (and_parts (ltb (p % width) width && ltb (p / width) height) _ e).1

  pub in_columns : within b.x b.width (p % width) ≡ true
  in_columns = sides.0

  pub in_rows : within b.y b.height (height - 1 - p / width) ≡ true
  in_rows = sides.1
