-- What the premises ask of one call, as it is made, and when a call of each kind keeps it. Assumes nothing.
use mathlib.Core.Path.{◌≡◌, sym, ◌∙◌, subst}
use mathlib.Core.Logic.{◌⊎◌, inl, inr, ◌≢◌}
use mathlib.Core.Bool.{Bool, true, false}
use mathlib.Core.Option.{Option, none, some}
use mathlib.Core.List.{List, [], ◌∷◌}
use Prim.Native.Nat.{ℕ}
use lib.Dec.{eqb}
use lib.Ieee.{Float}
use borrow.Author.Tests.{eqb-true}
use Rattle.std.proofs.lemmas.Bool.{true≢false, and_parts}
use Rattle.lists.specs.Lists.{all}
use Rattle.scissor.specs.Scissor.{pixel_in}
use Rattle.isolation.specs.Machine.{Guest, Moment, In, Own, answer, WritesAt, ReadsAt}
use Rattle.isolation.specs.Acts.{Uses}
use Rattle.frames.specs.State.{Place, byte, texture, is_refused}
use Rattle.guests.specs.Calls.{Shared}
use Rattle.guests.specs.Guests.{clear_color, clear_depth, draw, define_level, patch_level, set_parameter, new_record, meaning, InBox, InWindow}
use Rattle.guest_draws.specs.Draw.{DrawCall, names_of, taken_of, drawing, scissor_of}
use Rattle.guest_draws.specs.EveryCall.{GuestCall}
use Rattle.worked_guests.specs.Worked.{window}
use Rattle.worked_guests.proofs.Uses.{uses_of}
use Rattle.worked_draws.specs.Worked.{M}
use Rattle.std.specs.Prelude as prelude
use Rattle.settings.specs.declared.ScissorBox.{ScissorBox}

abbrev pub Then : Type 0
Then = Moment Shared Place GuestCall

-- ---- texel bytes

abbrev pub owned_by : Guest → Option Guest → Bool
owned_by g none = true
owned_by g (some h) = eqb h g

owned : (g : Guest) (o : Option Guest) → owned_by g o ≡ true → Own g o
owned g none e = tt
owned g (some h) e = eqb-true h g e

pub all_owned : (g : Guest) (last : Place → Option Guest) (l : List ℕ) → all (λ b. owned_by g (last (byte b))) l ≡ true → (b : ℕ) → In b l → Own g (last (byte b))
all_owned g last [] e b m = absurd m
all_owned g last (x ∷ l) e b (inl q) =
    subst (λ (k : ℕ). Own g (last (byte k))) (sym q) (owned g (last (byte x)) (and_parts (owned_by g (last (byte x))) _ e).0)
all_owned g last (x ∷ l) e b (inr m) = all_owned g last l (and_parts (owned_by g (last (byte x))) _ e).1 b m

-- ---- one call

-- guest n writes texture n; texture 3 is only read
pub record Good (e : Then) : Type 0 where
  pub box : is_refused (answer M e.turn.call e.before) ≡ false → (p : ℕ) → InBox drawing scissor_of 4 1 e.turn.call p → InWindow window 4 1 e.turn.who p
  pub writer : (n : ℕ) → WritesAt M e (texture n) → (e.turn.who ≡ n) × (n ≢ 3)
  pub user : (n : ℕ) → ReadsAt M e (texture n) ⊎ WritesAt M e (texture n) → (e.turn.who ≡ n) ⊎ (n ≡ 3)
  pub own : (b : ℕ) → ReadsAt M e (byte b) → Own e.turn.who (e.last (byte b))

module _ (g : Guest) (s : Shared) (last : Place → Option Guest) where
  abbrev pub made : GuestCall → Then
  made c = record { turn = record { who = g; call = c }; before = s; last = last }

  -- one of its guest's own texture
  pub good_define : (k w h place : ℕ) (rgba : List ℕ) → g ≢ 3 → Good (made (define_level g k w h place rgba))
  good_define k w h place rgba d = record { box = λ r p x. absurd x; writer = λ n u. (sym (name n (inr u)), λ z. d (sym (name n (inr u)) ∙ z)); user = λ n u. inl (sym (name n u)); own = λ b r. absurd r }
    where
      name : (n : ℕ) → Uses (meaning drawing scissor_of (define_level g k w h place rgba)) s (texture n) → n ≡ g
      name n u = uses_of drawing scissor_of (λ x m. Unit) (λ x t m v. tt) (define_level g k w h place rgba) s n u

  pub good_patch : (k x y w h : ℕ) (rgba : List ℕ) → g ≢ 3 → Good (made (patch_level g k x y w h rgba))
  good_patch k x y w h rgba d = record { box = λ r p z. absurd z; writer = λ n u. (sym (name n (inr u)), λ z. d (sym (name n (inr u)) ∙ z)); user = λ n u. inl (sym (name n u)); own = λ b r. absurd r }
    where
      name : (n : ℕ) → Uses (meaning drawing scissor_of (patch_level g k x y w h rgba)) s (texture n) → n ≡ g
      name n u = uses_of drawing scissor_of (λ x m. Unit) (λ x t m v. tt) (patch_level g k x y w h rgba) s n u

  pub good_set : (code value : ℕ) → g ≢ 3 → Good (made (set_parameter g code value))
  good_set code value d = record { box = λ r p z. absurd z; writer = λ n u. (sym (name n (inr u)), λ z. d (sym (name n (inr u)) ∙ z)); user = λ n u. inl (sym (name n u)); own = λ b r. absurd r }
    where
      name : (n : ℕ) → Uses (meaning drawing scissor_of (set_parameter g code value)) s (texture n) → n ≡ g
      name n u = uses_of drawing scissor_of (λ x m. Unit) (λ x t m v. tt) (set_parameter g code value) s n u

  pub good_new : g ≢ 3 → Good (made (new_record g))
  good_new d = record { box = λ r p z. absurd z; writer = λ n u. (sym (name n (inr u)), λ z. d (sym (name n (inr u)) ∙ z)); user = λ n u. inl (sym (name n u)); own = λ b r. absurd r }
    where
      name : (n : ℕ) → Uses (meaning drawing scissor_of (new_record g)) s (texture n) → n ≡ g
      name n u = uses_of drawing scissor_of (λ x m. Unit) (λ x t m v. tt) (new_record g) s n u

  -- a clear in its guest's window
  pub good_clear_color : (b : prelude.Option ScissorBox) (rgba : List ℕ) → ((p : ℕ) → pixel_in 4 1 b p ≡ true → InWindow window 4 1 g p) → Good (made (clear_color b rgba))
  good_clear_color b rgba f = record { box = λ r. f; writer = λ n w. absurd (true≢false (sym w)); user = user; own = λ a r. absurd r }
    where
      user : (n : ℕ) → ReadsAt M (made (clear_color b rgba)) (texture n) ⊎ WritesAt M (made (clear_color b rgba)) (texture n) → (g ≡ n) ⊎ (n ≡ 3)
      user n (inl r) = absurd r
      user n (inr w) = absurd (true≢false (sym w))

  pub good_clear_depth : (b : prelude.Option ScissorBox) (v : Float) → ((p : ℕ) → pixel_in 4 1 b p ≡ true → InWindow window 4 1 g p) → Good (made (clear_depth b v))
  good_clear_depth b v f = record { box = λ r. f; writer = λ n w. absurd (true≢false (sym w)); user = user; own = λ a r. absurd r }
    where
      user : (n : ℕ) → ReadsAt M (made (clear_depth b v)) (texture n) ⊎ WritesAt M (made (clear_depth b v)) (texture n) → (g ≡ n) ⊎ (n ≡ 3)
      user n (inl r) = absurd r
      user n (inr w) = absurd (true≢false (sym w))

  -- a draw in its guest's window, with textures of its own or texture 3, that takes bytes that nobody or its guest wrote last
  pub good_draw : (x : DrawCall) → ((p : ℕ) → pixel_in 4 1 (scissor_of x) p ≡ true → InWindow window 4 1 g p)
      → ((n : ℕ) → In n (names_of x) → (g ≡ n) ⊎ (n ≡ 3))
      → all (λ b. owned_by g (last (byte b))) (taken_of x s) ≡ true
      → Good (made (draw x))
  good_draw x f names bytes = record {
    box = λ r. f;
    writer = λ n w. absurd (true≢false (sym w));
    user = user;
    own = λ b r. all_owned g last _ bytes b r.1;
  }
    where
      user : (n : ℕ) → ReadsAt M (made (draw x)) (texture n) ⊎ WritesAt M (made (draw x)) (texture n) → (g ≡ n) ⊎ (n ≡ 3)
      user n (inl r) = names n r.1
      user n (inr w) = absurd (true≢false (sym w))

  -- a refused call that has read texture 3 at most
  pub good_refused : (c : GuestCall) → is_refused (answer M c s) ≡ true → ((n : ℕ) → WritesAt M (made c) (texture n) → ⊥) → ((n : ℕ) → ReadsAt M (made c) (texture n) → n ≡ 3)
      → ((b : ℕ) → ReadsAt M (made c) (byte b) → ⊥) → Good (made c)
  good_refused c e w r a = record {
    box = λ z. absurd (true≢false (sym e ∙ z));
    writer = λ n k. absurd (w n k);
    user = user;
    own = λ b k. absurd (a b k);
  }
    where
      user : (n : ℕ) → ReadsAt M (made c) (texture n) ⊎ WritesAt M (made c) (texture n) → (g ≡ n) ⊎ (n ≡ 3)
      user n (inl k) = inr (r n k)
      user n (inr k) = absurd (w n k)
