-- A new record keeps the laws of a call: what it writes hangs on nothing. Assumes nothing.
use Rattle.std.specs.Prelude.{Option}
use mathlib.Core.Path.{◌≡◌, refl, sym, ap, ◌∙◌}
use mathlib.Core.Logic.{inl, inr}
use mathlib.Core.Bool.{true, false, cond, true≢false}
use Prim.Native.Nat.{ℕ}
use Rattle.settings.specs.declared.ScissorBox.{ScissorBox}
use Rattle.levels.specs.Levels.{new_texture}
use Rattle.isolation.specs.Machine.{Act, Guest}
use Rattle.isolation.specs.Acts.{Uses}
use Rattle.frames.specs.State.{Place, sizes, pixel, byte, texture, Same, Answer}
use Rattle.frames.specs.Windows.{Owed}
use Rattle.guests.specs.Calls as Calls
use Rattle.guests.specs.Calls.{Shared}
use Rattle.guests.specs.Guests.{new_record, meaning, InBox, InWindow, bad_target}

module _ (n : ℕ) where
  written : (s t : Shared) (l : Place) → (Calls.new_record n).writes s l ≡ true → Same l ((Calls.new_record n).does s).1 ((Calls.new_record n).does t).1
  written s t sizes k = absurd (true≢false (sym k))
  written s t (pixel p) k = absurd (true≢false (sym k))
  written s t (byte a) k = absurd (true≢false (sym k))
  written s t (texture m) k = ap (λ b. cond b new_texture (s.textures m)) k ∙ sym (ap (λ b. cond b new_texture (t.textures m)) k)

  frame : (s : Shared) (l : Place) → (Calls.new_record n).writes s l ≡ false → Same l s ((Calls.new_record n).does s).1
  frame s sizes k = record { same_width = refl; same_height = refl; same_colors = refl; same_depths = refl; same_store = refl }
  frame s (pixel p) k = refl
  frame s (byte a) k = refl
  frame s (texture m) k = sym (ap (λ b. cond b new_texture (s.textures m)) k)

  no_pixel : (s : Shared) (p : ℕ) → Uses (Calls.new_record n) s (pixel p) → ⊥
  no_pixel s p (inl r) = r
  no_pixel s p (inr w) = true≢false (sym w)

  module _ {Draw : Type 0} (drawing : Draw → Act Shared Answer Place) (scissor_of : Draw → Option ScissorBox) (window : Guest → ScissorBox) where
    pub new_record_owed : Owed (meaning drawing scissor_of) (InBox drawing scissor_of) (InWindow window) bad_target (new_record n)
    new_record_owed = record {
      local = record { alike = λ s t g. record { answer = refl; footprint = λ l. refl; written = written s t }; frame = frame };
      keeps = λ s. refl;
      stays = λ s p u. absurd (no_pixel s p u);
    }
