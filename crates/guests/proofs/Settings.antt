-- Setting a parameter keeps the laws of a call: it hangs on its texture's record alone. Assumes nothing.
use Rattle.lists.proofs.Choice.{neither}
use Rattle.std.specs.Prelude.{Option}
use mathlib.Core.Path.{◌≡◌, refl, sym}
use mathlib.Core.Logic.{inl, inr}
use mathlib.Core.Bool.{Bool, true, false, cond}
use Prim.Native.Nat.{ℕ}
use lib.Dec.{eqb}
use Rattle.settings.specs.declared.ScissorBox.{ScissorBox}
use Rattle.texture.specs.Parameters.{set_check, set_record, Setting, setting, set_of}
use Rattle.isolation.specs.Machine.{Act, Guest}
use Rattle.isolation.specs.Acts.{check}
use Rattle.frames.specs.State.{Place, sizes, pixel, byte, texture, Answer, refused}
use Rattle.frames.specs.Windows.{Owed}
use Rattle.frames.proofs.Calls.{check_kept, owed_by}
use Rattle.guests.specs.Calls as Calls
use Rattle.guests.specs.Calls.{Shared, answer_of, with_texture, SetReads, set_touches}
use Rattle.guests.specs.Guests.{set_parameter, meaning, InBox, InWindow, bad_target}
use Rattle.guests.proofs.Choices.{same, put_back, Nothing}
use Rattle.guests.proofs.Changes.{recast, recast_kept}

module _ (n code value : ℕ) where
  abbrev sets : Act Shared Answer Place
  sets = recast n (λ t. set_record t code value)

  abbrev whole : Act Shared Answer Place
  whole = check (λ s. set_check code value) Nothing refused sets

  reads : (s : Shared) (l : Place) → whole.Reads s l → SetReads n code value l
  reads s sizes (inl r) = r
  reads s sizes (inr r) = r.1
  reads s (pixel p) (inl r) = absurd r
  reads s (pixel p) (inr r) = absurd r.1
  reads s (byte a) (inl r) = absurd r
  reads s (byte a) (inr r) = absurd r.1
  reads s (texture m) (inl r) = absurd r
  reads s (texture m) (inr r) = (r.1, r.0)

  writes : (s : Shared) (l : Place) → whole.writes s l ≡ set_touches n code value l
  writes s sizes = neither (eqb (set_check code value) 0)
  writes s (pixel p) = neither (eqb (set_check code value) 0)
  writes s (byte a) = neither (eqb (set_check code value) 0)
  writes s (texture m) = refl

  answers : (s : Shared) → (whole.does s).0 ≡ ((Calls.set_parameter n code value).does s).0
  unfolding set_of
  answers s = go (eqb (set_check code value) 0) refl
    where
      go : (x : Bool) → eqb (set_check code value) 0 ≡ x
          → (cond {A = Answer × Shared} x (sets.does s) (refused (set_check code value), s)).0
          ≡ answer_of (cond {A = Setting} x (setting 0 (set_record (s.textures n) code value)) (setting (set_check code value) (s.textures n))).answer
      go true e = refl
      go false e = rw e refl

  leaves : (s : Shared) → (whole.does s).1 ≡ ((Calls.set_parameter n code value).does s).1
  unfolding set_of
  leaves s = go (eqb (set_check code value) 0)
    where
      go : (x : Bool)
          → (cond {A = Answer × Shared} x (sets.does s) (refused (set_check code value), s)).1
          ≡ with_texture s n (cond {A = Setting} x (setting 0 (set_record (s.textures n) code value)) (setting (set_check code value) (s.textures n))).texture s.store
      go true = refl
      go false = sym (put_back s n)

  module _ {Draw : Type 0} (drawing : Draw → Act Shared Answer Place) (scissor_of : Draw → Option ScissorBox) (window : Guest → ScissorBox) where
    pub set_parameter_owed : Owed (meaning drawing scissor_of) (InBox drawing scissor_of) (InWindow window) bad_target (set_parameter n code value)
    set_parameter_owed =
        owed_by (meaning drawing scissor_of) (InBox drawing scissor_of) (InWindow window) bad_target (set_parameter n code value) whole
        (check_kept (λ s. Unit {0}) _ (λ s. set_check code value) Nothing sets (λ p x. x) (λ s t x y g. refl) (recast_kept n (λ t. set_record t code value) _ _))
        answers (λ s l. same _ _ (leaves s) l) reads writes (λ s p r. inl r)
