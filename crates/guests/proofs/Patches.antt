-- Patching a level keeps the laws of a call: its checks and its rows' places hang on the texture's record and the sizes.
-- Assumes nothing.
use Rattle.lists.proofs.Choice.{neither}
use Rattle.std.specs.Prelude.{Option}
use mathlib.Core.Path.{◌≡◌, refl, sym, ap, ◌∙◌, subst}
use mathlib.Core.Logic.{inl, inr}
use mathlib.Core.Bool.{Bool, true, false, cond}
use mathlib.Core.List.{List}
use Prim.Native.Nat.{ℕ}
use lib.Dec.{eqb}
use lib.ListN.{length}
use borrow.Author.Tests.{eqb-true}
use Rattle.settings.specs.declared.ScissorBox.{ScissorBox}
use Rattle.levels.specs.declared.Texture.{Texture}
use Rattle.levels.specs.Levels.{level_of}
use Rattle.texture.specs.Patch.{Patched, patch_of, in_rows, patch_writes}
use Rattle.texture.proofs.Written.{patch_effect, patch_none, patch_length, patch_inside, patch_outside}
use Rattle.isolation.specs.Machine.{Act, Guest}
use Rattle.isolation.specs.Acts.{check}
use Rattle.frames.specs.State.{Place, sizes, pixel, byte, texture, Answer, refused}
use Rattle.frames.specs.Windows.{Owed}
use Rattle.frames.proofs.Calls.{check_kept, owed_by}
use Rattle.guests.specs.Calls as Calls
use Rattle.guests.specs.Calls.{Shared, answer_of, with_texture, patch_number, PatchReads, patch_touches}
use Rattle.guests.specs.Guests.{patch_level, meaning, InBox, InWindow, bad_target}
use Rattle.guests.proofs.Choices.{same, once, put_back, SizesAnd}
use Rattle.guests.proofs.Changes.{change, Stores, change_kept}

module _ (n k x y w h : ℕ) (rgba : List ℕ) where
  abbrev new_store : Texture → List ℕ → List ℕ
  new_store t st = (patch_of st t k x y w h rgba).store

  abbrev bytes : Texture → ℕ → ℕ → Bool
  bytes t len a = patch_writes len t k x y w h (length rgba) a

  abbrev patches : Act Shared Answer Place
  patches = change n (λ t. t) new_store bytes

  abbrev whole : Act Shared Answer Place
  whole = check (patch_number n k x y w h rgba) (SizesAnd n) refused patches

  stores : Stores n (λ t. t) new_store bytes
  stores = record {
    long = λ t st. patch_length t k x y w h rgba st;
    stay = λ t st a e. patch_outside t k x y w h rgba st a e;
    alike = λ t st su a q e. patch_inside t k x y w h rgba st su q a e;
  }

  reads : (s : Shared) (l : Place) → whole.Reads s l → PatchReads n l
  reads s sizes r = tt
  reads s (pixel p) (inl r) = absurd r
  reads s (pixel p) (inr r) = absurd r.1
  reads s (byte a) (inl r) = absurd r
  reads s (byte a) (inr r) = absurd r.1
  reads s (texture m) (inl r) = subst (λ (i : ℕ). PatchReads n (texture i)) (sym r) refl
  reads s (texture m) (inr r) = subst (λ (i : ℕ). PatchReads n (texture i)) (sym r.1) refl

  writes : (s : Shared) (l : Place) → whole.writes s l ≡ patch_touches n k x y w h rgba s l
  unfolding patch_writes
  writes s sizes = neither (eqb (patch_number n k x y w h rgba s) 0)
  writes s (pixel p) = neither (eqb (patch_number n k x y w h rgba s) 0)
  writes s (byte a) = once (eqb (patch_number n k x y w h rgba s) 0) (in_rows (level_of (s.textures n) k) x y w h a)
  writes s (texture m) = refl

  does : (s : Shared) → whole.does s ≡ (Calls.patch_level n k x y w h rgba).does s
  does s = go (eqb d 0) refl
    where
      d : ℕ
      d = patch_number n k x y w h rgba s

      o : Patched
      o = patch_of s.store (s.textures n) k x y w h rgba

      go : (b : Bool) → eqb d 0 ≡ b → cond {A = Answer × Shared} b (patches.does s) (refused d, s) ≡ (answer_of o.answer, with_texture s n (s.textures n) o.store)
      go true e = ap (λ (q : Patched). (answer_of q.answer, with_texture s n (s.textures n) o.store)) (sym (patch_effect (s.textures n) k x y w h rgba s.store (eqb-true d 0 e)))
      go false e =
          let a : refused d ≡ answer_of d = rw e refl in
          (λ i. (a i, sym (put_back s n) i))
          ∙ ap (λ (q : Patched). (answer_of q.answer, with_texture s n (s.textures n) q.store)) (sym (patch_none (s.textures n) k x y w h rgba s.store e))

  module _ {Draw : Type 0} (drawing : Draw → Act Shared Answer Place) (scissor_of : Draw → Option ScissorBox) (window : Guest → ScissorBox) where
    pub patch_level_owed : Owed (meaning drawing scissor_of) (InBox drawing scissor_of) (InWindow window) bad_target (patch_level n k x y w h rgba)
    patch_level_owed =
        owed_by (meaning drawing scissor_of) (InBox drawing scissor_of) (InWindow window) bad_target (patch_level n k x y w h rgba) whole
        (check_kept (λ s. Unit {0}) _ (patch_number n k x y w h rgba) (SizesAnd n) patches (λ p z. z) (λ s t a b g. rw ((g sizes tt).same_store, g (texture n) refl))
        (change_kept n (λ t. t) new_store bytes _ _ stores))
        (λ s. ap (λ z. z.0) (does s)) (λ s l. same _ _ (ap (λ z. z.1) (does s)) l) reads writes (λ s p r. absurd r)
