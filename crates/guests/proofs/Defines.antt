-- Defining a level keeps the laws of a call: 9 looks at the arguments alone, the rest hangs on the texture's record and the sizes.
-- Assumes nothing.
use Rattle.lists.proofs.Choice.{neither}
use Rattle.std.specs.Prelude.{Option}
use mathlib.Core.Path.{◌≡◌, refl, sym, ap, ◌∙◌}
use mathlib.Core.Logic.{inl, inr}
use mathlib.Core.Bool.{Bool, true, false, cond}
use mathlib.Core.List.{List}
use Prim.Native.Nat.{ℕ}
use lib.Dec.{eqb, ltb}
use lib.ListN.{length}
use borrow.Author.Tests.{eqb-true}
use Rattle.settings.specs.declared.ScissorBox.{ScissorBox}
use Rattle.levels.specs.declared.Texture.{Texture}
use Rattle.levels.specs.Levels.{level_at}
use Rattle.texture.specs.Define.{record_check, define_check, define_record, Outcome, define_of, in_run, define_writes}
use Rattle.texture.proofs.Written.{define_done, define_refused, define_length, define_inside, define_outside}
use Rattle.isolation.specs.Machine.{Act, Guest}
use Rattle.isolation.specs.Acts.{check}
use Rattle.frames.specs.State.{Place, sizes, pixel, byte, texture, Answer, refused}
use Rattle.frames.specs.Windows.{Owed}
use Rattle.frames.proofs.Calls.{check_kept, owed_by}
use Rattle.guests.specs.Calls as Calls
use Rattle.guests.specs.Calls.{Shared, answer_of, with_texture, sides_check, define_number, DefineReads, define_touches}
use Rattle.guests.specs.Guests.{define_level, meaning, InBox, InWindow, bad_target}
use Rattle.guests.proofs.Choices.{same, once, one_number, put_back, Nothing, SizesAnd}
use Rattle.guests.proofs.Changes.{change, Stores, change_kept}

module _ (n k w h place : ℕ) (rgba : List ℕ) where
  abbrev rest : Shared → ℕ
  rest s = record_check (length s.store) (s.textures n) k (level_at place w h) (length rgba)

  abbrev new_record : Texture → Texture
  new_record t = define_record t k (level_at place w h)

  abbrev new_store : Texture → List ℕ → List ℕ
  new_store t st = (define_of st t k w h place rgba).store

  abbrev bytes : Texture → ℕ → ℕ → Bool
  bytes t len a = define_writes len t k w h place (length rgba) a

  abbrev defines : Act Shared Answer Place
  defines = change n new_record new_store bytes

  abbrev whole : Act Shared Answer Place
  whole = check (λ s. sides_check k w h) Nothing refused (check rest (SizesAnd n) refused defines)

  stores : Stores n new_record new_store bytes
  stores = record {
    long = λ t st. define_length st t k w h place rgba;
    stay = λ t st a e. define_outside st t k w h place rgba a e;
    alike = λ t st su a q e. define_inside st t k w h place rgba a e ∙ sym (define_inside su t k w h place rgba a (rw (← q) e));
  }

  -- 01's checks, in two parts
  two_parts : (m : ℕ) (t : Texture)
      → define_check m t k w h place (length rgba) ≡ cond (eqb (sides_check k w h) 0) (record_check m t k (level_at place w h) (length rgba)) (sides_check k w h)
  unfolding define_check sides_check
  two_parts m t = go (ltb 1024 w) (ltb 1024 h) (ltb 10 k)
    where
      r : ℕ
      r = record_check m t k (level_at place w h) (length rgba)

      go : (a b c : Bool) → cond a 9 (cond b 9 (cond c 9 r)) ≡ cond (eqb (cond a 9 (cond b 9 (cond c 9 0))) 0) r (cond a 9 (cond b 9 (cond c 9 0)))
      go true b c = refl
      go false true c = refl
      go false false true = refl
      go false false false = refl

  -- ---- the whole call

  reads : (s : Shared) (l : Place) → whole.Reads s l → DefineReads n k w h l
  reads s sizes (inl r) = absurd r
  reads s sizes (inr r) = r.0
  reads s (pixel p) (inl r) = absurd r
  reads s (pixel p) (inr (e, inl r)) = absurd r
  reads s (pixel p) (inr (e, inr r)) = absurd r.1
  reads s (byte a) (inl r) = absurd r
  reads s (byte a) (inr (e, inl r)) = absurd r
  reads s (byte a) (inr (e, inr r)) = absurd r.1
  reads s (texture m) (inl r) = absurd r
  reads s (texture m) (inr (e, inl r)) = (r, e)
  reads s (texture m) (inr (e, inr r)) = (r.1, e)

  one : (s : Shared) (x : Bool) → cond (eqb (sides_check k w h) 0) (cond (eqb (rest s) 0) x false) false ≡ cond (eqb (define_number n k w h place rgba s) 0) x false
  one s x = one_number (λ m. false) x (sides_check k w h) (rest s) ∙ ap (λ m. cond (eqb m 0) x false) (sym (two_parts (length s.store) (s.textures n)))

  writes : (s : Shared) (l : Place) → whole.writes s l ≡ define_touches n k w h place rgba s l
  unfolding define_writes
  writes s sizes = one s false ∙ neither (eqb (define_number n k w h place rgba s) 0)
  writes s (pixel p) = one s false ∙ neither (eqb (define_number n k w h place rgba s) 0)
  writes s (byte a) =
      one s (cond (eqb (define_number n k w h place rgba s) 0) (in_run place (length rgba) a) false) ∙ once (eqb (define_number n k w h place rgba s) 0) (in_run place (length rgba) a)
  writes s (texture m) = one s (eqb m n)

  does : (s : Shared) → whole.does s ≡ (Calls.define_level n k w h place rgba).does s
  does s =
      one_number (λ m. (refused m, s)) (defines.does s) (sides_check k w h) (rest s)
      ∙ ap (λ m. cond (eqb m 0) (defines.does s) (refused m, s)) (sym (two_parts (length s.store) (s.textures n)))
      ∙ go (eqb d 0) refl
    where
      d : ℕ
      d = define_number n k w h place rgba s

      o : Outcome
      o = define_of s.store (s.textures n) k w h place rgba

      go : (x : Bool) → eqb d 0 ≡ x → cond {A = Answer × Shared} x (defines.does s) (refused d, s) ≡ (answer_of o.answer, with_texture s n o.texture o.store)
      go true e =
          ap (λ (q : Outcome). (answer_of q.answer, with_texture s n q.texture o.store)) (sym (define_done s.store (s.textures n) k w h place rgba (eqb-true d 0 e)))
      go false e =
          let a : refused d ≡ answer_of d = rw e refl in
          (λ i. (a i, sym (put_back s n) i))
          ∙ ap (λ (q : Outcome). (answer_of q.answer, with_texture s n q.texture q.store)) (sym (define_refused s.store (s.textures n) k w h place rgba e))

  module _ {Draw : Type 0} (drawing : Draw → Act Shared Answer Place) (scissor_of : Draw → Option ScissorBox) (window : Guest → ScissorBox) where
    pub define_level_owed : Owed (meaning drawing scissor_of) (InBox drawing scissor_of) (InWindow window) bad_target (define_level n k w h place rgba)
    define_level_owed =
        owed_by (meaning drawing scissor_of) (InBox drawing scissor_of) (InWindow window) bad_target (define_level n k w h place rgba) whole
        (check_kept (λ s. Unit {0}) _ (λ s. sides_check k w h) Nothing (check rest (SizesAnd n) refused defines) (λ p x. x) (λ s t x y g. refl)
        (check_kept _ _ rest (SizesAnd n) defines (λ p x. x) (λ s t x y g. rw ((g sizes tt).same_store, g (texture n) refl))
        (change_kept n new_record new_store bytes _ _ stores)))
        (λ s. ap (λ x. x.0) (does s)) (λ s l. same _ _ (ap (λ x. x.1) (does s)) l) reads writes (λ s p r. absurd r)
