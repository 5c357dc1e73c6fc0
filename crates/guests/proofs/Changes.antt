-- A define, a patch or a setting past its checks: it changes one texture's record and some bytes of the store, from the record and
-- the sizes alone, and so keeps the laws of a call. Assumes nothing.
use mathlib.Core.Path.{◌≡◌, refl, sym, ap, ◌∙◌}
use mathlib.Core.Logic.{inl, inr}
use mathlib.Core.Bool.{Bool, true, false, true≢false}
use mathlib.Core.List.{List}
use Prim.Native.Nat.{ℕ}
use lib.Dec.{eqb}
use lib.ListN.{length, get_or}
use Rattle.levels.specs.declared.Texture.{Texture}
use Rattle.isolation.specs.Machine.{Act, Agree, Alike}
use Rattle.isolation.specs.Acts.{Uses}
use Rattle.frames.specs.State.{SameSizes, Place, sizes, pixel, byte, texture, Same, places, Answer, done}
use Rattle.frames.proofs.Calls.{KeptOn, off_frame}
use Rattle.guests.specs.Calls.{Shared, with_texture}
use Rattle.guests.proofs.Choices.{SizesAnd}

-- f: the record that it leaves, from the one it finds. g: the store that it leaves. touch: the bytes that it writes.
module _ (n : ℕ) (f : Texture → Texture) (g : Texture → List ℕ → List ℕ) (touch : Texture → ℕ → ℕ → Bool) where
  abbrev pub changed : Shared → Shared
  changed s = with_texture s n (f (s.textures n)) (g (s.textures n) s.store)

  abbrev pub change_writes : Shared → Place → Bool
  change_writes s sizes = false
  change_writes s (pixel p) = false
  change_writes s (byte a) = touch (s.textures n) (length s.store) a
  change_writes s (texture m) = eqb m n

  abbrev pub change : Act Shared Answer Place
  change = record { does = λ s. (done, changed s); Reads = λ s. SizesAnd n; writes = change_writes }

  -- the store keeps its length, a byte that is not written stays, and one that is written is the same on any store of that length
  pub record Stores : Type 0 where
    pub long : (t : Texture) (st : List ℕ) → length (g t st) ≡ length st
    pub stay : (t : Texture) (st : List ℕ) (a : ℕ) → touch t (length st) a ≡ false → get_or (g t st) a 0 ≡ get_or st a 0
    pub alike : (t : Texture) (st su : List ℕ) (a : ℕ) → length st ≡ length su → touch t (length st) a ≡ true → get_or (g t st) a 0 ≡ get_or (g t su) a 0

  pub change_kept : (B : Shared → Type 0) (Q : Shared → ℕ → Type 0) → Stores → KeptOn B Q change
  change_kept B Q w = off_frame B Q change (record { alike_on = alike_on; frame_on = frame_on }) (λ s. refl) none
    where
      none : (s : Shared) (p : ℕ) → Uses change s (pixel p) → ⊥
      none s p (inl r) = r
      none s p (inr r) = true≢false (sym r)

      print : (s t : Shared) → SameSizes s t → s.textures n ≡ t.textures n → (l : Place) → change_writes s l ≡ change_writes t l
      print s t z e sizes = refl
      print s t z e (pixel p) = refl
      print s t z e (byte a) = rw (z.same_store, e)
      print s t z e (texture m) = refl

      after : (s t : Shared) → SameSizes s t → s.textures n ≡ t.textures n → (l : Place) → change_writes s l ≡ true → Same l (changed s) (changed t)
      after s t z e sizes k = absurd (true≢false (sym k))
      after s t z e (pixel p) k = absurd (true≢false (sym k))
      after s t z e (byte a) k = w.alike (s.textures n) s.store t.store a z.same_store k ∙ ap (λ r. get_or (g r t.store) a 0) e
      after s t z e (texture m) k = rw k (ap f e)

      alike_on : (s t : Shared) → B s → B t → Agree places change s t → Alike places change s t
      alike_on s t x y h = record { answer = refl; footprint = print s t (h sizes tt) (h (texture n) refl); written = after s t (h sizes tt) (h (texture n) refl) }

      frame_on : (s : Shared) (l : Place) → B s → change_writes s l ≡ false → Same l s (changed s)
      frame_on s sizes x k = record { same_width = refl; same_height = refl; same_colors = refl; same_depths = refl; same_store = sym (w.long (s.textures n) s.store) }
      frame_on s (pixel p) x k = refl
      frame_on s (byte a) x k = sym (w.stay (s.textures n) s.store a k)
      frame_on s (texture m) x k = rw k refl

-- A change of one texture's record alone, which looks at no sizes.
module _ (n : ℕ) (f : Texture → Texture) where
  abbrev pub ItsRecord : Place → Type 0
  ItsRecord sizes = ⊥
  ItsRecord (pixel p) = ⊥
  ItsRecord (byte a) = ⊥
  ItsRecord (texture m) = m ≡ n

  abbrev pub recast_writes : Place → Bool
  recast_writes sizes = false
  recast_writes (pixel p) = false
  recast_writes (byte a) = false
  recast_writes (texture m) = eqb m n

  abbrev pub recast : Act Shared Answer Place
  recast = record { does = λ s. (done, with_texture s n (f (s.textures n)) s.store); Reads = λ s. ItsRecord; writes = λ s. recast_writes }

  pub recast_kept : (B : Shared → Type 0) (Q : Shared → ℕ → Type 0) → KeptOn B Q recast
  recast_kept B Q = off_frame B Q recast (record { alike_on = alike_on; frame_on = frame_on }) (λ s. refl) none
    where
      none : (s : Shared) (p : ℕ) → Uses recast s (pixel p) → ⊥
      none s p (inl r) = r
      none s p (inr r) = true≢false (sym r)

      after : (s t : Shared) → s.textures n ≡ t.textures n → (l : Place) → recast_writes l ≡ true → Same l (recast.does s).1 (recast.does t).1
      after s t e sizes k = absurd (true≢false (sym k))
      after s t e (pixel p) k = absurd (true≢false (sym k))
      after s t e (byte a) k = absurd (true≢false (sym k))
      after s t e (texture m) k = rw k (ap f e)

      alike_on : (s t : Shared) → B s → B t → Agree places recast s t → Alike places recast s t
      alike_on s t x y h = record { answer = refl; footprint = λ l. refl; written = after s t (h (texture n) refl) }

      frame_on : (s : Shared) (l : Place) → B s → recast_writes l ≡ false → Same l s (recast.does s).1
      frame_on s sizes x k = record { same_width = refl; same_height = refl; same_colors = refl; same_depths = refl; same_store = refl }
      frame_on s (pixel p) x k = refl
      frame_on s (byte a) x k = refl
      frame_on s (texture m) x k = rw k refl
