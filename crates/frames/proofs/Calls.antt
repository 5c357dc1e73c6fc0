-- What a kind of call owes, put together from its parts: a check in front, another call that does the same, a draw's fragments.
-- Assumes nothing.
use mathlib.Core.Path.{◌≡◌, refl, sym, ap, ap₂, ◌∙◌, subst}
use mathlib.Core.Logic.{◌⊎◌, inl, inr}
use mathlib.Core.Bool.{Bool, true, false, cond, true≢false}
use mathlib.Core.List.{List}
use Prim.Native.Nat.{ℕ, ◌+◌, ◌*◌, ◌≤◌, ◌<◌}
use lib.Dec.{eqb}
use lib.ListN.{length}
use Rattle.isolation.specs.Machine.{Act, Agree, Alike, Guest, In}
use Rattle.isolation.specs.Acts.{check, Uses}
use Rattle.isolation.proofs.Acts.{LocalOn, everywhere, check_local, as_local}
use Rattle.frames.specs.State.{State, SameSizes, Place, sizes, pixel, byte, texture, Same, places, pixel_at, Answer, drew, refused, is_refused}
use Rattle.frames.specs.Windows.{bad_target, Owed}
use Rattle.frames.specs.Fragments.{paint, Canvas, Work, shown, FragLocal, work_on, painted, PaintReads, paint_writes, paints}
use Rattle.frames.proofs.Fragments.{AllFit, Both, paint_lengths, paint_other, paint_both}

-- on states with B the call keeps the two laws; it never writes the sizes; and it uses a pixel only with Q, and not if it is refused
pub record KeptOn {Texture : Type 0} (B : State Texture → Type 0) (Q : State Texture → ℕ → Type 0) (a : Act (State Texture) Answer Place) : Type 0 where
  pub laws : LocalOn places B a
  pub keeps : (s : State Texture) → a.writes s sizes ≡ false
  pub stays : (s : State Texture) (p : ℕ) → B s → Uses a s (pixel p) → (is_refused (a.does s).0 ≡ false) × Q s p

module _ {Texture : Type 0} where
  -- a call that leaves every pixel alone
  pub off_frame : (B : State Texture → Type 0) (Q : State Texture → ℕ → Type 0) (a : Act (State Texture) Answer Place)
      → LocalOn places B a → ((s : State Texture) → a.writes s sizes ≡ false) → ((s : State Texture) (p : ℕ) → Uses a s (pixel p) → ⊥) → KeptOn B Q a
  off_frame B Q a laws keeps none = record { laws = laws; keeps = keeps; stays = λ s p b u. absurd (none s p u) }

  pub check_kept : (B : State Texture → Type 0) (Q : State Texture → ℕ → Type 0) (number : State Texture → ℕ) (Looks : Place → Type 0)
      (a : Act (State Texture) Answer Place) → ((p : ℕ) → Looks (pixel p) → ⊥)
      → ((s t : State Texture) → B s → B t → ((l : Place) → Looks l → Same l s t) → number s ≡ number t)
      → KeptOn (λ s. B s × (eqb (number s) 0 ≡ true)) Q a → KeptOn B Q (check number Looks refused a)
  check_kept B Q number Looks a off same k = record {
    laws = check_local places B number Looks refused a same k.laws;
    keeps = λ s. size s (eqb (number s) 0);
    stays = λ s p b u. stay s p b (eqb (number s) 0) refl u;
  }
    where
      size : (s : State Texture) (x : Bool) → cond x (a.writes s sizes) false ≡ false
      size s true = k.keeps s
      size s false = refl

      stay : (s : State Texture) (p : ℕ) → B s → (x : Bool) → eqb (number s) 0 ≡ x
          → (Looks (pixel p) ⊎ ((x ≡ true) × a.Reads s (pixel p))) ⊎ (cond x (a.writes s (pixel p)) false ≡ true)
          → (is_refused (cond x (a.does s) (refused (number s), s)).0 ≡ false) × Q s p
      stay s p b x e (inl (inl l)) = absurd (off p l)
      stay s p b true e (inl (inr r)) = k.stays s p (b, e) (inl r.1)
      stay s p b true e (inr w) = k.stays s p (b, e) (inr w)
      stay s p b false e (inl (inr r)) = absurd (true≢false (sym r.0))
      stay s p b false e (inr w) = absurd (true≢false (sym w))

-- what a call owes, from a call that does the same
module _ {Texture Call : Type 0} (act : Call → Act (State Texture) Answer Place) (Box : ℕ → ℕ → Call → ℕ → Type 0)
    (Window : ℕ → ℕ → Guest → ℕ → Type 0) (Bad : ℕ → ℕ → ℕ → ℕ → Bool) where
  pub owed_by : (c : Call) (a : Act (State Texture) Answer Place)
      → KeptOn (λ s. Unit {0}) (λ s p. (bad_target act Box Window Bad s ≡ false) × Box s.width s.height c p) a
      → ((s : State Texture) → (a.does s).0 ≡ ((act c).does s).0) → ((s : State Texture) (l : Place) → Same l (a.does s).1 ((act c).does s).1)
      → ((s : State Texture) (l : Place) → a.Reads s l → (act c).Reads s l) → ((s : State Texture) (l : Place) → a.writes s l ≡ (act c).writes s l)
      → ((s : State Texture) (p : ℕ) → (act c).Reads s (pixel p) → a.Reads s (pixel p))
      → Owed act Box Window Bad c
  owed_by c a k answers leaves reads writes back = record {
    local = as_local places a (act c) answers leaves reads writes (everywhere places a k.laws);
    keeps = λ s. sym (writes s sizes) ∙ k.keeps s;
    stays = λ s p u. go s p (k.stays s p tt (uses s p u));
  }
    where
      uses : (s : State Texture) (p : ℕ) → Uses (act c) s (pixel p) → Uses a s (pixel p)
      uses s p (inl r) = inl (back s p r)
      uses s p (inr w) = inr (writes s (pixel p) ∙ w)

      go : (s : State Texture) (p : ℕ) → (is_refused (a.does s).0 ≡ false) × ((bad_target act Box Window Bad s ≡ false) × Box s.width s.height c p)
          → (bad_target act Box Window Bad s ≡ false) × (is_refused ((act c).does s).0 ≡ false) × Box s.width s.height c p
      go s p h = (h.1.0, sym (ap is_refused (answers s)) ∙ h.0, h.1.1)

-- ---- a draw past its checks

-- its work hangs on the named records alone; on states with B its fragments have their law, each lies in the scissor box, and the
-- pixels of the box are on the target
module _ {Texture Item C : Type 0} (canvas : Canvas C) (names : List ℕ) (within : ℕ → ℕ → ℕ → Bool) (work : ℕ → ℕ → (ℕ → Texture) → Work Item C)
    (named : (w h : ℕ) (f g : ℕ → Texture) → ((n : ℕ) → In n names → f n ≡ g n) → work w h f ≡ work w h g)
    (B : State Texture → Type 0)
    (law : (s : State Texture) → B s → FragLocal canvas (work_on canvas names within work s))
    (boxed : (s : State Texture) → B s → (i : Item) → In i (work_on canvas names within work s).items → within s.width s.height ((work_on canvas names within work s).at i) ≡ true)
    (room : (s : State Texture) → B s → (p : ℕ) → within s.width s.height p ≡ true → (p * 4 + 4 ≤ length s.colors) × (p < length s.depths)) where
  abbrev Painting : Act (State Texture) Answer Place
  Painting = paints canvas names within work

  abbrev begun : State Texture → C
  begun s = canvas.begin s.colors s.depths

  abbrev W : State Texture → Work Item C
  W = work_on canvas names within work

  -- what the target shows
  begun_shown : (s : State Texture) (p : ℕ) → shown canvas (begun s) p ≡ pixel_at s.colors s.depths p
  begun_shown s p = ap₂ (λ x y. pixel_at x y p) (canvas.begin_colors s.colors s.depths) (canvas.begin_depths s.colors s.depths)

  fit : (s : State Texture) → B s → AllFit canvas (W s).at (W s).items (begun s)
  fit s ok i m =
      let q = room s ok _ (boxed s ok i m) in
      (rw (canvas.begin_colors s.colors s.depths) q.0, rw (canvas.begin_depths s.colors s.depths) q.1)

  begun_both : (s t : State Texture) → ((l : Place) → PaintReads canvas names within work s l → Same l s t)
      → Both canvas (λ p. within s.width s.height p ≡ true) (begun s) (begun t)
  begun_both s t g =
      let z : SameSizes s t = g sizes tt in
      record {
        both_lengths = (
          ap length (canvas.begin_colors s.colors s.depths) ∙ z.same_colors ∙ sym (ap length (canvas.begin_colors t.colors t.depths)),
          ap length (canvas.begin_depths s.colors s.depths) ∙ z.same_depths ∙ sym (ap length (canvas.begin_depths t.colors t.depths)),
        );
        both_count = canvas.begin_count s.colors s.depths ∙ sym (canvas.begin_count t.colors t.depths);
        both_shown = λ p k. begun_shown s p ∙ g (pixel p) k ∙ sym (begun_shown t p);
      }

  -- one work for both, once sizes and records are the same
  same_work : (s t : State Texture) → ((l : Place) → PaintReads canvas names within work s l → Same l s t) → W s ≡ W t
  same_work s t g =
      let z : SameSizes s t = g sizes tt in
      named s.width s.height s.textures t.textures (λ n i. g (texture n) i) ∙ rw (z.same_width, z.same_height)

  painted_both : (s t : State Texture) → B s → ((l : Place) → PaintReads canvas names within work s l → Same l s t)
      → Both canvas (λ p. within s.width s.height p ≡ true) (painted canvas names within work s) (painted canvas names within work t)
  painted_both s t ok g =
      subst (λ (w : Work Item C). Both canvas (λ p. within s.width s.height p ≡ true) (painted canvas names within work s) (paint (w.step t.store) w.items (begun t)))
      (same_work s t g)
      (paint_both canvas (W s) (law s ok) (λ p. within s.width s.height p ≡ true) s.store t.store (W s).items (begun s) (begun t)
      (fit s ok) (boxed s ok) (g sizes tt).same_store (λ b i. g (byte b) i) (begun_both s t g))

  painted_local : LocalOn places B Painting
  painted_local = record { alike_on = alike; frame_on = frame }
    where
      after : (s t : State Texture) → B s → Agree places Painting s t → (l : Place) → paint_writes canvas names within work s l ≡ true
          → Same l (Painting.does s).1 (Painting.does t).1
      after s t ok g sizes e = absurd (true≢false (sym e))
      after s t ok g (pixel p) e = (painted_both s t ok g).both_shown p e
      after s t ok g (byte b) e = absurd (true≢false (sym e))
      after s t ok g (texture n) e = absurd (true≢false (sym e))

      print : (s t : State Texture) → SameSizes s t → (l : Place) → paint_writes canvas names within work s l ≡ paint_writes canvas names within work t l
      print s t z sizes = refl
      print s t z (pixel p) = rw (z.same_width, z.same_height)
      print s t z (byte b) = refl
      print s t z (texture n) = refl

      alike : (s t : State Texture) → B s → B t → Agree places Painting s t → Alike places Painting s t
      alike s t ok fine g = record { answer = ap drew (painted_both s t ok g).both_count; footprint = print s t (g sizes tt); written = after s t ok g }

      frame : (s : State Texture) (l : Place) → B s → paint_writes canvas names within work s l ≡ false → Same l s (Painting.does s).1
      frame s sizes ok e =
          let k = paint_lengths canvas (W s) (law s ok) s.store (W s).items (begun s) in
          record {
            same_width = refl;
            same_height = refl;
            same_store = refl;
            same_colors = sym (k.0 ∙ ap length (canvas.begin_colors s.colors s.depths));
            same_depths = sym (k.1 ∙ ap length (canvas.begin_depths s.colors s.depths));
          }
      frame s (pixel p) ok e =
          sym (paint_other canvas (W s) (law s ok) s.store (W s).items (begun s) p (fit s ok)
          (λ i m q. true≢false (sym (boxed s ok i m) ∙ subst (λ (k : ℕ). within s.width s.height k ≡ false) q e))
          ∙ begun_shown s p)
      frame s (byte b) ok e = refl
      frame s (texture n) ok e = refl

  -- such a draw keeps the laws and its box
  pub paints_kept : KeptOn B (λ s p. within s.width s.height p ≡ true) Painting
  paints_kept = record { laws = painted_local; keeps = λ s. refl; stays = λ s p b u. (refl, go s p u) }
    where
      go : (s : State Texture) (p : ℕ) → Uses Painting s (pixel p) → within s.width s.height p ≡ true
      go s p (inl r) = r
      go s p (inr w) = w
