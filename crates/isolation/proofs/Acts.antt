-- The two laws of calls that are made from calls. `LocalOn B` asks the laws of a call on states with B only: what stands behind a
-- check needs them only where the check is passed. Assumes nothing.
use mathlib.Core.Path.{◌≡◌, refl, sym, ap, ap₂, ◌∙◌}
use mathlib.Core.Logic.{◌⊎◌, inl, inr}
use mathlib.Core.Bool.{Bool, true, false, cond, ◌||◌}
use Prim.Native.Nat.{ℕ}
use lib.Dec.{eqb}
use Rattle.std.proofs.lemmas.Bool.{or_parts, or_cases, true≢false}
use Rattle.isolation.specs.Machine.{Act, Places, Agree, Alike, Local}
use Rattle.isolation.specs.Acts.{refuse, check, ◌then◌by◌}

module _ {State Answer Place : Type 0} (P : Places State Place) where
  pub record LocalOn (B : State → Type 0) (a : Act State Answer Place) : Type 0 where
    pub alike_on : (s t : State) → B s → B t → Agree P a s t → Alike P a s t
    pub frame_on : (s : State) (l : Place) → B s → a.writes s l ≡ false → P.Same l s (a.does s).1

  pub everywhere : (a : Act State Answer Place) → LocalOn (λ s. Unit {0}) a → Local P a
  everywhere a h = record { alike = λ s t g. h.alike_on s t tt tt g; frame = λ s l e. h.frame_on s l tt e }

  pub refuse_local : (B : State → Type 0) (n : Answer) → LocalOn B (refuse n)
  refuse_local B n = record {
    alike_on = λ s t b d g. record { answer = refl; footprint = λ l. refl; written = λ l e. absurd (true≢false (sym e)) };
    frame_on = λ s l b e. P.same_refl l s;
  }

  -- states that are the same where the check looks have the same number
  pub check_local : (B : State → Type 0) (number : State → ℕ) (Looks : Place → Type 0) (refused : ℕ → Answer) (a : Act State Answer Place)
      → ((s t : State) → B s → B t → ((l : Place) → Looks l → P.Same l s t) → number s ≡ number t)
      → LocalOn (λ s. B s × (eqb (number s) 0 ≡ true)) a → LocalOn B (check number Looks refused a)
  check_local B number Looks refused a same h = record { alike_on = alike; frame_on = frame }
    where
      alike : (s t : State) → B s → B t → Agree P (check number Looks refused a) s t → Alike P (check number Looks refused a) s t
      alike s t b d g = go (eqb (number s) 0) refl (ap (λ n. eqb n 0) (sym numbers))
        where
          numbers : number s ≡ number t
          numbers = same s t b d (λ l r. g l (inl r))

          go : (x : Bool) → eqb (number s) 0 ≡ x → eqb (number t) 0 ≡ eqb (number s) 0 → Alike P (check number Looks refused a) s t
          go true e f =
              let k : Alike P a s t = h.alike_on s t (b, e) (d, f ∙ e) (λ l r. g l (inr (e, r))) in
              record { answer = rw (f, e) k.answer; footprint = λ l. rw (f, e) (k.footprint l); written = λ l w. rw (f, e) (k.written l (rw e at w)) }
          go false e f = record {
            answer = rw (f, e) (ap refused numbers);
            footprint = λ l. rw (f, e) refl;
            written = λ l w. absurd (true≢false (sym (rw e at w)));
          }

      frame : (s : State) (l : Place) → B s → cond (eqb (number s) 0) (a.writes s l) false ≡ false
          → P.Same l s (cond (eqb (number s) 0) (a.does s) (refused (number s), s)).1
      frame s l b e = go (eqb (number s) 0) refl e
        where
          go : (x : Bool) → eqb (number s) 0 ≡ x → cond x (a.writes s l) false ≡ false → P.Same l s (cond x (a.does s) (refused (number s), s)).1
          go true q f = h.frame_on s l (b, q) f
          go false q f = P.same_refl l s

  -- what was the same before a call that does the same is the same after it
  alike_keeps : (B : State → Type 0) (a : Act State Answer Place) → LocalOn B a → (s t : State) → B s → B t → Alike P a s t
      → (l : Place) → P.Same l s t → P.Same l (a.does s).1 (a.does t).1
  alike_keeps B a h s t b d k l e = go (a.writes s l) refl
    where
      go : (x : Bool) → a.writes s l ≡ x → P.Same l (a.does s).1 (a.does t).1
      go true p = k.written l p
      go false p =
          P.same_trans l _ s _ (P.same_sym l _ _ (h.frame_on s l b p)) (P.same_trans l s t _ e (h.frame_on t l d (sym (k.footprint l) ∙ p)))

  pub then_local : (B C : State → Type 0) (a b : Act State Answer Place) (f : Answer → Answer → Answer)
      → LocalOn B a → ((s : State) → B s → C (a.does s).1) → LocalOn C b → LocalOn B (◌then◌by◌ a b f)
  then_local B C a b f ha on hb = record { alike_on = alike; frame_on = frame }
    where
      alike : (s t : State) → B s → B t → Agree P (◌then◌by◌ a b f) s t → Alike P (◌then◌by◌ a b f) s t
      alike s t x y g =
          let ka : Alike P a s t = ha.alike_on s t x y (λ l r. g l (inl r)) in
          let kb : Alike P b (a.does s).1 (a.does t).1 = hb.alike_on _ _ (on s x) (on t y) (λ l r. seen ka l r (a.writes s l) refl) in
          record {
            answer = ap₂ f ka.answer kb.answer;
            footprint = λ l. ap₂ (λ u v. u || v) (ka.footprint l) (kb.footprint l);
            written = λ l w. wrote ka kb l (or_cases (a.writes s l) (b.writes (a.does s).1 l) w);
          }
        where
          seen : Alike P a s t → (l : Place) → b.Reads (a.does s).1 l → (u : Bool) → a.writes s l ≡ u → P.Same l (a.does s).1 (a.does t).1
          seen ka l r true p = ka.written l p
          seen ka l r false p = alike_keeps B a ha s t x y ka l (g l (inr (p, r)))

          wrote : Alike P a s t → Alike P b (a.does s).1 (a.does t).1 → (l : Place)
              → (a.writes s l ≡ true) ⊎ (b.writes (a.does s).1 l ≡ true)
              → P.Same l (b.does (a.does s).1).1 (b.does (a.does t).1).1
          wrote ka kb l (inl p) = alike_keeps C b hb _ _ (on s x) (on t y) kb l (ka.written l p)
          wrote ka kb l (inr p) = kb.written l p

      frame : (s : State) (l : Place) → B s → (a.writes s l || b.writes (a.does s).1 l) ≡ false → P.Same l s (b.does (a.does s).1).1
      frame s l x e =
          let both : (a.writes s l ≡ false) × (b.writes (a.does s).1 l ≡ false) = or_parts (a.writes s l) (b.writes (a.does s).1 l) e in
          P.same_trans l s _ _ (ha.frame_on s l x both.0) (hb.frame_on _ l (on s x) both.1)

  -- a call that does what another does, says that it writes the same places and reads no fewer, keeps the laws if the other does
  pub as_local : (a b : Act State Answer Place)
      → ((s : State) → (a.does s).0 ≡ (b.does s).0) → ((s : State) (l : Place) → P.Same l (a.does s).1 (b.does s).1)
      → ((s : State) (l : Place) → a.Reads s l → b.Reads s l) → ((s : State) (l : Place) → a.writes s l ≡ b.writes s l)
      → Local P a → Local P b
  as_local a b answers leaves reads writes h = record {
    alike = λ s t g. go s t (h.alike s t (λ l r. g l (reads s l r)));
    frame = λ s l e. P.same_trans l s _ _ (h.frame s l (writes s l ∙ e)) (leaves s l);
  }
    where
      go : (s t : State) → Alike P a s t → Alike P b s t
      go s t k = record {
        answer = sym (answers s) ∙ k.answer ∙ answers t;
        footprint = λ l. sym (writes s l) ∙ k.footprint l ∙ writes t l;
        written = λ l e. P.same_trans l _ _ _ (P.same_sym l _ _ (leaves s l)) (P.same_trans l _ _ _ (k.written l (writes s l ∙ e)) (leaves t l));
      }
