-- The theorem `Isolation`, by induction on the list of calls: all along, the shared state and the guest's own are the same at every
-- place that nobody or the guest wrote last. Then what follows where every writer of a place is known. Assumes nothing.
use mathlib.Core.Path.{◌≡◌, refl, sym, ap, ap₂, ◌∙◌, subst}
use mathlib.Core.Logic.{inl, inr, ◌≢◌}
use mathlib.Core.Bool.{Bool, true, false, cond}
use mathlib.Core.Option.{Option, none, some}
use mathlib.Core.List.{[], ◌∷◌}
use Prim.Native.Nat.{◌+◌}
use native.Mathlib.Decide.{ℕ_discrete}
use lib.Dec.{eqb}
use borrow.Author.Tests.{eqb-true, eqb-false}
use Rattle.std.proofs.Math.Option.{none-ne-some}
use Rattle.isolation.specs.Machine.{Guest, Alike, Local, Machine, Turn, Moment, In, Own}
use Rattle.isolation.specs.Machine.{Turns, Last, next, run, answers_of, bill_of, play, only, nobody, mark, last_writer, moments, WritesAt, NoForeignReads, AsAlone, Isolation}

-- a last writer that cannot be another guest is nobody or the guest itself
pub own : (g : Guest) (o : Option Guest) → ((h : Guest) → o ≡ some h → h ≢ g → ⊥) → Own g o
own g none f = tt
own g (some h) f = go (ℕ_discrete h g)
  where
    go : Dec (h ≡ g) → h ≡ g
    go (yes e) = e
    go (no ne) = absurd (f h refl ne)

-- a last writer that no guest can be is nobody
pub unwritten : (o : Option Guest) → ((h : Guest) → o ≡ some h → ⊥) → o ≡ none
unwritten none f = refl
unwritten (some h) f = absurd (f h refl)

-- the moments of a list are those of its calls
pub moment_turn : {State Answer Place Call : Type 0} (M : Machine State Answer Place Call) (ms : Turns M) (s : State) (w : Last M) (e : Moment State Place Call)
    → In e (moments M ms s w) → In e.turn ms
unfolding moments
moment_turn M [] s w e i = i
moment_turn M (m ∷ ms) s w e (inl p) = inl (ap (λ x. x.turn) p)
moment_turn M (m ∷ ms) s w e (inr i) = inr (moment_turn M ms (next M m.call s) (mark M m s w) e i)

module _ {State Answer Place Call : Type 0} (M : Machine State Answer Place Call) (laws : (c : Call) → Local M.places (M.act c)) where
  abbrev Same : Place → State → State → Type 0
  Same = M.places.Same

  -- the shared state and the guest's own are the same wherever the guest may look
  abbrev Linked : Guest → Last M → State → State → Type 0
  Linked g w s t = (l : Place) → Own g (w l) → Same l s t

  -- the guest's own call keeps the link
  own_step : (g : Guest) (m : Turn Call) (w : Last M) (s t : State)
      → Alike M.places (M.act m.call) s t → Linked g w s t → Linked g (mark M m s w) (next M m.call s) (next M m.call t)
  unfolding mark
  own_step g m w s t a link l o = go ((M.act m.call).writes s l) refl o
    where
      go : (b : Bool) → (M.act m.call).writes s l ≡ b → Own g (cond b (some m.who) (w l)) → Same l (next M m.call s) (next M m.call t)
      go true p x = a.written l p
      go false p x =
          let left : Same l s (next M m.call s) = (laws m.call).frame s l p in
          let right : Same l t (next M m.call t) = (laws m.call).frame t l (sym (a.footprint l) ∙ p) in
          M.places.same_trans l _ s _ (M.places.same_sym l _ _ left) (M.places.same_trans l s t _ (link l x) right)

  -- another guest's call keeps it too
  other_step : (g : Guest) (m : Turn Call) (w : Last M) (s t : State) → m.who ≢ g
      → Linked g w s t → Linked g (mark M m s w) (next M m.call s) t
  unfolding mark
  other_step g m w s t ne link l o = go ((M.act m.call).writes s l) refl o
    where
      go : (b : Bool) → (M.act m.call).writes s l ≡ b → Own g (cond b (some m.who) (w l)) → Same l (next M m.call s) t
      go true p x = absurd (ne x)
      go false p x = M.places.same_trans l _ s _ (M.places.same_sym l _ _ ((laws m.call).frame s l p)) (link l x)

  as_alone : (g : Guest) (ms : Turns M) (w : Last M) (s t : State) → NoForeignReads M ms s w → Linked g w s t → AsAlone M g ms w s t
  unfolding run answers_of bill_of play only last_writer moments
  as_alone g [] w s t h link = record { same_answers = refl; same_bill = refl; same_places = link }
  as_alone g (m ∷ ms) w s t h link =
      go (eqb m.who g) refl
      (λ a. as_alone g ms (mark M m s w) (next M m.call s) (next M m.call t) (λ x i. h x (inr i)) (own_step g m w s t a link))
      (λ ne. as_alone g ms (mark M m s w) (next M m.call s) t (λ x i. h x (inr i)) (other_step g m w s t ne link))
    where
      go : (b : Bool) → eqb m.who g ≡ b
          → (Alike M.places (M.act m.call) s t → AsAlone M g ms (mark M m s w) (next M m.call s) (next M m.call t))
          → (m.who ≢ g → AsAlone M g ms (mark M m s w) (next M m.call s) t)
          → AsAlone M g (m ∷ ms) w s t
      go true e mine other =
          let who : m.who ≡ g = eqb-true m.who g e in
          let a : Alike M.places (M.act m.call) s t =
          (laws m.call).alike s t (λ l r. link l (subst (λ (k : Guest). Own k (w l)) who (h _ (inl refl) l r))) in
          let r : AsAlone M g ms (mark M m s w) (next M m.call s) (next M m.call t) = mine a in
          record {
            same_answers = rw e (ap₂ (λ x y. x ∷ y) a.answer r.same_answers);
            same_bill = rw e (ap₂ (λ x y. M.cost x + y) a.answer r.same_bill);
            same_places = rw e r.same_places;
          }
      go false e mine other =
          let r : AsAlone M g ms (mark M m s w) (next M m.call s) t = other (eqb-false m.who g e) in
          record { same_answers = rw e r.same_answers; same_bill = rw e r.same_bill; same_places = rw e r.same_places }

  -- THE THEOREM, as specs/Machine.antt states it
  pub isolation : (g : Guest) (ms : Turns M) (s : State) → NoForeignReads M ms s (nobody M) → AsAlone M g ms (nobody M) s s
  isolation g ms s h = as_alone g ms (nobody M) s s h (λ l o. M.places.same_refl l s)

  -- what nobody wrote is as it began
  pub untouched : (ms : Turns M) (w : Last M) (s : State) (l : Place) → last_writer M ms s w l ≡ none → (w l ≡ none) × Same l s (run M ms s)
  unfolding run last_writer mark
  untouched [] w s l e = (e, M.places.same_refl l s)
  untouched (m ∷ ms) w s l e = go ((M.act m.call).writes s l) refl (untouched ms (mark M m s w) (next M m.call s) l e)
    where
      go : (b : Bool) → (M.act m.call).writes s l ≡ b
          → (cond ((M.act m.call).writes s l) (some m.who) (w l) ≡ none) × Same l (next M m.call s) (run M ms (next M m.call s))
          → (w l ≡ none) × Same l s (run M ms (next M m.call s))
      go true p x = absurd (none-ne-some _ (sym (rw p at x.0)))
      go false p x = (rw p at x.0, M.places.same_trans l s _ _ ((laws m.call).frame s l p) x.1)

  -- a place that no call ever writes is at every moment as it began
  pub still : (l : Place) → ((c : Call) (s : State) → (M.act c).writes s l ≡ false) → (ms : Turns M) (s : State) (w : Last M)
      → (e : Moment State Place Call) → In e (moments M ms s w) → Same l s e.before
  unfolding moments
  still l h [] s w e i = absurd i
  still l h (m ∷ ms) s w e (inl p) = subst (λ (x : Moment State Place Call). Same l s x.before) (sym p) (M.places.same_refl l s)
  still l h (m ∷ ms) s w e (inr i) =
      M.places.same_trans l s _ _ ((laws m.call).frame s l (h m.call s)) (still l h ms (next M m.call s) (mark M m s w) e i)

  -- A fact that every writer of a place has, the place's last writer has: at every moment, and in the end.
  module _ (Fact : Guest → Place → Type 0) where
    abbrev Had : Last M → Type 0
    Had w = (l : Place) (h : Guest) → w l ≡ some h → Fact h l

    abbrev pub EveryWriter : Turns M → State → Last M → Type 0
    EveryWriter ms s w = (e : Moment State Place Call) → In e (moments M ms s w) → (l : Place) → WritesAt M e l → Fact e.turn.who l

    mark_had : (m : Turn Call) (s : State) (w : Last M) → ((l : Place) → (M.act m.call).writes s l ≡ true → Fact m.who l)
        → Had w → Had (mark M m s w)
    unfolding mark
    mark_had m s w f k l h e = go ((M.act m.call).writes s l) refl e
      where
        go : (b : Bool) → (M.act m.call).writes s l ≡ b → cond b (some m.who) (w l) ≡ some h → Fact h l
        go true p q = subst (λ (x : Guest). Fact x l) (cc) (f l p)
        go false p q = k l h q

    last_had_from : (ms : Turns M) (s : State) (w : Last M) → EveryWriter ms s w → Had w
        → (e : Moment State Place Call) → In e (moments M ms s w) → (l : Place) (h : Guest) → e.last l ≡ some h → Fact h l
    unfolding moments
    last_had_from [] s w f k e i l h q = absurd i
    last_had_from (m ∷ ms) s w f k e (inl p) l h q = k l h (ap (λ x. x.last l) (sym p) ∙ q)
    last_had_from (m ∷ ms) s w f k e (inr i) l h q =
        last_had_from ms (next M m.call s) (mark M m s w) (λ x j. f x (inr j)) (mark_had m s w (f _ (inl refl)) k) e i l h q

    end_had_from : (ms : Turns M) (s : State) (w : Last M) → EveryWriter ms s w → Had w
        → (l : Place) (h : Guest) → last_writer M ms s w l ≡ some h → Fact h l
    unfolding moments last_writer
    end_had_from [] s w f k l h q = k l h q
    end_had_from (m ∷ ms) s w f k l h q =
        end_had_from ms (next M m.call s) (mark M m s w) (λ x j. f x (inr j)) (mark_had m s w (f _ (inl refl)) k) l h q

    pub last_had : (ms : Turns M) (s : State) → EveryWriter ms s (nobody M)
        → (e : Moment State Place Call) → In e (moments M ms s (nobody M)) → (l : Place) (h : Guest) → e.last l ≡ some h → Fact h l
    last_had ms s f = last_had_from ms s (nobody M) f (λ l h q. absurd (none-ne-some _ q))

    pub end_had : (ms : Turns M) (s : State) → EveryWriter ms s (nobody M)
        → (l : Place) (h : Guest) → last_writer M ms s (nobody M) l ≡ some h → Fact h l
    end_had ms s f = end_had_from ms s (nobody M) f (λ l h q. absurd (none-ne-some _ q))

-- the statement of specs/Machine.antt holds of every machine
pub holds : {State Answer Place Call : Type 0} (M : Machine State Answer Place Call) → Isolation M
holds M laws g ms s h = isolation M laws g ms s h
