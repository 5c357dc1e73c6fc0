-- Guests whose footprints alone are apart may come in any order. By induction on the list, with a state of its own for every guest: the
-- shared state and the guest's own are the same at every place that the guest reads or writes alone. Assumes nothing.
use mathlib.Core.Path.{◌≡◌, refl, sym, ap, ap₂, ◌∙◌, subst}
use mathlib.Core.Logic.{◌⊎◌, inl, inr, ◌≢◌}
use mathlib.Core.Bool.{Bool, true, false, cond}
use mathlib.Core.Option.{Option, none, some}
use mathlib.Core.List.{List, [], ◌∷◌}
use Prim.Native.Nat.{◌+◌}
use lib.Dec.{eqb}
use borrow.Author.Tests.{eqb-true, eqb-false, eq-eqb}
use Rattle.isolation.specs.Machine.{Guest, Alike, Local, Machine, Turn, Moment, In, Turns, Last, next, answer, run, answers_of, bill_of, play, only, nobody, mark, last_writer, moments, WritesAt}
use Rattle.isolation.proofs.Alone.{untouched, EveryWriter, end_had}
use Rattle.frames.specs.State.{Place, Answer}
use Rattle.guests.specs.Calls.{Shared}
use Rattle.guest_draws.specs.EveryCall.{GuestCall}
use Rattle.orders.specs.Orders.{Interleaves, guest_machine}
use Rattle.orders.specs.Plans.{Plan, admitted, Fair, Ready}
use Rattle.orders.specs.Alone.{AtSome, ReadsAlone, WritesAlone, ApartAlone, AnyOrderAlone, ApartIsEnough, CallsApart, PlanApart}
use Rattle.orders.proofs.Owners.{Keeps}
use Rattle.orders.proofs.Fair.{call_owed, Owns}
use Rattle.orders.proofs.Plans.{same_state, keeps, single}

module _ {State Answer Place Call : Type 0} (M : Machine State Answer Place Call) (laws : (c : Call) → Local M.places (M.act c)) where
  abbrev Same : Place → State → State → Type 0
  Same = M.places.Same

  -- R, W: what each guest may read and write
  module _ (R W : Guest → Place → Type 0) (apart : (g h : Guest) → g ≢ h → (l : Place) → W g l → R h l ⊎ W h l → ⊥) where
    -- the calls, made one after the other from t, read and write no more than that
    abbrev Stays : Guest → List Call → State → Type 0
    Stays g [] t = Unit {0}
    Stays g (c ∷ cs) t = ((l : Place) → (M.act c).Reads t l → R g l) × ((l : Place) → (M.act c).writes t l ≡ true → W g l) × Stays g cs (next M c t)

    stays : (g : Guest) (cs : List Call) (t : State) → ((l : Place) → ReadsAlone M cs t l → R g l) → ((l : Place) → WritesAlone M cs t l → W g l) → Stays g cs t
    stays g [] t r w = tt
    stays g (c ∷ cs) t r w = ((λ l x. r l (inl x)), (λ l x. w l (inl x)), stays g cs (next M c t) (λ l x. r l (inr x)) (λ l x. w l (inr x)))

    -- the shared state and each guest's own are the same wherever that guest may look or write
    abbrev Linked : State → (Guest → State) → Type 0
    Linked s t = (g : Guest) (l : Place) → R g l ⊎ W g l → Same l s (t g)

    abbrev Kept : Turns M → (Guest → State) → Type 0
    Kept ms t = (g : Guest) → Stays g (only M g ms) (t g)

    -- the caller's own state moves on
    abbrev moved : Turn Call → (Guest → State) → Guest → State
    moved m t g = cond (eqb m.who g) (next M m.call (t g)) (t g)

    -- one turn
    module _ (m : Turn Call) (s : State) (t : Guest → State) (link : Linked s t)
        (reads : (l : Place) → (M.act m.call).Reads (t m.who) l → R m.who l)
        (writes : (l : Place) → (M.act m.call).writes (t m.who) l ≡ true → W m.who l) where
      alike : Alike M.places (M.act m.call) (t m.who) s
      alike = (laws m.call).alike (t m.who) s (λ l r. M.places.same_sym l _ _ (link m.who l (inl (reads l r))))

      -- what it writes among all it writes alone
      wrote : (l : Place) → (M.act m.call).writes s l ≡ true → W m.who l
      wrote l e = writes l (alike.footprint l ∙ e)

      same_answer : answer M m.call s ≡ answer M m.call (t m.who)
      same_answer = sym alike.answer

      own_place : (l : Place) → R m.who l ⊎ W m.who l → Same l (next M m.call s) (next M m.call (t m.who))
      own_place l u = go ((M.act m.call).writes (t m.who) l) refl
        where
          go : (b : Bool) → (M.act m.call).writes (t m.who) l ≡ b → Same l (next M m.call s) (next M m.call (t m.who))
          go true e = M.places.same_sym l _ _ (alike.written l e)
          go false e =
              M.places.same_trans l _ s _ (M.places.same_sym l _ _ ((laws m.call).frame s l (sym (alike.footprint l) ∙ e)))
              (M.places.same_trans l s _ _ (link m.who l u) ((laws m.call).frame (t m.who) l e))

      other_place : (g : Guest) → m.who ≢ g → (l : Place) → R g l ⊎ W g l → Same l (next M m.call s) (t g)
      other_place g ne l u = go ((M.act m.call).writes s l) refl
        where
          go : (b : Bool) → (M.act m.call).writes s l ≡ b → Same l (next M m.call s) (t g)
          go true e = absurd (apart m.who g ne l (wrote l e) u)
          go false e = M.places.same_trans l _ s _ (M.places.same_sym l _ _ ((laws m.call).frame s l e)) (link g l u)

      linked : Linked (next M m.call s) (moved m t)
      linked g l u = go (eqb m.who g) refl
        where
          go : (b : Bool) → eqb m.who g ≡ b → Same l (next M m.call s) (cond b (next M m.call (t g)) (t g))
          go true e = mine g (eqb-true m.who g e) u
            where
              mine : (k : Guest) → m.who ≡ k → R k l ⊎ W k l → Same l (next M m.call s) (next M m.call (t k))
              mine k q v = subst (λ (j : Guest). R j l ⊎ W j l → Same l (next M m.call s) (next M m.call (t j))) q (own_place l) v
          go false e = other_place g (eqb-false m.who g e) l u

    -- what the first turn asks of its guest, and what is left to ask
    now : (m : Turn Call) (ms : Turns M) (t : Guest → State) → Kept (m ∷ ms) t → Stays m.who (m.call ∷ only M m.who ms) (t m.who)
    unfolding only
    now m ms t k = rw (eq-eqb m.who m.who refl) at (k m.who)

    later : (m : Turn Call) (ms : Turns M) (t : Guest → State) → Kept (m ∷ ms) t → Kept ms (moved m t)
    unfolding only
    later m ms t k g = go (eqb m.who g) (k g)
      where
        go : (b : Bool) → Stays g (cond b (m.call ∷ only M g ms) (only M g ms)) (t g) → Stays g (only M g ms) (cond b (next M m.call (t g)) (t g))
        go true x = x.2
        go false x = x

    -- ---- along the list

    pub record Goes (g : Guest) (ms : Turns M) (s t : State) : Type 0 where
      pub same_answers : answers_of M g ms s ≡ (play M (only M g ms) t).answers
      pub same_bill : bill_of M g ms s ≡ (play M (only M g ms) t).bill
      pub same_places : (l : Place) → R g l ⊎ W g l → Same l (run M ms s) (play M (only M g ms) t).left

    goes : (g : Guest) (ms : Turns M) (s : State) (t : Guest → State) → Linked s t → Kept ms t → Goes g ms s (t g)
    unfolding run answers_of bill_of play only
    goes g [] s t link k = record { same_answers = refl; same_bill = refl; same_places = link g }
    goes g (m ∷ ms) s t link k =
        go (eqb m.who g) refl (goes g ms (next M m.call s) (moved m t) (linked m s t link (now m ms t k).0 (now m ms t k).1) (later m ms t k))
      where
        r : (l : Place) → (M.act m.call).Reads (t m.who) l → R m.who l
        r = (now m ms t k).0

        w : (l : Place) → (M.act m.call).writes (t m.who) l ≡ true → W m.who l
        w = (now m ms t k).1

        mine : (h : Guest) → m.who ≡ h → answer M m.call s ≡ answer M m.call (t h)
        mine h q = subst (λ (j : Guest). answer M m.call s ≡ answer M m.call (t j)) q (same_answer m s t link r w)

        go : (b : Bool) → eqb m.who g ≡ b → Goes g ms (next M m.call s) (cond b (next M m.call (t g)) (t g)) → Goes g (m ∷ ms) s (t g)
        go true e x = record {
          same_answers = rw e (ap₂ (λ a b. a ∷ b) (mine g (eqb-true m.who g e)) x.same_answers);
          same_bill = rw e (ap₂ (λ a b. M.cost a + b) (mine g (eqb-true m.who g e)) x.same_bill);
          same_places = rw e x.same_places;
        }
        go false e x = record { same_answers = rw e x.same_answers; same_bill = rw e x.same_bill; same_places = rw e x.same_places }

    -- every writer among all may write the place
    writers : (ms : Turns M) (s : State) (t : Guest → State) (w : Last M) → Linked s t → Kept ms t → EveryWriter M laws W ms s w
    unfolding moments
    writers [] s t w link k e i l x = absurd i
    writers (m ∷ ms) s t w link k e (inl q) l x =
        subst (λ (y : Moment State Place Call). WritesAt M y l → W y.turn.who l) (sym q) (wrote m s t link (now m ms t k).0 (now m ms t k).1 l) x
    writers (m ∷ ms) s t w link k e (inr i) l x =
        writers ms (next M m.call s) (moved m t) (mark M m s w) (linked m s t link (now m ms t k).0 (now m ms t k).1) (later m ms t k) e i l x

  -- ---- the law

  module _ (lists : Guest → List Call) (s : State) (apart : ApartAlone M lists s) where
    abbrev R : Guest → Place → Type 0
    R g l = ReadsAlone M (lists g) s l

    abbrev W : Guest → Place → Type 0
    W g l = WritesAlone M (lists g) s l

    start : Linked R W apart s (λ g. s)
    start g l u = M.places.same_refl l s

    kept : (ms : Turns M) → Interleaves M lists ms → Kept R W apart ms (λ g. s)
    kept ms same g = subst (λ (cs : List Call). Stays R W apart g cs s) (sym (same g)) (stays R W apart g (lists g) s (λ l x. x) (λ l x. x))

    whole : (ms : Turns M) → Interleaves M lists ms → (g : Guest) → Goes R W apart g ms s s
    whole ms same g = goes R W apart g ms s (λ h. s) start (kept ms same)

    end : (ms : Turns M) → Interleaves M lists ms → (g : Guest) (l : Place) → W g l → Same l (run M ms s) (play M (lists g) s).left
    end ms same g l x = rw (sym (same g)) ((whole ms same g).same_places l (inr x))

    by_writer : (ms ns : Turns M) → Interleaves M lists ms → Interleaves M lists ns → (g : Guest) (l : Place) → W g l → Same l (run M ms s) (run M ns s)
    by_writer ms ns one two g l x = M.places.same_trans l _ _ _ (end ms one g l x) (M.places.same_sym l _ _ (end ns two g l x))

    wrote_last : (ms : Turns M) → Interleaves M lists ms → (l : Place) (g : Guest) → last_writer M ms s (nobody M) l ≡ some g → W g l
    wrote_last ms same l g q = end_had M laws W ms s (writers R W apart ms s (λ h. s) (nobody M) start (kept ms same)) l g q

    same_left : (ms ns : Turns M) → Interleaves M lists ms → Interleaves M lists ns → (l : Place) → Same l (run M ms s) (run M ns s)
    same_left ms ns one two l = go (last_writer M ms s (nobody M) l) (last_writer M ns s (nobody M) l) refl refl
      where
        go : (a b : Option Guest) → last_writer M ms s (nobody M) l ≡ a → last_writer M ns s (nobody M) l ≡ b → Same l (run M ms s) (run M ns s)
        go (some g) b e f = by_writer ms ns one two g l (wrote_last ms one l g e)
        go none (some g) e f = by_writer ms ns one two g l (wrote_last ns two l g f)
        go none none e f = M.places.same_trans l _ s _ (M.places.same_sym l _ _ (untouched M laws ms (nobody M) s l e).1) (untouched M laws ns (nobody M) s l f).1

    pub apart_any_order : AnyOrderAlone M lists s
    apart_any_order = record {
      answers = λ ms same g. (whole ms same g).same_answers ∙ ap (λ cs. (play M cs s).answers) (same g);
      bills = λ ms same g. (whole ms same g).same_bill ∙ ap (λ cs. (play M cs s).bill) (same g);
      left = same_left;
    }

-- THE LAW, of every machine
pub apart_is_enough : {State Answer Place Call : Type 0} (M : Machine State Answer Place Call) → ApartIsEnough M
apart_is_enough M laws lists s apart = apart_any_order M laws lists s apart

-- and of the calls of demand 3, with the whole state in the end
pub calls_apart : CallsApart
calls_apart window lists s apart =
    let a : AnyOrderAlone (guest_machine window) lists s = apart_any_order (guest_machine window) (λ c. (call_owed window c).local) lists s apart in
    (a, λ ms ns one two. same_state (run (guest_machine window) ms s) (run (guest_machine window) ns s) (a.left ms ns one two))

-- ---- a plan makes footprints apart

module _ {State Answer Place Call : Type 0} (M : Machine State Answer Place Call) where
  -- a guest's calls as its turns
  mine : Guest → List Call → Turns M
  mine g [] = []
  mine g (c ∷ cs) = record { who = g; call = c } ∷ mine g cs

  in_mine : (g : Guest) (cs : List Call) (m : Turn Call) → In m (mine g cs) → (m.who ≡ g) × In m.call cs
  unfolding mine
  in_mine g [] m i = absurd i
  in_mine g (c ∷ cs) m (inl e) = (ap (λ x. x.who) e, inl (ap (λ x. x.call) e))
  in_mine g (c ∷ cs) m (inr i) = let r = in_mine g cs m i in (r.0, inr r.1)

  -- what holds at some call alone holds at a moment of these turns
  at_moment : (P : Call → State → Type 0) (C : Type 0) (g : Guest) (cs : List Call) (t : State) (w : Last M) → AtSome M P cs t
      → ((e : Moment State Place Call) → In e (moments M (mine g cs) t w) → e.turn.who ≡ g → P e.turn.call e.before → C) → C
  unfolding mine moments
  at_moment P C g [] t w a k = absurd a
  at_moment P C g (c ∷ cs) t w (inl p) k = k _ (inl refl) refl p
  at_moment P C g (c ∷ cs) t w (inr a) k =
      at_moment P C g cs (next M c t) (mark M (record { who = g; call = c }) t w) a (λ e i q p. k e (inr i) q p)

module _ (plan : Plan) (lists : Guest → List GuestCall) (s : Shared) (ready : Ready plan lists s) where
  abbrev N : Machine Shared Answer Place GuestCall
  N = guest_machine plan.window

  kept_alone : (g : Guest) → Keeps N (Owns plan s) (mine N g (lists g)) s
  kept_alone g = keeps plan (mine N g (lists g)) s ready.disjoint (λ m i a. fair m (in_mine N g (lists g) m i) a)
    where
      fair : (m : Turn GuestCall) → (m.who ≡ g) × In m.call (lists g) → admitted s m.call ≡ true → Fair plan s m.who m.call
      fair m (q, i) a = subst (λ (k : Guest). Fair plan s k m.call) (sym q) (ready.fair g m.call i a)

  writes_own : (g : Guest) (l : Place) → WritesAlone N (lists g) s l → Owns plan s g l
  writes_own g l a = at_moment N (λ c t. (N.act c).writes t l ≡ true) (Owns plan s g l) g (lists g) s (nobody N) a
      (λ e i q p. subst (λ (k : Guest). Owns plan s k l) q ((kept_alone g).writes e i l p))

  reads_own : (g h : Guest) (l : Place) → ReadsAlone N (lists g) s l → Owns plan s h l → h ≡ g
  reads_own g h l a o = at_moment N (λ c t. (N.act c).Reads t l) (h ≡ g) g (lists g) s (nobody N) a
      (λ e i q p. (kept_alone g).reads e i l p h o ∙ q)

  -- what a plan allows is apart alone
  plan_apart : ApartAlone N lists s
  plan_apart g h ne l a (inl r) = ne (reads_own h g l r (writes_own g l a))
  plan_apart g h ne l a (inr w) = ne (single plan lists s ready g h l (writes_own g l a) (writes_own h l w))

-- the statement of specs/Alone.antt
pub plan_is_apart : PlanApart
plan_is_apart plan lists s ready = plan_apart plan lists s ready
