-- Places with owners: a list whose calls write only what their guests own and read nothing that another owns. Assumes nothing.
use mathlib.Core.Path.{◌≡◌, refl, sym, subst}
use mathlib.Core.Logic.{inl, inr}
use mathlib.Core.Bool.{Bool, true, false, cond}
use mathlib.Core.Option.{Option, none, some}
use mathlib.Core.List.{[], ◌∷◌}
use lib.Dec.{eqb}
use borrow.Author.Tests.{eq-eqb}
use Rattle.isolation.specs.Machine.{Guest, Local, Machine, Turn, Moment, In, Own, Turns, Last, next, run, only, nobody, mark, last_writer, moments, ReadsAt, WritesAt, NoForeignReads, AsAlone}
use Rattle.isolation.proofs.Alone.{isolation, untouched, last_had, end_had, own}
use Rattle.orders.specs.Orders.{SameCalls}

-- Owns: which places are whose. Every call of the list, as it is made, writes only what its guest owns and reads nothing that another owns.
pub record Keeps {State Answer Place Call : Type 0} (M : Machine State Answer Place Call) (Owns : Guest → Place → Type 0) (ms : Turns M) (s : State) : Type 0 where
  pub writes : (e : Moment State Place Call) → In e (moments M ms s (nobody M)) → (l : Place) → WritesAt M e l → Owns e.turn.who l
  pub reads : (e : Moment State Place Call) → In e (moments M ms s (nobody M)) → (l : Place) → ReadsAt M e l → (h : Guest) → Owns h l → h ≡ e.turn.who

-- each call of a list is one of its guest's
pub in_only : {State Answer Place Call : Type 0} (M : Machine State Answer Place Call) (m : Turn Call) (ms : Turns M) → In m ms → In m.call (only M m.who ms)
unfolding only
in_only M m [] i = absurd i
in_only M m (x ∷ ms) (inl e) = rw (← e, eq-eqb m.who m.who refl) (inl refl)
in_only {Call = Call} M m (x ∷ ms) (inr i) = go (eqb x.who m.who) (in_only M m ms i)
  where
    go : (b : Bool) → In m.call (only M m.who ms) → In m.call (cond b (x.call ∷ only M m.who ms) (only M m.who ms))
    go true j = inr j
    go false j = j

-- what holds of the start and lasts through every call of the list holds at every moment
pub lasts : {State Answer Place Call : Type 0} (M : Machine State Answer Place Call) (J : State → Type 0) (ms : Turns M) (s : State) (w : Last M)
    → ((m : Turn Call) → In m ms → (t : State) → J t → J (next M m.call t)) → J s
    → (e : Moment State Place Call) → In e (moments M ms s w) → J e.before
unfolding moments
lasts M J [] s w f j e i = absurd i
lasts {State} {Place = Place} {Call = Call} M J (m ∷ ms) s w f j e (inl p) = subst (λ (x : Moment State Place Call). J x.before) (sym p) j
lasts M J (m ∷ ms) s w f j e (inr i) = lasts M J ms (next M m.call s) (mark M m s w) (λ n k. f n (inr k)) (f m (inl refl) s j) e i

module _ {State Answer Place Call : Type 0} (M : Machine State Answer Place Call) (laws : (c : Call) → Local M.places (M.act c))
    (Owns : Guest → Place → Type 0) where
  -- no guest reads what another wrote last
  pub keeps_apart : (ms : Turns M) (s : State) → Keeps M Owns ms s → NoForeignReads M ms s (nobody M)
  keeps_apart ms s k e i l r = own _ _ (λ h q ne. ne (k.reads e i l r h (last_had M laws Owns ms s k.writes e i l h q)))

  -- two such lists with the same calls of each guest leave the same at every place
  module _ (single : (g h : Guest) (l : Place) → Owns g l → Owns h l → g ≡ h) (ms ns : Turns M) (s : State)
      (calls : SameCalls M ms ns) (here : Keeps M Owns ms s) (there : Keeps M Owns ns s) where
    one : (g : Guest) → AsAlone M g ms (nobody M) s s
    one g = isolation M laws g ms s (keeps_apart ms s here)

    two : (g : Guest) → AsAlone M g ns (nobody M) s s
    two g = isolation M laws g ns s (keeps_apart ns s there)

    by_guest : (g : Guest) (l : Place) → Own g (last_writer M ms s (nobody M) l) → Own g (last_writer M ns s (nobody M) l) → M.places.Same l (run M ms s) (run M ns s)
    by_guest g l a b =
        M.places.same_trans l _ _ _ ((one g).same_places l a)
        (M.places.same_sym l _ _ (rw (calls g) ((two g).same_places l b)))

    pub same_end : (l : Place) → M.places.Same l (run M ms s) (run M ns s)
    same_end l = go (last_writer M ms s (nobody M) l) (last_writer M ns s (nobody M) l) refl refl
      where
        owner : (xs : Turns M) → Keeps M Owns xs s → (g : Guest) → last_writer M xs s (nobody M) l ≡ some g → Owns g l
        owner xs k g q = end_had M laws Owns xs s k.writes l g q

        go : (a b : Option Guest) → last_writer M ms s (nobody M) l ≡ a → last_writer M ns s (nobody M) l ≡ b → M.places.Same l (run M ms s) (run M ns s)
        go (some g) (some h) e f = by_guest g l (rw e refl) (rw f (sym (single g h l (owner ms here g e) (owner ns there h f))))
        go (some g) none e f = by_guest g l (rw e refl) (rw f tt)
        go none (some h) e f = by_guest h l (rw e tt) (rw f refl)
        go none none e f =
            M.places.same_trans l _ s _ (M.places.same_sym l _ _ (untouched M laws ms (nobody M) s l e).1) (untouched M laws ns (nobody M) s l f).1
