-- A machine that several guests call in turn, a guest that has the machine for itself, and what it means that the two do the same:
-- document 01, Demand 3 in full.
-- Nothing here knows frames or textures: `frames` and `guests` say what a state is, what its places are and what the calls do.
use Rattle.std.specs.Prelude.{◌≡◌, ◌⊎◌, Bool, true, false, cond, List, [], ◌∷◌, ℕ, ◌+◌, eqb}
use Rattle.std.proofs.Math.Option.{Option, none, some}

-- A guest is known by its number.
abbrev pub Guest : Type 0
Guest = ℕ

-- ---- One call

-- What a call means: what it answers and leaves on a state, the places that it reads there, and the places that it writes there.
-- A place is a part of the state that can be looked at by itself, such as one pixel. A place that is written counts as read too
-- where what it becomes hangs on what it was.
pub record Act (State Answer Place : Type 0) : Type 1 where
  pub does : State → Answer × State
  pub Reads : State → Place → Type 0
  pub writes : State → Place → Bool

-- When two states are the same at a place. It is an equivalence.
pub record Places (State Place : Type 0) : Type 1 where
  pub Same : Place → State → State → Type 0
  pub same_refl : (l : Place) (s : State) → Same l s s
  pub same_sym : (l : Place) (s t : State) → Same l s t → Same l t s
  pub same_trans : (l : Place) (s t u : State) → Same l s t → Same l t u → Same l s u

module _ {State Answer Place : Type 0} (P : Places State Place) where
  -- The two states are the same wherever the call, made on the first, reads.
  abbrev pub Agree : Act State Answer Place → State → State → Type 0
  Agree a s t = (l : Place) → a.Reads s l → P.Same l s t

  -- The call does the same on both states: it answers the same, writes the same places, and leaves the same there.
  pub record Alike (a : Act State Answer Place) (s t : State) : Type 0 where
    pub answer : (a.does s).0 ≡ (a.does t).0
    pub footprint : (l : Place) → a.writes s l ≡ a.writes t l
    pub written : (l : Place) → a.writes s l ≡ true → P.Same l (a.does s).1 (a.does t).1

  -- THE TWO LAWS OF A CALL. What it does hangs on nothing but the places that it says it reads, and it changes nothing but the
  -- places that it says it writes. A call that kept quiet about a read or a write would break one of them.
  pub record Local (a : Act State Answer Place) : Type 0 where
    pub alike : (s t : State) → Agree a s t → Alike a s t
    pub frame : (s : State) (l : Place) → a.writes s l ≡ false → P.Same l s (a.does s).1

-- ---- The machine

-- What each call means, and what an answer adds to a bill.
pub record Machine (State Answer Place Call : Type 0) : Type 1 where
  pub places : Places State Place
  pub act : Call → Act State Answer Place
  pub cost : Answer → ℕ

-- One element of a list of calls: who makes which call.
pub record Turn (Call : Type 0) : Type 0 where
  pub who : Guest
  pub call : Call

-- One call of a run as it is made: the state that it finds, and who had written each place last (nobody, or a guest).
pub record Moment (State Place Call : Type 0) : Type 0 where
  pub turn : Turn Call
  pub before : State
  pub last : Place → Option Guest

-- What a guest alone has in the end.
pub record Played (State Answer : Type 0) : Type 0 where
  pub answers : List Answer
  pub bill : ℕ
  pub left : State

-- a stands in the list
abbrev pub In : {A : Type 0} → A → List A → Type 0
In a [] = ⊥
In a (x ∷ l) = (a ≡ x) ⊎ In a l

-- The last writer is nobody, or g itself.
abbrev pub Own : Guest → Option Guest → Type 0
Own g none = Unit {0}
Own g (some h) = h ≡ g

module _ {State Answer Place Call : Type 0} (M : Machine State Answer Place Call) where
  abbrev pub Turns : Type 0
  Turns = List (Turn Call)

  abbrev pub Last : Type 0
  Last = Place → Option Guest

  abbrev pub next : Call → State → State
  next c s = ((M.act c).does s).1

  abbrev pub answer : Call → State → Answer
  answer c s = ((M.act c).does s).0

  -- ---- All guests together

  -- What a list of calls leaves: each call gets the state that the one before it left.
  unfoldable pub run : Turns → State → State
  run [] s = s
  run (m ∷ ms) s = run ms (next m.call s)

  -- The answers that guest g gets on the way, in order.
  unfoldable pub answers_of : Guest → Turns → State → List Answer
  answers_of g [] s = []
  answers_of g (m ∷ ms) s =
      let rest = answers_of g ms (next m.call s) in
      cond (eqb m.who g) (answer m.call s ∷ rest) rest

  -- Its bill: what these answers cost, added up.
  unfoldable pub bill_of : Guest → Turns → State → ℕ
  bill_of g [] s = 0
  bill_of g (m ∷ ms) s =
      let rest = bill_of g ms (next m.call s) in
      cond (eqb m.who g) (M.cost (answer m.call s) + rest) rest

  -- ---- A guest alone

  -- The calls that guest g makes, in order.
  unfoldable pub only : Guest → Turns → List Call
  only g [] = []
  only g (m ∷ ms) = cond (eqb m.who g) (m.call ∷ only g ms) (only g ms)

  -- A plain machine, fed one guest's calls: its answers, its bill from 0, and the state in the end.
  unfoldable pub play : List Call → State → Played State Answer
  play [] s = record { answers = []; bill = 0; left = s }
  play (c ∷ cs) s =
      let rest = play cs (next c s) in
      record { answers = answer c s ∷ rest.answers; bill = M.cost (answer c s) + rest.bill; left = rest.left }

  abbrev pub alone : Guest → Turns → State → Played State Answer
  alone g ms s = play (only g ms) s

  -- ---- Who wrote what last, while all run together

  abbrev pub nobody : Last
  nobody l = none

  -- The last writers after one call on the state s.
  unfoldable pub mark : Turn Call → State → Last → Last
  mark m s w l = cond ((M.act m.call).writes s l) (some m.who) (w l)

  -- The last writers after a list of calls.
  unfoldable pub last_writer : Turns → State → Last → Last
  last_writer [] s w = w
  last_writer (m ∷ ms) s w = last_writer ms (next m.call s) (mark m s w)

  -- Every call of the list, as it is made.
  unfoldable pub moments : Turns → State → Last → List (Moment State Place Call)
  moments [] s w = []
  moments (m ∷ ms) s w = record { turn = m; before = s; last = w } ∷ moments ms (next m.call s) (mark m s w)

  -- The call that is made then reads, and writes, the place.
  abbrev pub ReadsAt : Moment State Place Call → Place → Type 0
  ReadsAt e l = (M.act e.turn.call).Reads e.before l

  abbrev pub WritesAt : Moment State Place Call → Place → Type 0
  WritesAt e l = (M.act e.turn.call).writes e.before l ≡ true

  -- ---- The claim

  -- No call of the list reads a place that another guest wrote last. What nobody wrote anybody may read.
  abbrev pub NoForeignReads : Turns → State → Last → Type 0
  NoForeignReads ms s w = (e : Moment State Place Call) → In e (moments ms s w)
      → (l : Place) → ReadsAt e l → Own e.turn.who (e.last l)

  -- Guest g among all, from the state s, has what it has alone from the state t: the answers, the bill, and in the end every place
  -- that nobody or g itself wrote last.
  pub record AsAlone (g : Guest) (ms : Turns) (w : Last) (s t : State) : Type 0 where
    pub same_answers : answers_of g ms s ≡ (alone g ms t).answers
    pub same_bill : bill_of g ms s ≡ (alone g ms t).bill
    pub same_places : (l : Place) → Own g (last_writer ms s w l) → M.places.Same l (run ms s) (alone g ms t).left

  -- THE THEOREM (proved in proofs/Alone.antt): where every call keeps the two laws, a list in which no guest reads what another
  -- wrote last gives each guest what it gets alone, from any one start.
  abbrev pub Isolation : Type 0
  Isolation = ((c : Call) → Local M.places (M.act c))
      → (g : Guest) (ms : Turns) (s : State) → NoForeignReads ms s nobody → AsAlone g ms nobody s s
