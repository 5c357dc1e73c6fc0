-- Calls made from calls: to refuse, to check first, to do one after the other. proofs/Acts.antt has their two laws.
use Rattle.std.specs.Prelude.{◌≡◌, ◌⊎◌, true, false, cond, ◌||◌, ℕ, eqb}
use Rattle.isolation.specs.Machine.{Act}

module _ {State Answer Place : Type 0} where
  -- It answers, reads nothing and writes nothing.
  abbrev pub refuse : Answer → Act State Answer Place
  refuse n = record { does = λ s. (n, s); Reads = λ s l. ⊥; writes = λ s l. false }

  -- `number` looks at the places in Looks. Where it gives 0 the call is a; else the call is refused by that number.
  -- What a reads is read only where the check is passed.
  abbrev pub check : (State → ℕ) → (Place → Type 0) → (ℕ → Answer) → Act State Answer Place → Act State Answer Place
  check number Looks refused a = record {
    does = λ s. cond (eqb (number s) 0) (a.does s) (refused (number s), s);
    Reads = λ s l. Looks l ⊎ ((eqb (number s) 0 ≡ true) × a.Reads s l);
    writes = λ s l. cond (eqb (number s) 0) (a.writes s l) false;
  }

  -- a, then b on what a left; both answers are put into one by f. What a wrote, b may look at without reading it from the start.
  abbrev pub ◌then◌by◌ : Act State Answer Place → Act State Answer Place → (Answer → Answer → Answer) → Act State Answer Place
  ◌then◌by◌ a b f = record {
    does = λ s. (f (a.does s).0 (b.does (a.does s).1).0, (b.does (a.does s).1).1);
    Reads = λ s l. a.Reads s l ⊎ ((a.writes s l ≡ false) × b.Reads (a.does s).1 l);
    writes = λ s l. a.writes s l || b.writes (a.does s).1 l;
  }

  -- The call, made on s, reads or writes the place.
  abbrev pub Uses : Act State Answer Place → State → Place → Type 0
  Uses a s l = a.Reads s l ⊎ (a.writes s l ≡ true)
