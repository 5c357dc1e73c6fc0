-- The claim of specs/Windows.antt from its premises, and what holds without them, for any kinds of call that owe what `Owed` says. Each premise gives one part of
-- "no guest reads what another wrote last", and the generic theorem does the rest. Assumes nothing.
use mathlib.Core.Path.{◌≡◌, sym, ◌∙◌}
use mathlib.Core.Logic.{◌⊎◌, inl, inr, ◌≢◌}
use mathlib.Core.Bool.{Bool, true, true≢false}
use mathlib.Core.Option.{none, some}
use mathlib.Core.List.{List}
use Prim.Native.Nat.{ℕ}
use Rattle.isolation.specs.Machine.{Guest, Act, Local, Machine, Turn, Moment, Own, run, nobody, last_writer, ReadsAt, WritesAt, NoForeignReads, AsAlone}
use Rattle.isolation.specs.Acts.{Uses}
use Rattle.isolation.proofs.Alone.{isolation, untouched, still, EveryWriter, last_had, end_had, own, unwritten}
use Rattle.frames.specs.State.{State, SameSizes, Place, sizes, pixel, byte, texture, Same, places, Answer}
use Rattle.frames.proofs.Pixels.{all_colors, all_depths}
use Rattle.frames.specs.Windows.{machine, bad_target, Owed, During, Whole, Always, Premises, Claim}

module _ {Texture Call : Type 0} (act : Call → Act (State Texture) Answer Place) (Box : ℕ → ℕ → Call → ℕ → Type 0)
    (Window : ℕ → ℕ → Guest → ℕ → Type 0) (Bad : ℕ → ℕ → ℕ → ℕ → Bool)
    (owed : (c : Call) → Owed act Box Window Bad c) (ms : List (Turn Call)) (s : State Texture) where
  abbrev M : Machine (State Texture) Answer Place Call
  M = machine act Box Window Bad

  abbrev Then : Type 0
  Then = Moment (State Texture) Place Call

  abbrev Made : Then → Type 0
  Made e = During act Box Window Bad e ms s

  abbrev laws : (c : Call) → Local places (act c)
  laws c = (owed c).local

  -- sizes stay
  stayed : (e : Then) → Made e → SameSizes s e.before
  stayed e i = still M laws sizes (λ c t. (owed c).keeps t) ms s (nobody M) e i

  -- a target that 1 refuses is refused all along
  bad_stays : (e : Then) → Made e → bad_target act Box Window Bad e.before ≡ bad_target act Box Window Bad s
  bad_stays e i = let k : SameSizes s e.before = stayed e i in
      rw (← k.same_width, ← k.same_height, ← k.same_colors, ← k.same_depths)

  module _ (premises : Premises act Box Window Bad ms s) where
    -- ---- each premise, as a fact about last writers

    -- boxes within windows: who uses a pixel has it in its window
    used : (e : Then) → Made e → (p : ℕ) → Uses (act e.turn.call) e.before (pixel p) → Window s.width s.height e.turn.who p
    used e i p u =
        let k : SameSizes s e.before = stayed e i in
        let w = (owed e.turn.call).stays e.before p u in
        premises.inside e i w.1 p (rw (k.same_width, k.same_height) w.2)

    -- what is known of a guest that wrote a place
    abbrev Known : Guest → Place → Type 0
    Known h sizes = ⊥
    Known h (pixel p) = Window s.width s.height h p
    Known h (byte b) = Unit {0}
    Known h (texture n) = (f : Then) → Made f → h ≢ f.turn.who → ReadsAt M f (texture n) ⊎ WritesAt M f (texture n) → ⊥

    known : EveryWriter M laws Known ms s (nobody M)
    known e i sizes x = true≢false (sym x ∙ (owed e.turn.call).keeps e.before)
    known e i (pixel p) x = used e i p (inr x)
    known e i (byte b) x = tt
    known e i (texture n) x = λ f j ne u. premises.textures e f i j ne n x u

    wrote : (e : Then) → Made e → (l : Place) (h : Guest) → e.last l ≡ some h → Known h l
    wrote e i l h q = last_had M laws Known ms s known e i l h q

    wrote_in_the_end : (l : Place) (h : Guest) → last_writer M ms s (nobody M) l ≡ some h → Known h l
    wrote_in_the_end l h q = end_had M laws Known ms s known l h q

    -- windows that share no pixel: a pixel that a call uses was last written by nobody or its own guest
    pixels_apart : (e : Then) → Made e → (p : ℕ) → ReadsAt M e (pixel p) → Own e.turn.who (e.last (pixel p))
    pixels_apart e i p r = own _ _ (λ h q ne. premises.disjoint h e.turn.who ne p (wrote e i (pixel p) h q) (used e i p (inl r)))

    -- the rule on textures: so was a record that a call reads
    textures_apart : (e : Then) → Made e → (n : ℕ) → ReadsAt M e (texture n) → Own e.turn.who (e.last (texture n))
    textures_apart e i n r = own _ _ (λ h q ne. wrote e i (texture n) h q e i ne (inl r))

    -- the rule on bytes is that very fact; and nobody writes the sizes
    no_foreign_reads : NoForeignReads M ms s (nobody M)
    no_foreign_reads e i sizes r = own _ _ (λ h q ne. wrote e i sizes h q)
    no_foreign_reads e i (pixel p) r = pixels_apart e i p r
    no_foreign_reads e i (byte b) r = premises.bytes e i b r
    no_foreign_reads e i (texture n) r = textures_apart e i n r

    -- ---- the claim

    own_window : (g : Guest) (p : ℕ) → Window s.width s.height g p → Own g (last_writer M ms s (nobody M) (pixel p))
    own_window g p v = own g _ (λ h q ne. premises.disjoint h g ne p (wrote_in_the_end (pixel p) h q) v)

    no_writer : (p : ℕ) → ((g : Guest) → Window s.width s.height g p → ⊥) → last_writer M ms s (nobody M) (pixel p) ≡ none
    no_writer p out = unwritten _ (λ h q. out h (wrote_in_the_end (pixel p) h q))

    as_alone : (g : Guest) → AsAlone M g ms (nobody M) s s
    as_alone g = isolation M laws g ms s no_foreign_reads

  -- a target that 1 refuses has no writer, whatever the list: no premise is needed
  never : (l : Place) → Type 0
  never sizes = ⊥
  never (pixel p) = ⊥
  never (byte b) = Unit {0}
  never (texture n) = Unit {0}

  no_pixel_writer : bad_target act Box Window Bad s ≡ true → EveryWriter M laws (λ h. never) ms s (nobody M)
  unfolding never
  no_pixel_writer bad e i sizes x = true≢false (sym x ∙ (owed e.turn.call).keeps e.before)
  no_pixel_writer bad e i (pixel p) x = true≢false (sym (bad_stays e i ∙ bad) ∙ ((owed e.turn.call).stays e.before p (inr x)).0)
  no_pixel_writer bad e i (byte b) x = tt
  no_pixel_writer bad e i (texture n) x = tt

  as_it_began : bad_target act Box Window Bad s ≡ true → (l : Place) → (never l → ⊥) → Same l s (run M ms s)
  as_it_began bad l n = (untouched M laws ms (nobody M) s l (unwritten _ (λ h q. n (end_had M laws (λ h. never) ms s (no_pixel_writer bad) l h q)))).1

  pub refused_target : Whole act Box Window Bad ms s
  unfolding never
  refused_target bad =
      let z : SameSizes s (run M ms s) = as_it_began bad sizes (λ x. x) in (
        sym (all_colors s.colors (run M ms s).colors s.depths (run M ms s).depths z.same_colors (λ p. as_it_began bad (pixel p) (λ x. x))),
        sym (all_depths s.colors (run M ms s).colors s.depths (run M ms s).depths z.same_depths (λ p. as_it_began bad (pixel p) (λ x. x))),
      )

  -- nor have the sizes a writer
  sized : (l : Place) → Type 0
  sized sizes = ⊥
  sized (pixel p) = Unit {0}
  sized (byte b) = Unit {0}
  sized (texture n) = Unit {0}

  no_size_writer : EveryWriter M laws (λ h. sized) ms s (nobody M)
  unfolding sized
  no_size_writer e i sizes x = true≢false (sym x ∙ (owed e.turn.call).keeps e.before)
  no_size_writer e i (pixel p) x = tt
  no_size_writer e i (byte b) x = tt
  no_size_writer e i (texture n) x = tt

  -- WHAT ALWAYS HOLDS
  pub always : Always act Box Window Bad ms s
  unfolding sized
  always = record {
    sizes_during = stayed;
    sizes_after = (untouched M laws ms (nobody M) s sizes (unwritten _ (λ h q. end_had M laws (λ h. sized) ms s no_size_writer sizes h q))).1;
    whole = refused_target;
  }

  -- THE CLAIM FROM THE PREMISES
  pub claim : Premises act Box Window Bad ms s → Claim act Box Window Bad ms s
  claim h = record {
    answers = λ g. (as_alone h g).same_answers;
    bills = λ g. (as_alone h g).same_bill;
    windows = λ g p v. (as_alone h g).same_places (pixel p) (own_window h g p v);
    outside = λ p out. sym (untouched M laws ms (nobody M) s (pixel p) (no_writer h p out)).1;
    whole = refused_target;
  }
