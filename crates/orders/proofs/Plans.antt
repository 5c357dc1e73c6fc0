-- Lists that keep to a plan may come in any order. Assumes nothing.
use mathlib.Core.Path.{◌≡◌, sym, ap, ◌∙◌}
use mathlib.Core.Logic.{◌⊎◌, inl, inr, ◌≢◌}
use mathlib.Core.Bool.{true}
use mathlib.Core.List.{List}
use Prim.Native.Nat.{ℕ}
use native.Mathlib.Decide.{ℕ_discrete}
use lib.Seq.{ext_get_or}
use Rattle.settings.specs.declared.ScissorBox.{ScissorBox}
use Rattle.isolation.specs.Machine.{Guest, Local, Machine, Turn, Moment, In, run, play, nobody, next, moments, ReadsAt, WritesAt}
use Rattle.isolation.proofs.Alone.{still, moment_turn}
use Rattle.frames.specs.State.{SameSizes, Place, sizes, pixel, byte, texture, Same, places, pixel_at, Answer}
use Rattle.frames.proofs.Pixels.{all_colors, all_depths}
use Rattle.guests.specs.Calls.{Shared}
use Rattle.guests.specs.Guests.{meaning, InBox, InWindow, bad_target, GuestPremises, GuestClaim}
use Rattle.guest_draws.specs.Draw.{drawing, scissor_of}
use Rattle.guest_draws.specs.EveryCall.{GuestCall}
use Rattle.guest_draws.proofs.Demand3.{demand_3}
use Rattle.orders.specs.Orders.{Interleaves, guest_machine, CallsInAnyOrder}
use Rattle.orders.specs.Plans.{Plan, admitted, Names, Tidy, Fair, Ready, EveryOrder, OneForAll}
use Rattle.orders.proofs.Orders.{any_order}
use Rattle.orders.proofs.Owners.{Keeps, in_only, lasts, keeps_apart, same_end}
use Rattle.orders.proofs.Admitted.{admitted_same, writes_admitted, NotSizes, reads_admitted, answered_admitted}
use Rattle.orders.proofs.Fair.{call_owed, some_is, Owns, fair_next, fair_writes, fair_reads}

-- ANY ORDER, for the calls of demand 3
pub calls_in_any_order : (window : Guest → ScissorBox) → CallsInAnyOrder window
calls_in_any_order window = any_order (meaning drawing scissor_of) (InBox drawing scissor_of) (InWindow window) bad_target (call_owed window)

-- states that are the same at every place are the same
pub same_state : (s t : Shared) → ((l : Place) → Same l s t) → s ≡ t
same_state s t h =
    let z : SameSizes s t = h sizes in
    let cs : s.colors ≡ t.colors = all_colors s.colors t.colors s.depths t.depths z.same_colors (λ p. h (pixel p)) in
    let ds : s.depths ≡ t.depths = all_depths s.colors t.colors s.depths t.depths z.same_depths (λ p. h (pixel p)) in
    let st : s.store ≡ t.store = ext_get_or 0 s.store t.store z.same_store (λ b k. h (byte b)) in
    λ i. record { width = z.same_width i; height = z.same_height i; colors = cs i; depths = ds i; store = st i; textures = λ n. h (texture n) i }

module _ (plan : Plan) where
  abbrev N : Machine Shared Answer Place GuestCall
  N = guest_machine plan.window

  abbrev laws : (c : GuestCall) → Local places (meaning drawing scissor_of c)
  laws c = (call_owed plan.window c).local

  module _ (ms : List (Turn GuestCall)) (s : Shared)
      (disjoint : (g h : Guest) → g ≢ h → (p : ℕ) → InWindow plan.window s.width s.height g p → InWindow plan.window s.width s.height h p → ⊥)
      (fair : (m : Turn GuestCall) → In m ms → admitted s m.call ≡ true → Fair plan s m.who m.call) where
    -- nobody owns the sizes
    owned_part : (l : Place) (h : Guest) → Owns plan s h l → NotSizes l
    owned_part sizes h o = o
    owned_part (pixel p) h o = tt
    owned_part (byte b) h o = tt
    owned_part (texture n) h o = tt

    abbrev Then : Type 0
    Then = Moment Shared Place GuestCall

    abbrev Made : Then → Type 0
    Made e = In e (moments N ms s (nobody N))

    sized : (e : Then) → Made e → SameSizes s e.before
    sized e i = still N laws sizes (λ c t. (call_owed plan.window c).keeps t) ms s (nobody N) e i

    fair_at : (e : Then) → Made e → admitted e.before e.turn.call ≡ true → Fair plan s e.turn.who e.turn.call
    fair_at e i a = fair e.turn (moment_turn N ms s (nobody N) e i) (admitted_same s e.before (sized e i) e.turn.call ∙ a)

    -- a record that is tidy at the start is tidy at every moment
    abbrev Good : Shared → Type 0
    Good t = SameSizes s t × ((n : ℕ) → Tidy plan n (s.textures n) → Tidy plan n (t.textures n))

    good : (m : Turn GuestCall) → In m ms → (t : Shared) → Good t → Good (next N m.call t)
    good m j t (z, h) = (
      places.same_trans sizes s t _ z ((laws m.call).frame t sizes ((call_owed plan.window m.call).keeps t)),
      λ n k. fair_next plan s m.who m.call t (λ a. fair m j (admitted_same s t z m.call ∙ a)) n (h n k),
    )

    tidy_at : (e : Then) → Made e → admitted e.before e.turn.call ≡ true → (n : ℕ) → Names e.turn.call n → Tidy plan n (e.before.textures n)
    tidy_at e i a n k = (lasts N Good ms s (nobody N) good (places.same_refl sizes s, λ n k. k) e i).1 n ((fair_at e i a).tidy n k)

    apart : (g h : Guest) → h ≢ g → (p : ℕ) → Owns plan s h (pixel p) → Owns plan s g (pixel p) → ⊥
    apart g h n p a b = disjoint h g n p a b

    keeps_writes : (e : Then) → Made e → (l : Place) → WritesAt N e l → Owns plan s e.turn.who l
    keeps_writes e i l x =
        let a : admitted e.before e.turn.call ≡ true = writes_admitted e.turn.call e.before l x in
        fair_writes plan s e.turn.who e.turn.call (fair_at e i a) e.before (sized e i) (tidy_at e i a) l x

    keeps_reads : (e : Then) → Made e → (l : Place) → ReadsAt N e l → (h : Guest) → Owns plan s h l → h ≡ e.turn.who
    keeps_reads e i l r h o =
        let a : admitted e.before e.turn.call ≡ true = reads_admitted e.turn.call e.before l (owned_part l h o) r in
        fair_reads plan s e.turn.who (apart e.turn.who) e.turn.call (fair_at e i a) e.before (sized e i) (tidy_at e i a) l r h o

    pub keeps : Keeps N (Owns plan s) ms s
    keeps = record { writes = keeps_writes; reads = keeps_reads }

    textures_apart : (e f : Then) → Made e → Made f → e.turn.who ≢ f.turn.who → (n : ℕ)
        → (meaning drawing scissor_of e.turn.call).writes e.before (texture n) ≡ true
        → ((meaning drawing scissor_of f.turn.call).Reads f.before (texture n)) ⊎ ((meaning drawing scissor_of f.turn.call).writes f.before (texture n) ≡ true) → ⊥
    textures_apart e f i j ne n x (inl r) = ne (keeps.reads f j (texture n) r e.turn.who (keeps.writes e i (texture n) x))
    textures_apart e f i j ne n x (inr y) = ne (some_is _ _ (sym (keeps.writes e i (texture n) x) ∙ keeps.writes f j (texture n) y))

    -- THE PREMISES HOLD
    pub fair_premises : GuestPremises drawing scissor_of plan.window ms s
    fair_premises = record {
      disjoint = disjoint;
      inside = λ e i q p b. (fair_at e i (answered_admitted e.turn.call e.before q)).boxed p b;
      textures = textures_apart;
      bytes = λ e i b r. keeps_apart N laws (Owns plan s) ms s keeps e i (byte b) r;
    }

  module _ (lists : Guest → List GuestCall) (s : Shared) (ready : Ready plan lists s) where
    fair_all : (ms : List (Turn GuestCall)) → Interleaves N lists ms → (m : Turn GuestCall) → In m ms → admitted s m.call ≡ true → Fair plan s m.who m.call
    fair_all ms same m i = ready.fair m.who m.call (rw (same m.who) at (in_only N m ms i))

    premises : (ms : List (Turn GuestCall)) → Interleaves N lists ms → GuestPremises drawing scissor_of plan.window ms s
    premises ms same = fair_premises ms s ready.disjoint (fair_all ms same)

    claimed : (ms : List (Turn GuestCall)) → Interleaves N lists ms → GuestClaim drawing scissor_of plan.window ms s
    claimed ms same = demand_3 plan.window ms s (premises ms same)

    pub single : (g h : Guest) (l : Place) → Owns plan s g l → Owns plan s h l → g ≡ h
    single g h sizes a b = absurd a
    single g h (pixel p) a b = go (ℕ_discrete g h)
      where
        go : Dec (g ≡ h) → g ≡ h
        go (yes e) = e
        go (no n) = absurd (ready.disjoint g h n p a b)
    single g h (byte k) a b = some_is g h (sym a ∙ b)
    single g h (texture n) a b = some_is g h (sym a ∙ b)

    pub every_order : EveryOrder plan lists s
    every_order = record {
      premises = premises;
      answers = λ ms same g. (claimed ms same).answers g ∙ ap (λ cs. (play N cs s).answers) (same g);
      bills = λ ms same g. (claimed ms same).bills g ∙ ap (λ cs. (play N cs s).bill) (same g);
      windows = λ ms same g p w. (claimed ms same).windows g p w ∙ ap (λ cs. pixel_at (play N cs s).left.colors (play N cs s).left.depths p) (same g);
      outside = λ ms same p out. (claimed ms same).outside p out;
      left = λ ms ns one two. same_state (run N ms s) (run N ns s)
          (same_end N laws (Owns plan s) single ms ns s (λ g. one g ∙ sym (two g))
          (keeps ms s ready.disjoint (fair_all ms one)) (keeps ns s ready.disjoint (fair_all ns two)));
    }

-- ONE RUN FOR ALL
pub one_for_all : OneForAll
one_for_all plan lists s ready = every_order plan lists s ready
