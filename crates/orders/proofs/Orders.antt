-- Any order: the frame in the end hangs on each guest's calls alone. A pixel's last writer is a function of the list, so whether a
-- pixel is in some window need not be decided. Assumes nothing.
use mathlib.Core.Path.{◌≡◌, refl, sym, ap, ◌∙◌}
use mathlib.Core.Logic.{inr}
use mathlib.Core.Bool.{Bool, true≢false}
use mathlib.Core.Option.{Option, none, some}
use mathlib.Core.List.{List}
use Prim.Native.Nat.{ℕ}
use Rattle.isolation.specs.Machine.{Guest, Act, Local, Machine, Turn, run, play, nobody, last_writer}
use Rattle.isolation.proofs.Alone.{untouched, still, EveryWriter, end_had, unwritten}
use Rattle.frames.specs.State.{State, SameSizes, Place, sizes, pixel, byte, texture, Same, places, Answer}
use Rattle.frames.proofs.Pixels.{all_colors, all_depths}
use Rattle.frames.specs.Windows.{machine, Owed, Premises, Claim}
use Rattle.frames.proofs.Windows.{claim}
use Rattle.orders.specs.Orders.{SameCalls, AnyOrder}

module _ {Texture Call : Type 0} (act : Call → Act (State Texture) Answer Place) (Box : ℕ → ℕ → Call → ℕ → Type 0)
    (Window : ℕ → ℕ → Guest → ℕ → Type 0) (Bad : ℕ → ℕ → ℕ → ℕ → Bool) (owed : (c : Call) → Owed act Box Window Bad c) where
  abbrev M : Machine (State Texture) Answer Place Call
  M = machine act Box Window Bad

  abbrev laws : (c : Call) → Local places (act c)
  laws c = (owed c).local

  -- ---- one list

  module _ (ms : List (Turn Call)) (s : State Texture) where
    abbrev Known : Guest → Place → Type 0
    Known h sizes = ⊥
    Known h (pixel p) = Window s.width s.height h p
    Known h (byte b) = Unit {0}
    Known h (texture n) = Unit {0}

    known : Premises act Box Window Bad ms s → EveryWriter M laws Known ms s (nobody M)
    known h e i sizes x = true≢false (sym x ∙ (owed e.turn.call).keeps e.before)
    known h e i (pixel p) x =
        let k : SameSizes s e.before = still M laws sizes (λ c t. (owed c).keeps t) ms s (nobody M) e i in
        let w = (owed e.turn.call).stays e.before p (inr x) in
        h.inside e i w.1 p (rw (k.same_width, k.same_height) w.2)
    known h e i (byte b) x = tt
    known h e i (texture n) x = tt

    -- who wrote a pixel last has it in its window
    wrote_last : Premises act Box Window Bad ms s → (l : Place) (h : Guest) → last_writer M ms s (nobody M) l ≡ some h → Known h l
    wrote_last k l h q = end_had M laws Known ms s (known k) l h q

    -- what nobody wrote is as it began
    as_it_began : (l : Place) → last_writer M ms s (nobody M) l ≡ none → Same l s (run M ms s)
    as_it_began l q = (untouched M laws ms (nobody M) s l q).1

    sizes_stay : Premises act Box Window Bad ms s → Same sizes s (run M ms s)
    sizes_stay k = as_it_began sizes (unwritten _ (λ h q. wrote_last k sizes h q))

  -- ---- two lists

  module _ (ms ns : List (Turn Call)) (s : State Texture) (calls : SameCalls M ms ns)
      (here : Premises act Box Window Bad ms s) (there : Premises act Box Window Bad ns s) where
    one : Claim act Box Window Bad ms s
    one = claim act Box Window Bad owed ms s here

    two : Claim act Box Window Bad ns s
    two = claim act Box Window Bad owed ns s there

    -- a pixel of a window
    in_window : (g : Guest) (p : ℕ) → Window s.width s.height g p → Same (pixel p) (run M ms s) (run M ns s)
    in_window g p w = rw (calls g) at (one.windows g p w) ∙ sym (two.windows g p w)

    pub pixel_same : (p : ℕ) → Same (pixel p) (run M ms s) (run M ns s)
    pixel_same p = go (last_writer M ms s (nobody M) (pixel p)) (last_writer M ns s (nobody M) (pixel p)) refl refl
      where
        go : (a b : Option Guest) → last_writer M ms s (nobody M) (pixel p) ≡ a → last_writer M ns s (nobody M) (pixel p) ≡ b → Same (pixel p) (run M ms s) (run M ns s)
        go (some g) b e f = in_window g p (wrote_last ms s here (pixel p) g e)
        go none (some g) e f = in_window g p (wrote_last ns s there (pixel p) g f)
        go none none e f = sym (as_it_began ms s (pixel p) e) ∙ as_it_began ns s (pixel p) f

    pub sizes_same : Same sizes (run M ms s) (run M ns s)
    sizes_same = places.same_trans sizes _ s _ (places.same_sym sizes _ _ (sizes_stay ms s here)) (sizes_stay ns s there)

  -- ANY ORDER, for any kinds of call that owe what every call owes
  pub any_order : AnyOrder act Box Window Bad
  any_order ms ns s calls here there =
      let a : Claim act Box Window Bad ms s = one ms ns s calls here there in
      let b : Claim act Box Window Bad ns s = two ms ns s calls here there in
      let z : SameSizes (run M ms s) (run M ns s) = sizes_same ms ns s calls here there in
      record {
        answers = λ g. a.answers g ∙ ap (λ cs. (play M cs s).answers) (calls g) ∙ sym (b.answers g);
        bills = λ g. a.bills g ∙ ap (λ cs. (play M cs s).bill) (calls g) ∙ sym (b.bills g);
        colors = all_colors _ _ _ _ z.same_colors (pixel_same ms ns s calls here there);
        depths = all_depths _ _ _ _ z.same_depths (pixel_same ms ns s calls here there);
      }
