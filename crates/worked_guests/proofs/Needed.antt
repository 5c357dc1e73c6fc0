-- Three premises are needed: without each the claim is false of a list of two or three calls that meets the others. Assumes nothing.
use mathlib.Core.Path.{◌≡◌, refl, sym, ap, ◌∙◌, subst}
use mathlib.Core.Logic.{inl, inr}
use mathlib.Core.List.{List, [], ◌∷◌}
use Prim.Native.Nat.{ℕ}
use native.Mathlib.Omega.{arith}
use Rattle.settings.specs.declared.ScissorBox.{ScissorBox}
use Rattle.isolation.specs.Machine.{Guest, Turn, In, Machine, answers_of, alone, nobody}
use Rattle.isolation.proofs.Alone.{moment_turn}
use Rattle.frames.specs.State.{Place, Answer, done, refused}
use Rattle.frames.specs.Windows.{machine}
use Rattle.guests.specs.Calls.{Shared}
use Rattle.guests.specs.Guests.{Call, meaning, InBox, InWindow, bad_target, no_drawing, no_scissor}
use Rattle.worked_guests.specs.Worked.{start, window, one_window, overdrawn, out_of_bounds, fought, BoxesInside, Textures, Bytes, Refuted, WindowsNeeded, BoxesNeeded, TexturesNeeded}
use Rattle.worked_guests.proofs.Opened.{opened}
use Rattle.worked_guests.proofs.Uses.{Names, uses_named, reads_no_byte}
use Rattle.worked_guests.proofs.Worked.{disjoint}

module _ (w : Guest → ScissorBox) (ms : List (Turn (Call ⊥))) where
  abbrev M : Machine Shared Answer Place (Call ⊥)
  M = machine (meaning no_drawing no_scissor) (InBox no_drawing no_scissor) (InWindow w) bad_target

  bytes : Bytes w ms
  bytes e i b r = absurd (reads_no_byte e.turn.call e.before b r)

  -- a list whose calls name no texture
  no_textures : ((m : Turn (Call ⊥)) → In m ms → (n : ℕ) → Names m.call n → ⊥) → Textures w ms
  no_textures h e f i j ne n x u = h e.turn (moment_turn M ms start (nobody M) e i) n (uses_named e.turn.call e.before n (inr x))

  -- a list whose boxes are in their windows, whatever is refused
  all_are_inside : ((m : Turn (Call ⊥)) → In m ms → (p : ℕ) → InBox no_drawing no_scissor 4 1 m.call p → InWindow w 4 1 m.who p) → BoxesInside w ms
  all_are_inside h e i r p x = h e.turn (moment_turn M ms start (nobody M) e i) p x

-- ---- windows that share a pixel

abbrev Unnamed : Turn (Call ⊥) → Type 0
Unnamed m = (n : ℕ) → Names m.call n → ⊥

unnamed_over : (m : Turn (Call ⊥)) → In m overdrawn → Unnamed m
unnamed_over m (inl q) = subst Unnamed (sym q) (λ n x. x)
unnamed_over m (inr (inl q)) = subst Unnamed (sym q) (λ n x. x)
unnamed_over m (inr (inr i)) = absurd i

abbrev Within₁ : Turn (Call ⊥) → Type 0
Within₁ m = (p : ℕ) → InBox no_drawing no_scissor 4 1 m.call p → InWindow one_window 4 1 m.who p

inside_over : (m : Turn (Call ⊥)) → In m overdrawn → Within₁ m
inside_over m (inl q) = subst Within₁ (sym q) (λ p x. x)
inside_over m (inr (inl q)) = subst Within₁ (sym q) (λ p x. x)
inside_over m (inr (inr i)) = absurd i

over_false : Refuted one_window overdrawn
unfolding opened
over_false c = let e : ◌≡◌ {A = ℕ} 2 1 = ap (λ x. x.red) (c.windows 0 0 refl) in omega arith

pub windows_needed : WindowsNeeded
windows_needed = (all_are_inside one_window overdrawn inside_over, no_textures one_window overdrawn unnamed_over, bytes one_window overdrawn, over_false)

-- ---- a box past its window

unnamed_out : (m : Turn (Call ⊥)) → In m out_of_bounds → Unnamed m
unnamed_out m (inl q) = subst Unnamed (sym q) (λ n x. x)
unnamed_out m (inr (inl q)) = subst Unnamed (sym q) (λ n x. x)
unnamed_out m (inr (inr i)) = absurd i

out_false : Refuted window out_of_bounds
unfolding opened
out_false c = let e : ◌≡◌ {A = ℕ} 2 1 = ap (λ x. x.red) (c.windows 0 0 refl) in omega arith

pub boxes_needed : BoxesNeeded
boxes_needed = (disjoint, no_textures window out_of_bounds unnamed_out, bytes window out_of_bounds, out_false)

-- ---- a texture that another guest writes

abbrev Boxless : Turn (Call ⊥) → Type 0
Boxless m = (p : ℕ) → InBox no_drawing no_scissor 4 1 m.call p → InWindow window 4 1 m.who p

inside_fought : (m : Turn (Call ⊥)) → In m fought → Boxless m
inside_fought m (inl q) = subst Boxless (sym q) (λ p x. absurd x)
inside_fought m (inr (inl q)) = subst Boxless (sym q) (λ p x. absurd x)
inside_fought m (inr (inr (inl q))) = subst Boxless (sym q) (λ p x. absurd x)
inside_fought m (inr (inr (inr i))) = absurd i

shared_answers : answers_of (M window fought) 0 fought start ≡ done ∷ refused 13 ∷ []
unfolding opened
shared_answers = refl

own_answers : (alone (M window fought) 0 fought start).answers ≡ done ∷ done ∷ []
unfolding opened
own_answers = refl

fought_false : Refuted window fought
fought_false c =
    let e : done ∷ refused 13 ∷ [] ≡ done ∷ done ∷ [] = sym shared_answers ∙ c.answers 0 ∙ own_answers in
    let z : ◌≡◌ {A = ℕ} 0 1 = cc in omega arith

pub textures_needed : TexturesNeeded
textures_needed = (disjoint, all_are_inside window fought inside_fought, bytes window fought, fought_false)
