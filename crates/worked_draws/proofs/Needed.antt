-- Each premise is needed: without it the claim is false of a short list with a draw that meets the others. Assumes nothing.
use mathlib.Core.Path.{◌≡◌, refl, sym, ap, ◌∙◌}
use mathlib.Core.Logic.{◌⊎◌, inl, inr}
use mathlib.Core.Bool.{true}
use mathlib.Core.List.{List}
use Prim.Native.Nat.{ℕ}
use native.Mathlib.Omega.{arith}
use Rattle.std.proofs.lemmas.Bool.{false≢true}
use Rattle.settings.specs.declared.ScissorBox.{ScissorBox}
use Rattle.isolation.specs.Machine.{Guest, Turn, In, Own, Machine, nobody, moments, ReadsAt}
use Rattle.isolation.specs.Acts.{Uses}
use Rattle.isolation.proofs.Alone.{moment_turn}
use Rattle.frames.specs.State.{Place, byte, texture, Answer}
use Rattle.frames.specs.Windows.{machine}
use Rattle.guests.specs.Calls.{Shared}
use Rattle.guests.specs.Guests.{meaning, InBox, InWindow, bad_target}
use Rattle.guest_draws.specs.Draw.{DrawCall, names_of, drawing, scissor_of}
use Rattle.guest_draws.specs.EveryCall.{GuestCall}
use Rattle.worked_guests.specs.Worked.{window}
use Rattle.worked_guests.proofs.Worked.{disjoint}
use Rattle.worked_guests.proofs.Uses.{NamesOf, uses_of, All, each}
use Rattle.guest_draws.proofs.Demand3.{always}
use Rattle.worked_draws.specs.Worked.{start, torn}
use Rattle.worked_draws.specs.Needed.{one_window, overdrawn, out_of_bounds, fought, overwritten, BoxesInside, Textures, Bytes, Refuted, WindowsNeeded, BoxesNeeded, TexturesNeeded, BytesNeeded, NoPremise}
use Rattle.worked_draws.proofs.Opened.{opened}
use Rattle.worked_draws.proofs.Good.{Then}
use Rattle.worked_draws.proofs.Worked.{torn_is_bad}

module _ (w : Guest → ScissorBox) (ms : List (Turn GuestCall)) where
  abbrev On : Machine Shared Answer Place GuestCall
  On = machine (meaning drawing scissor_of) (InBox drawing scissor_of) (InWindow w) bad_target

  -- boxes in their windows, whatever is refused
  all_are_inside : All (λ m. (p : ℕ) → InBox drawing scissor_of 4 1 m.call p → InWindow w 4 1 m.who p) ms → BoxesInside w ms
  all_are_inside h e i r p x = each _ ms h e.turn (moment_turn On ms start (nobody On) e i) p x

  -- calls that write no texture
  no_textures : All (λ m. (s : Shared) (n : ℕ) → (meaning drawing scissor_of m.call).writes s (texture n) ≡ true → ⊥) ms → Textures w ms
  no_textures h e f i j ne n x u = each _ ms h e.turn (moment_turn On ms start (nobody On) e i) e.before n x

  -- calls that take bytes of their own
  all_own : All (λ (e : Then). (b : ℕ) → ReadsAt On e (byte b) → Own e.turn.who (e.last (byte b))) (moments On ms start (nobody On)) → Bytes w ms
  all_own h e i b r = each _ (moments On ms start (nobody On)) h e i b r

-- ---- windows that share a pixel

inside_over : BoxesInside one_window overdrawn
inside_over = all_are_inside one_window overdrawn ((λ p x. x), ((λ p x. x), ((λ p x. x), tt)))

textures_over : Textures one_window overdrawn
textures_over = no_textures one_window overdrawn ((λ s n e. absurd (false≢true e)), ((λ s n e. absurd (false≢true e)), ((λ s n e. absurd (false≢true e)), tt)))

bytes_over : Bytes one_window overdrawn
unfolding opened
bytes_over = all_own one_window overdrawn ((λ b r. absurd r), ((λ b r. absurd r), ((λ b r. absurd r.1), tt)))

-- guest 0's draw writes no pixel among all, and one alone
over_false : Refuted one_window overdrawn
unfolding opened
over_false c = let e : ◌≡◌ {A = ℕ} 0 1 = c.bills 0 in omega arith

pub windows_needed : WindowsNeeded
windows_needed = (inside_over, textures_over, bytes_over, over_false)

-- ---- a box past its window

textures_out : Textures window out_of_bounds
textures_out = no_textures window out_of_bounds ((λ s n e. absurd (false≢true e)), ((λ s n e. absurd (false≢true e)), tt))

bytes_out : Bytes window out_of_bounds
unfolding opened
bytes_out = all_own window out_of_bounds ((λ b r. absurd r), ((λ b r. tt), tt))

out_false : Refuted window out_of_bounds
unfolding opened
out_false c = let e : ◌≡◌ {A = ℕ} 50 0 = ap (λ x. x.red) (c.windows 0 0 refl) in omega arith

pub boxes_needed : BoxesNeeded
boxes_needed = (disjoint, textures_out, bytes_out, out_false)

-- ---- a texture that another guest writes

inside_fought : BoxesInside window fought
inside_fought = all_are_inside window fought ((λ p x. x), ((λ p x. absurd x), ((λ p x. absurd x), ((λ p x. x), tt))))

bytes_fought : Bytes window fought
unfolding opened
bytes_fought = all_own window fought ((λ b r. absurd r), ((λ b r. absurd r), ((λ b r. absurd r), ((λ b r. absurd r.1), tt))))

-- guest 0's pixel has no texel's colour
fought_false : Refuted window fought
unfolding opened
fought_false c = let e : ◌≡◌ {A = ℕ} 255 5 = ap (λ x. x.red) (c.windows 0 0 refl) in omega arith

pub textures_needed : TexturesNeeded
textures_needed = (disjoint, inside_fought, bytes_fought, fought_false)

-- ---- bytes that another guest wrote last

abbrev By : DrawCall → ℕ → Type 0
By x m = In m (names_of x)

by_names : (x : DrawCall) (s : Shared) (m : ℕ) → Uses (drawing x) s (texture m) → By x m
by_names x s m (inl r) = r.1
by_names x s m (inr e) = absurd (false≢true e)

-- each guest names one texture, of its own number
abbrev Names : Turn GuestCall → Type 0
Names m = (n : ℕ) → NamesOf drawing scissor_of By by_names m.call n → n ≡ m.who

own_names : All Names overwritten
unfolding opened
own_names = ((λ n x. absurd x), ((λ n x. x), ((λ n x. x), (one, tt))))
  where
    one : (n : ℕ) → (n ≡ 0) ⊎ ⊥ → n ≡ 0
    one n (inl e) = e
    one n (inr z) = absurd z

textures_own : Textures window overwritten
textures_own e f i j ne n x u =
    let M = On window overwritten in
    let a : n ≡ e.turn.who = each Names overwritten own_names e.turn (moment_turn M overwritten start (nobody M) e i) n (uses_of drawing scissor_of By by_names e.turn.call e.before n (inr x)) in
    let b : n ≡ f.turn.who = each Names overwritten own_names f.turn (moment_turn M overwritten start (nobody M) f j) n (uses_of drawing scissor_of By by_names f.turn.call f.before n u) in
    ne (sym a ∙ b)

inside_own : BoxesInside window overwritten
inside_own = all_are_inside window overwritten ((λ p x. x), ((λ p x. absurd x), ((λ p x. absurd x), ((λ p x. x), tt))))

-- guest 0's pixel takes guest 1's byte
own_false : Refuted window overwritten
unfolding opened
own_false c = let e : ◌≡◌ {A = ℕ} 9 5 = ap (λ x. x.red) (c.windows 0 0 refl) in omega arith

pub bytes_needed : BytesNeeded
bytes_needed = (disjoint, inside_own, textures_own, own_false)

-- ---- what holds all the same

pub no_premise : NoPremise
no_premise =
    let a = always window out_of_bounds start in
    let z = a.sizes_after in
    record {
      store_at_each = λ e i. sym (a.sizes_during e i).same_store;
      width_stays = sym z.same_width;
      height_stays = sym z.same_height;
      colors_stay = sym z.same_colors;
      depths_stay = sym z.same_depths;
      store_stays = sym z.same_store;
      whole = (always window out_of_bounds torn).whole torn_is_bad;
    }
