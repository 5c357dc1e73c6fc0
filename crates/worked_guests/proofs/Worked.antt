-- The premises can be met: the worked list meets them, with refused calls of each kind among it. Assumes nothing.
use Rattle.std.proofs.lemmas.Bool.{and_parts}
use Rattle.std.specs.Prelude.{Some}
use mathlib.Core.Path.{◌≡◌, refl, sym, ap, ◌∙◌}
use mathlib.Core.Logic.{◌⊎◌, inl, inr, ◌≢◌}
use mathlib.Core.Bool.{true, false, ◌&&◌, true≢false}
use mathlib.Core.List.{[], ◌∷◌}
use Prim.Native.Nat.{ℕ, zero, suc, ◌+◌, ◌-◌, ◌%◌, ◌/◌, ◌<◌, ◌≤◌}
use native.Mathlib.Omega.{arith}
use lib.Dec.{ltb, leb}
use lib.IntN.{pos}
use borrow.Author.Tests.{ltb-true, leb-true, lt-ltb}
use Rattle.isolation.specs.Machine.{Guest, Moment, answers_of, bill_of, run, answer, nobody, moments, WritesAt, ReadsAt}
use Rattle.frames.specs.State.{Place, texture, done, refused, is_refused}
use Rattle.frames.specs.Windows.{During, Disjoint, Inside, TexturesApart}
use Rattle.floats.specs.Num.{zero32, one32}
use Rattle.scissor.specs.Scissor.{within, in_box, pixel_in}
use Rattle.guests.specs.Calls.{Shared}
use Rattle.guests.specs.Guests.{Call, meaning, InBox, InWindow, bad_target, no_drawing, no_scissor, GuestPremises, GuestClaim}
use Rattle.worked_guests.specs.Worked.{start, window, calls, column, half, M, torn, on_torn, pixel_of, Claimed}
use Rattle.worked_guests.proofs.Opened.{opened}
use Rattle.worked_guests.proofs.Uses.{Names, uses_named, reads_no_byte, in_columns, in_rows, both, each}
use Rattle.guests.proofs.Guests.{calls_without_draws}

-- ---- windows share no pixel

-- a pixel in a column
in_column : (x n p : ℕ) → pixel_in 4 1 (Some (column x n)) p ≡ true → (x ≤ p % 4) × (p % 4 < x + 1)
in_column x n p e = let a = and_parts (leb x (p % 4)) (ltb (p % 4) (x + 1)) (in_columns 4 1 (column x n) p e) in (leb-true x (p % 4) a.0, ltb-true (p % 4) (x + 1) a.1)

-- guests below 3 have the column of their number, the others none
mine : (g p : ℕ) → InWindow window 4 1 g p → g ≡ p % 4
mine zero p e = let c = in_column 0 9 p e in omega (arith, c.1)
mine (suc zero) p e = let c = in_column 1 9 p e in omega (arith, c.0, c.1)
mine (suc (suc zero)) p e = let c = in_column 2 9 p e in omega (arith, c.0, c.1)
mine (suc (suc (suc g))) p e = absurd (omega (arith, ltb-true (1 - 1 - p / 4) 0 (and_parts (leb 0 (1 - 1 - p / 4)) (ltb (1 - 1 - p / 4) 0) (in_rows 4 1 (column 0 0) p e)).1))

pub disjoint : Disjoint (meaning no_drawing no_scissor) (InBox no_drawing no_scissor) (InWindow window) bad_target start
disjoint g h n p a b = n (mine g p a ∙ sym (mine h p b))

-- the last pixel is in no window
pub last_alone : (g : Guest) → InWindow window 4 1 g 3 → ⊥
unfolding in_box
last_alone zero e = true≢false (sym e)
last_alone (suc zero) e = true≢false (sym e)
last_alone (suc (suc zero)) e = true≢false (sym e)
last_alone (suc (suc (suc g))) e = true≢false (sym e)

-- ---- each clear that is not refused has its box in its guest's window

abbrev Kept : Moment Shared Place (Call ⊥) → Type 0
Kept e = is_refused (answer M e.turn.call e.before) ≡ false → (p : ℕ) → InBox no_drawing no_scissor 4 1 e.turn.call p → InWindow window 4 1 e.turn.who p

-- a lower box is within a higher one
pub taller : (x n m p : ℕ) → n ≤ m → pixel_in 4 1 (Some (column x n)) p ≡ true → pixel_in 4 1 (Some (column x m)) p ≡ true
unfolding in_box
taller x n m p h e =
    let a = and_parts (ltb (p % 4) 4 && ltb (p / 4) 1) _ e in
    let b = and_parts (within (pos x) (pos 1) (p % 4)) _ a.1 in
    let d = and_parts (leb 0 (0 - p / 4)) (ltb (0 - p / 4) (0 + n)) b.1 in
    rw (a.0, b.0, d.0, lt-ltb (0 - p / 4) (0 + m) (omega (arith, ltb-true (0 - p / 4) (0 + n) d.1)))

inside : Inside (meaning no_drawing no_scissor) (InBox no_drawing no_scissor) (InWindow window) bad_target calls start
unfolding opened
inside = each Kept (moments M calls start (nobody M)) (both (λ r p x. absurd x) (
    both (λ r p x. absurd x) (
    both (λ r p x. absurd x) (
    both (λ r p x. taller 0 1 9 p (omega arith) x) (
    both (λ r p x. absurd x) (
    both (λ r p x. x) (
    both (λ r p x. absurd x) (
    both (λ r p x. absurd (true≢false r)) (
    both (λ r p x. absurd (true≢false r)) (
    both (λ r p x. absurd x) (
    both (λ r p x. absurd x) (
    both (λ r p x. absurd x) (
    both (λ r p x. absurd x) (
    both (λ r p x. absurd x) (
    both (λ r p x. absurd x) (
    both (λ r p x. taller 2 1 9 p (omega arith) x) tt))))))))))))))))

-- ---- who writes a texture uses it alone; texture 3 is only read

abbrev owner : ℕ → Guest
owner zero = 0
owner (suc n) = 1

record Fair (e : Moment Shared Place (Call ⊥)) : Type 0 where
  writer : (n : ℕ) → WritesAt M e (texture n) → (e.turn.who ≡ owner n) × (n ≢ 3)
  user : (n : ℕ) → ReadsAt M e (texture n) ⊎ WritesAt M e (texture n) → (e.turn.who ≡ owner n) ⊎ (n ≡ 3)

-- a call that names one texture, of its guest's own
fair : (e : Moment Shared Place (Call ⊥)) (k : ℕ) → owner k ≡ e.turn.who → k ≢ 3 → ((n : ℕ) → Names e.turn.call n → n ≡ k) → Fair e
fair e k o d f = record { writer = λ n w. (mine n (inr w), λ z. d (sym (name n (inr w)) ∙ z)); user = λ n u. inl (mine n u) }
  where
    name : (n : ℕ) → ReadsAt M e (texture n) ⊎ WritesAt M e (texture n) → n ≡ k
    name n u = f n (uses_named e.turn.call e.before n u)

    mine : (n : ℕ) → ReadsAt M e (texture n) ⊎ WritesAt M e (texture n) → e.turn.who ≡ owner n
    mine n u = sym o ∙ ap owner (sym (name n u))

-- one that writes none, and reads at most texture 3
idle : (e : Moment Shared Place (Call ⊥)) → ((n : ℕ) → WritesAt M e (texture n) → ⊥) → ((n : ℕ) → ReadsAt M e (texture n) → n ≡ 3) → Fair e
idle e w r = record { writer = λ n x. absurd (w n x); user = go }
  where
    go : (n : ℕ) → ReadsAt M e (texture n) ⊎ WritesAt M e (texture n) → (e.turn.who ≡ owner n) ⊎ (n ≡ 3)
    go n (inl x) = inr (r n x)
    go n (inr x) = absurd (w n x)

-- a define that 9 refuses, and a setting that 16 refuses, has read nothing
unread : (n : ℕ) → (n ≡ 0) × (false ≡ true) → n ≡ 3
unread n r = absurd (true≢false (sym r.1))

fairs : (e : Moment Shared Place (Call ⊥)) → During (meaning no_drawing no_scissor) (InBox no_drawing no_scissor) (InWindow window) bad_target e calls start → Fair e
unfolding opened
fairs = each Fair (moments M calls start (nobody M)) (both (fair _ 0 refl (omega arith) (λ n x. x)) (
    both (fair _ 1 refl (omega arith) (λ n x. x)) (
    both (fair _ 2 refl (omega arith) (λ n x. x)) (
    both (idle _ (λ n w. true≢false (sym w)) (λ n r. absurd r)) (
    both (fair _ 0 refl (omega arith) (λ n x. x)) (
    both (idle _ (λ n w. true≢false (sym w)) (λ n r. absurd r)) (
    both (fair _ 0 refl (omega arith) (λ n x. x)) (
    both (idle _ (λ n w. true≢false (sym w)) (λ n r. absurd r)) (
    both (idle _ (λ n w. true≢false (sym w)) (λ n r. absurd r)) (
    both (idle _ (λ n w. true≢false (sym w)) unread) (
    both (idle _ (λ n w. true≢false (sym w)) (λ n r. r)) (
    both (idle _ (λ n w. true≢false (sym w)) (λ n r. r)) (
    both (idle _ (λ n w. true≢false (sym w)) unread) (
    both (fair _ 2 refl (omega arith) (λ n x. x)) (
    both (fair _ 2 refl (omega arith) (λ n x. x)) (
    both (idle _ (λ n w. true≢false (sym w)) (λ n r. absurd r)) tt))))))))))))))))

textures : TexturesApart (meaning no_drawing no_scissor) (InBox no_drawing no_scissor) (InWindow window) bad_target calls start
textures e f i j ne n w u = go ((fairs f j).user n u)
  where
    go : (f.turn.who ≡ owner n) ⊎ (n ≡ 3) → ⊥
    go (inl o) = ne (((fairs e i).writer n w).0 ∙ sym o)
    go (inr z) = ((fairs e i).writer n w).1 z

-- ---- all premises, and so the claim

pub met : GuestPremises no_drawing no_scissor window calls start
met = record { disjoint = disjoint; inside = inside; textures = textures; bytes = λ e i b r. absurd (reads_no_byte e.turn.call e.before b r) }

pub holds : GuestClaim no_drawing no_scissor window calls start
holds = calls_without_draws window calls start met

-- ---- what the claim says of it, part by part

answers_0 : answers_of M 0 calls start ≡ done ∷ done ∷ done ∷ done ∷ refused 4 ∷ refused 12 ∷ []
unfolding opened
answers_0 = refl

answers_1 : answers_of M 1 calls start ≡ done ∷ done ∷ done ∷ refused 2 ∷ refused 9 ∷ refused 12 ∷ refused 16 ∷ done ∷ refused 13 ∷ []
unfolding opened
answers_1 = refl

answers_2 : answers_of M 2 calls start ≡ done ∷ []
unfolding opened
answers_2 = refl

bill_1 : bill_of M 1 calls start ≡ 0
unfolding opened
bill_1 = refl

-- the frame in the end, among all
left_0 : pixel_of (run M calls start) 0 ≡ record { red = 10; green = 20; blue = 30; alpha = 40; depth = zero32 }
unfolding opened
left_0 = refl

left_1 : pixel_of (run M calls start) 1 ≡ record { red = 0; green = 0; blue = 0; alpha = 0; depth = half }
unfolding opened
left_1 = refl

left_2 : pixel_of (run M calls start) 2 ≡ record { red = 21; green = 22; blue = 23; alpha = 24; depth = zero32 }
unfolding opened
left_2 = refl

pub in_0 : InWindow window 4 1 0 0
unfolding opened
in_0 = refl

pub in_1 : InWindow window 4 1 1 1
unfolding opened
in_1 = refl

pub in_2 : InWindow window 4 1 2 2
unfolding opened
in_2 = refl

began_3 : pixel_of start 3 ≡ record { red = 11; green = 12; blue = 13; alpha = 14; depth = one32 }
unfolding opened
began_3 = refl

-- the target that 1 refuses: no call is done, so the premises ask for nothing but windows that share no pixel
torn_is_bad : bad_target 4 1 15 4 ≡ true
unfolding opened
torn_is_bad = refl

none_done : Inside (meaning no_drawing no_scissor) (InBox no_drawing no_scissor) (InWindow window) bad_target on_torn torn
unfolding opened
none_done = each Kept (moments M on_torn torn (nobody M)) ((λ r p x. absurd (true≢false r)), ((λ r p x. absurd (true≢false r)), tt))

abbrev Quiet : Moment Shared Place (Call ⊥) → Type 0
Quiet e = (n : ℕ) → WritesAt M e (texture n) → ⊥

quiet : (e : Moment Shared Place (Call ⊥)) → During (meaning no_drawing no_scissor) (InBox no_drawing no_scissor) (InWindow window) bad_target e on_torn torn → Quiet e
unfolding opened
quiet = each Quiet (moments M on_torn torn (nobody M)) ((λ n w. true≢false (sym w)), ((λ n w. true≢false (sym w)), tt))

met_torn : GuestPremises no_drawing no_scissor window on_torn torn
met_torn = record {
  disjoint = disjoint;
  inside = none_done;
  textures = λ e f i j ne n w u. quiet e i n w;
  bytes = λ e i b r. absurd (reads_no_byte e.turn.call e.before b r);
}

pub claimed : Claimed
claimed = record {
  answers_0 = sym (holds.answers 0) ∙ answers_0;
  answers_1 = sym (holds.answers 1) ∙ answers_1;
  answers_2 = sym (holds.answers 2) ∙ answers_2;
  bill_1 = sym (holds.bills 1) ∙ bill_1;
  window_0 = sym (holds.windows 0 0 in_0) ∙ left_0;
  window_1 = sym (holds.windows 1 1 in_1) ∙ left_1;
  window_2 = sym (holds.windows 2 2 in_2) ∙ left_2;
  outside_3 = holds.outside 3 last_alone ∙ began_3;
  whole = (calls_without_draws window on_torn torn met_torn).whole torn_is_bad;
}
