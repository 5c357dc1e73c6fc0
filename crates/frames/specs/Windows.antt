-- Document 01, "Demand 3 in full": the premises, each as 01 has it, the claim, and what holds with no premise, over any kinds of call on
-- the shared state.
use Rattle.std.specs.Prelude.{◌≡◌, ◌⊎◌, ◌≢◌, Bool, true, false, List, ℕ, length}
use Rattle.isolation.specs.Machine.{Guest, Act, Local, Machine, Turn, Moment, In, Own, run, answers_of, bill_of, alone, answer, nobody, moments, ReadsAt, WritesAt}
use Rattle.isolation.specs.Acts.{Uses}
use Rattle.frames.specs.State.{State, SameSizes, Place, sizes, pixel, byte, texture, places, pixel_at, Answer, cost, is_refused}

-- Act: what each call means. Box: of a target's width and height, the pixels on it of a call's scissor box; none for a call that is
-- not lent the frame. Window: those of a guest's window. Bad: number 1 refuses a target of that width and height with so many
-- colour bytes and depths.
module _ {Texture Call : Type 0} (act : Call → Act (State Texture) Answer Place) (Box : ℕ → ℕ → Call → ℕ → Type 0)
    (Window : ℕ → ℕ → Guest → ℕ → Type 0) (Bad : ℕ → ℕ → ℕ → ℕ → Bool) where
  abbrev pub machine : Machine (State Texture) Answer Place Call
  machine = record { places = places; act = act; cost = cost }

  abbrev pub bad_target : State Texture → Bool
  bad_target s = Bad s.width s.height (length s.colors) (length s.depths)

  -- WHAT A CALL OWES, whatever it does: the two laws; it leaves the sizes alone; and it uses a pixel only if 1 takes the target,
  -- the call is not refused, and the pixel is of its scissor box.
  pub record Owed (c : Call) : Type 0 where
    pub local : Local places (act c)
    pub keeps : (s : State Texture) → (act c).writes s sizes ≡ false
    pub stays : (s : State Texture) (p : ℕ) → Uses (act c) s (pixel p)
        → (bad_target s ≡ false) × (is_refused ((act c).does s).0 ≡ false) × Box s.width s.height c p

  -- the calls of a list, from the start s, as they are made one after the other
  abbrev pub During : Moment (State Texture) Place Call → List (Turn Call) → State Texture → Type 0
  During e ms s = In e (moments machine ms s (nobody machine))

  -- ---- With no premise, about any list ms from any start s

  -- A whole target that 1 refuses ends as it began, to the last byte.
  abbrev pub Whole : List (Turn Call) → State Texture → Type 0
  Whole ms s = bad_target s ≡ true → ((run machine ms s).colors ≡ s.colors) × ((run machine ms s).depths ≡ s.depths)

  -- WHAT ALWAYS HOLDS
  pub record Always (ms : List (Turn Call)) (s : State Texture) : Type 0 where
    -- sizes stay: width, height and the three lengths are the same at each call, and in the end
    pub sizes_during : (e : Moment (State Texture) Place Call) → During e ms s → SameSizes s e.before
    pub sizes_after : SameSizes s (run machine ms s)
    pub whole : Whole ms s

  -- ---- The premises, about the list ms from the start s

  -- No two windows share a pixel.
  abbrev pub Disjoint : State Texture → Type 0
  Disjoint s = (g h : Guest) → g ≢ h → (p : ℕ) → Window s.width s.height g p → Window s.width s.height h p → ⊥

  -- Every clear and draw that is not refused has a scissor box within its guest's window.
  abbrev pub Inside : List (Turn Call) → State Texture → Type 0
  Inside ms s = (e : Moment (State Texture) Place Call) → During e ms s → is_refused (answer machine e.turn.call e.before) ≡ false
      → (p : ℕ) → Box s.width s.height e.turn.call p → Window s.width s.height e.turn.who p

  -- No guest writes a texture that another reads or writes.
  abbrev pub TexturesApart : List (Turn Call) → State Texture → Type 0
  TexturesApart ms s = (e f : Moment (State Texture) Place Call) → During e ms s → During f ms s → e.turn.who ≢ f.turn.who
      → (n : ℕ) → WritesAt machine e (texture n) → ReadsAt machine f (texture n) ⊎ WritesAt machine f (texture n) → ⊥

  -- No guest reads a texel byte that another wrote last.
  abbrev pub BytesApart : List (Turn Call) → State Texture → Type 0
  BytesApart ms s = (e : Moment (State Texture) Place Call) → During e ms s
      → (b : ℕ) → ReadsAt machine e (byte b) → Own e.turn.who (e.last (byte b))

  -- THE PREMISES
  pub record Premises (ms : List (Turn Call)) (s : State Texture) : Type 0 where
    pub disjoint : Disjoint s
    pub inside : Inside ms s
    pub textures : TexturesApart ms s
    pub bytes : BytesApart ms s

  -- THE CLAIM, about the list ms from the start s
  pub record Claim (ms : List (Turn Call)) (s : State Texture) : Type 0 where
    -- each guest has the answers and the bill that it has alone
    pub answers : (g : Guest) → answers_of machine g ms s ≡ (alone machine g ms s).answers
    pub bills : (g : Guest) → bill_of machine g ms s ≡ (alone machine g ms s).bill
    -- and in the end the colours and depths of its window
    pub windows : (g : Guest) (p : ℕ) → Window s.width s.height g p
        → pixel_at (run machine ms s).colors (run machine ms s).depths p ≡ pixel_at (alone machine g ms s).left.colors (alone machine g ms s).left.depths p
    -- pixels in no window end as they began
    pub outside : (p : ℕ) → ((g : Guest) → Window s.width s.height g p → ⊥)
        → pixel_at (run machine ms s).colors (run machine ms s).depths p ≡ pixel_at s.colors s.depths p
    -- and so does a whole target that 1 refuses, to the last byte
    pub whole : Whole ms s
