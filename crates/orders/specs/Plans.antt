-- Beyond document 01, "Demand 3 in full": a plan says whose each window, texture name and byte of the store is. A condition upon each call
-- by itself, its guest, its arguments, the sizes and the records at the start, with no order of calls in sight; and what it gives for
-- every order.
use Rattle.std.specs.Prelude.{◌≡◌, ◌≢◌, Bool, true, false, List, ℕ, eqb, length}
use Rattle.std.proofs.Math.Option.{Option, some}
use Rattle.settings.specs.declared.ScissorBox.{ScissorBox}
use Rattle.levels.specs.declared.MipLevel.{MipLevel}
use Rattle.levels.specs.declared.Texture.{Texture}
use Rattle.levels.specs.Levels.{level_of, size_of}
use Rattle.texture.specs.Define.{in_run}
use Rattle.texture.specs.Parameters.{set_check}
use Rattle.isolation.specs.Machine.{Guest, Machine, Turn, In, Own, run, answers_of, bill_of, play}
use Rattle.frames.specs.State.{SameSizes, Place, sizes, pixel_at, Answer, is_refused}
use Rattle.guests.specs.Calls.{Shared, clear_color_number, clear_depth_number, sides_check}
use Rattle.guests.specs.Guests.{clear_color, clear_depth, draw, define_level, patch_level, set_parameter, new_record, meaning, InBox, InWindow, GuestPremises}
use Rattle.guest_draws.specs.Draw.{names_of, early_number, drawing, scissor_of}
use Rattle.guest_draws.specs.EveryCall.{GuestCall}
use Rattle.orders.specs.Orders.{Interleaves, guest_machine}

-- Each guest's window, and whose each texture name and each byte of the store is: one guest's or nobody's. What is nobody's is there to
-- be read by all and changed by none.
pub record Plan : Type 0 where
  pub window : Guest → ScissorBox
  pub name : ℕ → Option Guest
  pub byte : ℕ → Option Guest

-- ---- what a call may touch, by its arguments alone

-- It passes those of its checks that look at its arguments and the sizes alone and come before it looks at anything else: all of a
-- clear's, a draw's before 8, a define's 9, a setting's 16; a patch has none, and a new record no check at all. Else it is refused on
-- every state that has these sizes, has touched nothing there (OutOfHand), and may name what it likes.
abbrev pub admitted : Shared → GuestCall → Bool
admitted s (clear_color b rgba) = eqb (clear_color_number b s) 0
admitted s (clear_depth b v) = eqb (clear_depth_number b v s) 0
admitted s (draw x) = eqb (early_number x s) 0
admitted s (define_level n k w h place rgba) = eqb (sides_check k w h) 0
admitted s (patch_level n k x y w h rgba) = true
admitted s (set_parameter n code value) = eqb (set_check code value) 0
admitted s (new_record n) = true

-- Such a call on the state s: it is refused there, writes nothing, and has read nothing but the sizes.
pub record Untouching (s : Shared) (c : GuestCall) : Type 0 where
  pub answers : is_refused ((meaning drawing scissor_of c).does s).0 ≡ true
  pub writes : (l : Place) → (meaning drawing scissor_of c).writes s l ≡ false
  pub reads : (l : Place) → (meaning drawing scissor_of c).Reads s l → l ≡ sizes

abbrev pub OutOfHand : Type 0
OutOfHand = (c : GuestCall) (s t : Shared) → SameSizes s t → admitted s c ≡ false → Untouching t c

-- 01: the textures whose records it may read: a define's, patch's or setting's own, and those of the units that a draw's stages name. A new
-- record looks at none.
abbrev pub Names : GuestCall → ℕ → Type 0
Names (clear_color b rgba) m = ⊥
Names (clear_depth b v) m = ⊥
Names (draw x) m = In m (names_of x)
Names (define_level n k w h place rgba) m = m ≡ n
Names (patch_level n k x y w h rgba) m = m ≡ n
Names (set_parameter n code value) m = m ≡ n
Names (new_record n) m = ⊥

-- 01: those that it may write: "a define, patch or setting that isn't refused writes its texture"; so does a new record
abbrev pub Changes : GuestCall → ℕ → Type 0
Changes (clear_color b rgba) m = ⊥
Changes (clear_depth b v) m = ⊥
Changes (draw x) m = ⊥
Changes (define_level n k w h place rgba) m = m ≡ n
Changes (patch_level n k x y w h rgba) m = m ≡ n
Changes (set_parameter n code value) m = m ≡ n
Changes (new_record n) m = m ≡ n

-- 01: the bytes of the store where it puts a level, "a define writes its level's bytes". A patch writes bytes of a level that its texture
-- has by then: see Tidy.
abbrev pub Fills : GuestCall → ℕ → Type 0
Fills (clear_color b rgba) a = ⊥
Fills (clear_depth b v) a = ⊥
Fills (draw x) a = ⊥
Fills (define_level n k w h place rgba) a = in_run place (length rgba) a ≡ true
Fills (patch_level n k x y w h rgba) a = ⊥
Fills (set_parameter n code value) a = ⊥
Fills (new_record n) a = ⊥

-- ---- the condition

-- byte b is one of a level's
abbrev pub InLevel : MipLevel → ℕ → Type 0
InLevel m b = (m.present ≡ true) × (in_run m.place (size_of m) b ≡ true)

module _ (plan : Plan) where
  -- Every byte of every level of the record is his whose the texture name n is, or nobody's if that is nobody's. A draw reads and a patch
  -- writes bytes of levels; a define puts its level where Fills says and a new record has no level with a byte, so a record that is tidy at
  -- the start stays tidy.
  abbrev pub Tidy : ℕ → Texture → Type 0
  Tidy n t = (k b : ℕ) → InLevel (level_of t k) b → plan.byte b ≡ plan.name n

  -- THE CONDITION UPON ONE CALL, c by guest g, where the start is s. No other call and no order is in sight.
  pub record Fair (s : Shared) (g : Guest) (c : GuestCall) : Type 0 where
    -- 01: its scissor box is within its guest's window, all the box's pixels on the target are the window's
    pub boxed : (p : ℕ) → InBox drawing scissor_of s.width s.height c p → InWindow plan.window s.width s.height g p
    -- the textures that it may read are its guest's or nobody's, and their levels at the start lie in bytes of the same owner
    pub named : (n : ℕ) → Names c n → Own g (plan.name n)
    pub tidy : (n : ℕ) → Names c n → Tidy n (s.textures n)
    -- those that it may write are its guest's
    pub changed : (n : ℕ) → Changes c n → plan.name n ≡ some g
    -- and so are the bytes where it puts a level
    pub filled : (b : ℕ) → Fills c b → plan.byte b ≡ some g

  -- THE CONDITION UPON THE GUESTS' LISTS: windows share no pixel, and each call of each list is fair or refused out of hand.
  pub record Ready (lists : Guest → List GuestCall) (s : Shared) : Type 0 where
    pub disjoint : (g h : Guest) → g ≢ h → (p : ℕ) → InWindow plan.window s.width s.height g p → InWindow plan.window s.width s.height h p → ⊥
    pub fair : (g : Guest) (c : GuestCall) → In c (lists g) → admitted s c ≡ true → Fair s g c

  abbrev pub M : Machine Shared Answer Place GuestCall
  M = guest_machine plan.window

  -- one of the orders in which the guests' lists can come together
  abbrev pub Order : (Guest → List GuestCall) → List (Turn GuestCall) → Type 0
  Order lists ms = Interleaves M lists ms

  -- WHAT IT GIVES, whatever the order in which the guests' calls come. `play M (lists g) s` is guest g alone: a plain machine that is fed
  -- its list from the same start.
  pub record EveryOrder (lists : Guest → List GuestCall) (s : Shared) : Type 0 where
    -- the premises of demand 3 hold
    pub premises : (ms : List (Turn GuestCall)) → Order lists ms → GuestPremises drawing scissor_of plan.window ms s
    -- each guest has the answers and the bill that it has alone
    pub answers : (ms : List (Turn GuestCall)) → Order lists ms → (g : Guest) → answers_of M g ms s ≡ (play M (lists g) s).answers
    pub bills : (ms : List (Turn GuestCall)) → Order lists ms → (g : Guest) → bill_of M g ms s ≡ (play M (lists g) s).bill
    -- and in the end the colours and depths of its window
    pub windows : (ms : List (Turn GuestCall)) → Order lists ms → (g : Guest) (p : ℕ) → InWindow plan.window s.width s.height g p
        → pixel_at (run M ms s).colors (run M ms s).depths p ≡ pixel_at (play M (lists g) s).left.colors (play M (lists g) s).left.depths p
    -- pixels in no window end as they began
    pub outside : (ms : List (Turn GuestCall)) → Order lists ms → (p : ℕ) → ((g : Guest) → InWindow plan.window s.width s.height g p → ⊥)
        → pixel_at (run M ms s).colors (run M ms s).depths p ≡ pixel_at s.colors s.depths p
    -- and every order leaves one and the same state, to the last byte: colours, depths, store and records
    pub left : (ms ns : List (Turn GuestCall)) → Order lists ms → Order lists ns → run M ms s ≡ run M ns s

-- ONE RUN FOR ALL: lists that keep to a plan may come in any order
abbrev pub OneForAll : Type 0
OneForAll = (plan : Plan) (lists : Guest → List GuestCall) (s : Shared) → Ready plan lists s → EveryOrder plan lists s
