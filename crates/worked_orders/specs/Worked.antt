-- Three guests that pass the test, with textured draws and calls that are refused out of hand; and for each rule of the test two sets of
-- guests that differ in one value, one of which passes and one does not.
use Rattle.std.specs.Prelude.{◌≡◌, true, false, List, [], ◌∷◌, ℕ}
use Rattle.floats.specs.Num.{zero32, one32}
use Rattle.settings.specs.declared.ScissorBox.{ScissorBox}
use Rattle.levels.specs.declared.Filter.TheVariants.{Linear}
use Rattle.levels.specs.Levels.{new_texture}
use Rattle.guests.specs.Guests.{new_record}
use Rattle.isolation.specs.Machine.{Turn, run, answers_of, bill_of}
use Rattle.frames.specs.State.{done, drew, refused}
use Rattle.guest_draws.specs.EveryCall.{GuestCall}
use Rattle.orders.specs.Plans.{Plan, M, Order}
use Rattle.orders.specs.Tests.{Part, Entry, plan_of, calls_of, may_start}
use Rattle.worked_guests.specs.Worked.{column}
use Rattle.worked_draws.specs.Worked.{start, one_texel, defines0, defines1, clears0, clears1, draws0, hidden0, shares0, shares1, patches1, sets1, draws1, paints2, renews2, bad_color, bad_depth, bad_stage, bad_define, bad_repatch, bad_set}

abbrev pub entry : ScissorBox → List ℕ → List Part → List GuestCall → Entry
entry w names parts calls = record { window = w; names = names; parts = parts; calls = calls }

abbrev pub part : ℕ → ℕ → Part
part place size = record { place = place; size = size }

-- ---- three guests that may start

-- guest 0 has the first column, texture 0 and the first texel of the store; it draws with texture 3 too, which is nobody's
abbrev pub calls0 : List GuestCall
calls0 = new_record 0 ∷ defines0.call ∷ clears0.call ∷ draws0.call ∷ hidden0.call ∷ shares0.call ∷ bad_depth.call ∷ []

-- guest 1 has the second column, texture 1 and the second texel, and in the end its texture is new again; it names texture 0 once, in a
-- define that 9 refuses
abbrev pub calls1 : List GuestCall
calls1 = defines1.call ∷ clears1.call ∷ shares1.call ∷ patches1.call ∷ sets1.call ∷ draws1.call ∷ bad_color.call ∷ bad_define.call ∷ new_record 1 ∷ []

-- guest 2 has the third column and texture 2, and no byte of the store; two calls name texture 0 and are refused out of hand
abbrev pub calls2 : List GuestCall
calls2 = paints2.call ∷ renews2.call ∷ bad_repatch.call ∷ bad_stage.call ∷ bad_set.call ∷ []

abbrev pub guests : List Entry
guests = entry (column 0 9) (0 ∷ []) (part 0 4 ∷ []) calls0 ∷ entry (column 1 9) (1 ∷ []) (part 4 4 ∷ []) calls1 ∷ entry (column 2 9) (2 ∷ []) [] calls2 ∷ []

abbrev pub plan : Plan
plan = plan_of guests

-- What each guest is answered and billed, and the colours, the depths, the store and two records in the end
pub record Comes (ms : List (Turn GuestCall)) : Type 0 where
  pub answers_0 : answers_of (M plan) 0 ms start ≡ done ∷ done ∷ done ∷ drew 1 ∷ drew 0 ∷ drew 1 ∷ refused 4 ∷ []
  pub answers_1 : answers_of (M plan) 1 ms start ≡ done ∷ done ∷ drew 1 ∷ done ∷ done ∷ drew 1 ∷ refused 2 ∷ refused 9 ∷ done ∷ []
  pub answers_2 : answers_of (M plan) 2 ms start ≡ done ∷ done ∷ refused 13 ∷ refused 6 ∷ refused 16 ∷ []
  pub bill_0 : bill_of (M plan) 0 ms start ≡ 2
  pub bill_1 : bill_of (M plan) 1 ms start ≡ 2
  pub bill_2 : bill_of (M plan) 2 ms start ≡ 0
  pub colours : (run (M plan) ms start).colors ≡ 50 ∷ 60 ∷ 70 ∷ 80 ∷ 4 ∷ 3 ∷ 2 ∷ 1 ∷ 21 ∷ 22 ∷ 23 ∷ 24 ∷ 11 ∷ 12 ∷ 13 ∷ 14 ∷ []
  pub depths : (run (M plan) ms start).depths ≡ zero32 ∷ zero32 ∷ zero32 ∷ one32 ∷ []
  pub store : (run (M plan) ms start).store ≡ 5 ∷ 6 ∷ 7 ∷ 8 ∷ 4 ∷ 3 ∷ 2 ∷ 1 ∷ 50 ∷ 60 ∷ 70 ∷ 80 ∷ []
  pub record_0 : (run (M plan) ms start).textures 0 ≡ one_texel 0 Linear
  pub record_1 : (run (M plan) ms start).textures 1 ≡ new_texture

-- in whatever order their calls come
abbrev pub InEveryOrder : Type 0
InEveryOrder = (ms : List (Turn GuestCall)) → Order plan (calls_of guests) ms → Comes ms

-- ---- each rule of the test: two sets of guests that differ in one value

-- the first passes, the second does not
abbrev pub YesNo : List Entry → List Entry → Type 0
YesNo a b = (may_start a start ≡ true) × (may_start b start ≡ false)

-- a guest with one call
abbrev pub lone : ScissorBox → List ℕ → List Part → GuestCall → List Entry
lone w names parts c = entry w names parts (c ∷ []) ∷ []

-- guest 1's window, where guest 0 has the first column
abbrev pub windows : ScissorBox → List Entry
windows w = entry (column 0 9) (0 ∷ []) (part 0 4 ∷ []) calls0 ∷ entry w (1 ∷ []) [] [] ∷ []

-- where guest 1's part of the store begins, if guest 0 has the first four bytes
abbrev pub parts : ℕ → List Entry
parts place = entry (column 0 9) [] (part 0 4 ∷ []) [] ∷ entry (column 1 9) [] (part place 4 ∷ []) [] ∷ []

-- the names of guest 1, where guest 0 draws with texture 0
abbrev pub drawing_with : List ℕ → List Entry
drawing_with names = entry (column 0 9) [] [] (draws0.call ∷ []) ∷ entry (column 1 9) names [] [] ∷ []

-- where guest 1's part begins, if guest 0 draws with a texture that is nobody's and lies at bytes 8 to 11
abbrev pub sharing : ℕ → List Entry
sharing place = entry (column 0 9) [] [] (shares0.call ∷ []) ∷ entry (column 1 9) [] (part place 4 ∷ []) [] ∷ []

-- a call of guest 0 that names guest 1's texture 0
abbrev pub naming : GuestCall → List Entry
naming c = entry (column 0 9) [] [] (c ∷ []) ∷ entry (column 1 9) (0 ∷ []) [] [] ∷ []

pub record Rules : Type 0 where
  -- two windows share no pixel
  pub windows_apart : YesNo (windows (column 1 9)) (windows (column 0 9))
  -- two guests' parts share no byte
  pub parts_share_none : YesNo (parts 4) (parts 3)
  -- a box is within its guest's window: of a clear of colours, of depths, of a draw
  pub color_within : YesNo (lone (column 2 9) [] [] paints2.call) (lone (column 1 9) [] [] paints2.call)
  pub depth_within : YesNo (lone (column 1 9) [] [] clears1.call) (lone (column 0 9) [] [] clears1.call)
  pub draw_within : YesNo (lone (column 0 9) [] [] shares0.call) (lone (column 1 9) [] [] shares0.call)
  -- a texture that is read is the guest's or nobody's
  pub read_own : YesNo (drawing_with []) (drawing_with (0 ∷ []))
  -- one that is written is the guest's: by a define, a patch, a setting, a new record
  pub define_own : YesNo (lone (column 0 9) (0 ∷ []) (part 0 4 ∷ []) defines0.call) (lone (column 0 9) [] (part 0 4 ∷ []) defines0.call)
  pub patch_own : YesNo (lone (column 1 9) (1 ∷ []) [] patches1.call) (lone (column 1 9) [] [] patches1.call)
  pub set_own : YesNo (lone (column 1 9) (1 ∷ []) [] sets1.call) (lone (column 1 9) [] [] sets1.call)
  pub new_own : YesNo (lone (column 2 9) (2 ∷ []) [] renews2.call) (lone (column 2 9) [] [] renews2.call)
  -- a level is put into bytes of the guest's
  pub filled_own : YesNo (lone (column 0 9) (0 ∷ []) (part 0 4 ∷ []) defines0.call) (lone (column 0 9) (0 ∷ []) (part 0 3 ∷ []) defines0.call)
  -- a level that is there at the start lies in bytes of its texture's owner, and one of nobody's texture in nobody's
  pub held_own : YesNo (lone (column 0 9) (3 ∷ []) (part 8 4 ∷ []) shares0.call) (lone (column 0 9) (3 ∷ []) (part 8 3 ∷ []) shares0.call)
  pub shared_nobodys : YesNo (sharing 12) (sharing 11)
  -- a call that is refused out of hand may name what it likes: here one refused by 6
  pub refused_names : YesNo (naming bad_stage.call) (naming draws0.call)
