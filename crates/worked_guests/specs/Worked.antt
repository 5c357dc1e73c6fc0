-- A worked list of calls by three guests that meets the premises, what the claim says of it, and lists that each break a premise. A
-- frame of 4 by 1 pixels, whose last is in no window, a store of two texels, textures with no level.
use Rattle.std.specs.Prelude.{◌≡◌, List, [], ◌∷◌, ℕ, zero, suc, pos, replicate, Float, Some, None}
use Rattle.std.specs.Float.Ieee as Ieee
use Rattle.std.specs.Float.{nan, binary32}
use Rattle.floats.specs.Num.{zero32, one32}
use Rattle.consts.specs.Codes.{GL_TEXTURE_MAG_FILTER, GL_NEAREST}
use Rattle.settings.specs.declared.ScissorBox.{ScissorBox}
use Rattle.levels.specs.Levels.{new_texture}
use Rattle.isolation.specs.Machine.{Guest, Turn, Machine, run, alone}
use Rattle.guests.specs.Calls.{Shared}
use Rattle.frames.specs.State.{Place, Pixel, pixel_at, Answer, done, refused}
use Rattle.frames.specs.Windows.{machine, Disjoint, Inside, TexturesApart, BytesApart}
use Rattle.guests.specs.Guests.{Call, clear_color, clear_depth, define_level, patch_level, set_parameter, new_record, meaning, InBox, InWindow, bad_target, GuestClaim, no_drawing, no_scissor}

abbrev pub start : Shared
start = record {
  width = 4;
  height = 1;
  colors = 0 ∷ 0 ∷ 0 ∷ 0 ∷ 0 ∷ 0 ∷ 0 ∷ 0 ∷ 0 ∷ 0 ∷ 0 ∷ 0 ∷ 11 ∷ 12 ∷ 13 ∷ 14 ∷ [];
  depths = zero32 ∷ zero32 ∷ zero32 ∷ one32 ∷ [];
  store = replicate 8 0;
  textures = λ n. new_texture;
}

-- one column, from the bottom up to n rows
abbrev pub column : ℕ → ℕ → ScissorBox
column x n = record { x = pos x; y = pos 0; width = pos 1; height = pos n }

-- guest 0 has the first column, guest 1 the second, guest 2 the third; their windows reach past the target. All others have an empty
-- window.
abbrev pub window : Guest → ScissorBox
window zero = column 0 9
window (suc zero) = column 1 9
window (suc (suc zero)) = column 2 9
window (suc (suc (suc g))) = column 0 0

abbrev pub turn : Guest → Call ⊥ → Turn (Call ⊥)
turn g c = record { who = g; call = c }

abbrev pub half : Float
half = Ieee.of_bits binary32 0x3f00_0000

-- Guest 0 uses texture 0, guest 1 textures 1 and 2; both read texture 3, which nobody writes. Texture 2 lies over bytes that guest 0
-- wrote, and guest 0 writes them again. Guest 1 makes texture 2's record new, and so cannot patch it. One call of each kind that can be
-- refused is.
abbrev pub calls : List (Turn (Call ⊥))
calls =
    turn 0 (define_level 0 0 1 1 0 (5 ∷ 6 ∷ 7 ∷ 8 ∷ []))
    ∷ turn 1 (define_level 1 0 1 1 4 (1 ∷ 2 ∷ 3 ∷ 4 ∷ []))
    ∷ turn 1 (define_level 2 0 1 1 0 (9 ∷ 9 ∷ 9 ∷ 9 ∷ []))
    ∷ turn 0 (clear_color (Some (column 0 1)) (10 ∷ 20 ∷ 30 ∷ 40 ∷ []))
    ∷ turn 0 (patch_level 0 0 0 0 1 1 (8 ∷ 7 ∷ 6 ∷ 5 ∷ []))
    ∷ turn 1 (clear_depth (Some (column 1 9)) half)
    ∷ turn 0 (set_parameter 0 GL_TEXTURE_MAG_FILTER GL_NEAREST)
    ∷ turn 1 (clear_color (Some (column 9000 1)) (1 ∷ 1 ∷ 1 ∷ 1 ∷ []))
    ∷ turn 0 (clear_depth None nan)
    ∷ turn 1 (define_level 0 0 1025 1 0 [])
    ∷ turn 0 (patch_level 3 1 0 0 0 0 [])
    ∷ turn 1 (patch_level 3 1 0 0 0 0 [])
    ∷ turn 1 (set_parameter 0 0xdead 0)
    ∷ turn 1 (new_record 2)
    ∷ turn 1 (patch_level 2 0 0 0 1 1 (1 ∷ 2 ∷ 3 ∷ 4 ∷ []))
    ∷ turn 2 (clear_color (Some (column 2 1)) (21 ∷ 22 ∷ 23 ∷ 24 ∷ []))
    ∷ []

abbrev pub M : Machine Shared Answer Place (Call ⊥)
M = machine (meaning no_drawing no_scissor) (InBox no_drawing no_scissor) (InWindow window) bad_target

-- A target with a colour byte too few, which 1 refuses, and clears on it. A refused clear may have a box past its guest's window.
abbrev pub torn : Shared
torn = record {
  width = 4;
  height = 1;
  colors = replicate 15 7;
  depths = zero32 ∷ zero32 ∷ zero32 ∷ one32 ∷ [];
  store = replicate 8 0;
  textures = λ n. new_texture;
}

abbrev pub on_torn : List (Turn (Call ⊥))
on_torn = turn 0 (clear_color (Some (column 0 1)) (10 ∷ 20 ∷ 30 ∷ 40 ∷ [])) ∷ turn 1 (clear_depth None half) ∷ []

abbrev pub pixel_of : Shared → ℕ → Pixel
pixel_of s p = pixel_at s.colors s.depths p

-- What the claim says of the worked list, part by part. Each follows from what is found among all (proofs/Worked.antt).
pub record Claimed : Type 0 where
  -- a guest alone is answered this, and billed nothing
  pub answers_0 : (alone M 0 calls start).answers ≡ done ∷ done ∷ done ∷ done ∷ refused 4 ∷ refused 12 ∷ []
  pub answers_1 : (alone M 1 calls start).answers ≡ done ∷ done ∷ done ∷ refused 2 ∷ refused 9 ∷ refused 12 ∷ refused 16 ∷ done ∷ refused 13 ∷ []
  pub answers_2 : (alone M 2 calls start).answers ≡ done ∷ []
  pub bill_1 : (alone M 1 calls start).bill ≡ 0
  -- and has this in its window
  pub window_0 : pixel_of (alone M 0 calls start).left 0 ≡ record { red = 10; green = 20; blue = 30; alpha = 40; depth = zero32 }
  pub window_1 : pixel_of (alone M 1 calls start).left 1 ≡ record { red = 0; green = 0; blue = 0; alpha = 0; depth = half }
  pub window_2 : pixel_of (alone M 2 calls start).left 2 ≡ record { red = 21; green = 22; blue = 23; alpha = 24; depth = zero32 }
  -- the pixel in no window
  pub outside_3 : pixel_of (run M calls start) 3 ≡ record { red = 11; green = 12; blue = 13; alpha = 14; depth = one32 }
  -- the refused target
  pub whole : ((run M on_torn torn).colors ≡ replicate 15 7)
      × ((run M on_torn torn).depths ≡ zero32 ∷ zero32 ∷ zero32 ∷ one32 ∷ [])

-- ---- One premise broken

-- no two windows share a pixel: here both guests have the left column
abbrev pub one_window : Guest → ScissorBox
one_window zero = column 0 1
one_window (suc zero) = column 0 1
one_window (suc (suc g)) = column 0 0

abbrev pub overdrawn : List (Turn (Call ⊥))
overdrawn = turn 0 (clear_color (Some (column 0 1)) (1 ∷ 1 ∷ 1 ∷ 1 ∷ [])) ∷ turn 1 (clear_color (Some (column 0 1)) (2 ∷ 2 ∷ 2 ∷ 2 ∷ [])) ∷ []

-- every clear has a box within its guest's window: here guest 1 clears the whole target
abbrev pub out_of_bounds : List (Turn (Call ⊥))
out_of_bounds = turn 0 (clear_color (Some (column 0 1)) (1 ∷ 1 ∷ 1 ∷ 1 ∷ [])) ∷ turn 1 (clear_color None (2 ∷ 2 ∷ 2 ∷ 2 ∷ [])) ∷ []

-- no guest writes a texture that another reads or writes: here guest 1 empties the level that guest 0 then patches
abbrev pub fought : List (Turn (Call ⊥))
fought = turn 0 (define_level 0 0 1 1 0 (5 ∷ 6 ∷ 7 ∷ 8 ∷ [])) ∷ turn 1 (define_level 0 0 0 0 0 []) ∷ turn 0 (patch_level 0 0 0 0 1 1 (8 ∷ 7 ∷ 6 ∷ 5 ∷ [])) ∷ []

-- ---- Each premise is needed

-- The premises on the windows w and the list ms, and that the claim is false of them.
module _ (w : Guest → ScissorBox) (ms : List (Turn (Call ⊥))) where
  abbrev pub WindowsApart : Type 0
  WindowsApart = Disjoint (meaning no_drawing no_scissor) (InBox no_drawing no_scissor) (InWindow w) bad_target start

  abbrev pub BoxesInside : Type 0
  BoxesInside = Inside (meaning no_drawing no_scissor) (InBox no_drawing no_scissor) (InWindow w) bad_target ms start

  abbrev pub Textures : Type 0
  Textures = TexturesApart (meaning no_drawing no_scissor) (InBox no_drawing no_scissor) (InWindow w) bad_target ms start

  abbrev pub Bytes : Type 0
  Bytes = BytesApart (meaning no_drawing no_scissor) (InBox no_drawing no_scissor) (InWindow w) bad_target ms start

  abbrev pub Refuted : Type 0
  Refuted = GuestClaim no_drawing no_scissor w ms start → ⊥

-- All premises but one hold, and the claim does not. The rule on bytes has no such list without a draw: only a draw reads bytes
-- (worked_draws).
abbrev pub WindowsNeeded : Type 0
WindowsNeeded = BoxesInside one_window overdrawn × Textures one_window overdrawn × Bytes one_window overdrawn × Refuted one_window overdrawn

abbrev pub BoxesNeeded : Type 0
BoxesNeeded = WindowsApart window out_of_bounds × Textures window out_of_bounds × Bytes window out_of_bounds × Refuted window out_of_bounds

abbrev pub TexturesNeeded : Type 0
TexturesNeeded = WindowsApart window fought × BoxesInside window fought × Bytes window fought × Refuted window fought
