-- A worked list of calls by three guests that meets the premises, with textured draws under a depth test and a refused call of each
-- kind that can be refused, and what the claim says of it. A frame of 4 by 1 pixels, whose last is in no window, and a store of three
-- texels.
use Rattle.std.specs.Prelude.{◌≡◌, Bool, true, false, cond, List, [], ◌∷◌, ℕ, eqb, pos, replicate, Float, Option, Some, None}
use Rattle.std.specs.Float.Ieee as Ieee
use Rattle.std.specs.Float.{nan, binary32}
use Rattle.consts.specs.Codes.{GL_TEXTURE_MAG_FILTER, GL_NEAREST}
use Rattle.floats.specs.Num.{zero32, one32}
use Rattle.settings.specs.declared.ScissorBox.{ScissorBox}
use Rattle.settings.specs.declared.CompareFunc.TheVariants as C
use Rattle.settings.specs.declared.BlendFactor.TheVariants as B
use Rattle.settings.specs.declared.FrontFace.TheVariants.{Ccw}
use Rattle.settings.specs.declared.FogMode.TheVariants.{Exp}
use Rattle.settings.specs.declared.TexEnvMode.TheVariants.{Replace}
use Rattle.settings.specs.declared.PipelineState.{PipelineState}
use Rattle.settings.specs.declared.TextureStage.{TextureStage}
use Rattle.settings.specs.Settings.{black}
use Rattle.levels.specs.declared.Texture.{Texture}
use Rattle.levels.specs.declared.MinFilter.TheVariants.{NearestMipmapLinear}
use Rattle.levels.specs.declared.Filter.{Filter}
use Rattle.levels.specs.declared.Filter.TheVariants.{Nearest}
use Rattle.levels.specs.declared.Wrap.TheVariants.{Repeat}
use Rattle.levels.specs.Levels.{new_texture, level_at, absent}
use Rattle.vertices.specs.declared.Vertex.{Vertex}
use Rattle.isolation.specs.Machine.{Guest, Turn, Machine, answers_of, bill_of, run, alone}
use Rattle.frames.specs.State.{Place, Answer, done, drew, refused}
use Rattle.guests.specs.Calls.{Shared}
use Rattle.frames.specs.Windows.{machine}
use Rattle.guests.specs.Guests.{clear_color, clear_depth, draw, define_level, patch_level, set_parameter, new_record, meaning, InBox, InWindow, bad_target}
use Rattle.guest_draws.specs.Draw.{DrawCall, drawing, scissor_of}
use Rattle.guest_draws.specs.EveryCall.{GuestCall}
use Rattle.worked_guests.specs.Worked.{window, column, pixel_of}

abbrev pub minus_one : Float
minus_one = Ieee.of_bits binary32 0xbf80_0000

abbrev pub three : Float
three = Ieee.of_bits binary32 0x4040_0000

-- a texture of one texel, by its place and its magnifying filter
abbrev pub one_texel : ℕ → Filter → Texture
one_texel place f = record {
  levels = level_at place 1 1 ∷ replicate 10 absent;
  max_mipmap_level = 0;
  min_filter = NearestMipmapLinear;
  mag_filter = f;
  wrap_s = Repeat;
  wrap_t = Repeat;
}

-- texture 3 is there from the start, at byte 8; all others have no level
abbrev pub start : Shared
start = record {
  width = 4;
  height = 1;
  colors = 0 ∷ 0 ∷ 0 ∷ 0 ∷ 0 ∷ 0 ∷ 0 ∷ 0 ∷ 0 ∷ 0 ∷ 0 ∷ 0 ∷ 11 ∷ 12 ∷ 13 ∷ 14 ∷ [];
  depths = zero32 ∷ zero32 ∷ zero32 ∷ one32 ∷ [];
  store = 0 ∷ 0 ∷ 0 ∷ 0 ∷ 0 ∷ 0 ∷ 0 ∷ 0 ∷ 50 ∷ 60 ∷ 70 ∷ 80 ∷ [];
  textures = λ n. cond (eqb n 3) (one_texel 8 Nearest) new_texture;
}

-- ---- draws

abbrev pub corner_at : Float → Float → Float → Float → Vertex
corner_at x y z w = record {
  pos = x ∷ y ∷ z ∷ w ∷ [];
  color = one32 ∷ one32 ∷ one32 ∷ one32 ∷ [];
  texcoord = zero32 ∷ zero32 ∷ zero32 ∷ zero32 ∷ zero32 ∷ zero32 ∷ zero32 ∷ zero32 ∷ [];
  fog_depth = zero32;
}

abbrev pub corner : Float → Float → Float → Vertex
corner x y z = corner_at x y z one32

-- the default settings, whose comparison is Less, with a viewport from (0, 0), a scissor and the depth test
abbrev pub settings_of : ℕ → ℕ → Option ScissorBox → Bool → PipelineState
settings_of width height scissor tested = record {
  viewport = record { x = pos 0; y = pos 0; width = pos width; height = pos height };
  depth_range = record { near = zero32; far = one32 };
  scissor = scissor;
  depth_test = tested;
  depth_func = C.Less;
  depth_write = true;
  alpha_test = false;
  alpha_func = C.Always;
  alpha_ref = zero32;
  blend = false;
  blend_src = B.One;
  blend_dst = B.Zero;
  cull = None;
  front_face = Ccw;
  color_mask = record { r = true; g = true; b = true; a = true };
  fog = false;
  fog_mode = Exp;
  fog_color = black;
  fog_start = zero32;
  fog_end = one32;
  fog_density = one32;
  smooth_shading = true;
}

-- a depth test, Less; the viewport is the first two columns
abbrev pub settings : ScissorBox → PipelineState
settings b = settings_of 2 1 (Some b) true

-- one stage, of unit u; each pixel takes its texel's colour
abbrev pub stage : ℕ → TextureStage
stage u = record { unit = u; env = Replace; env_color = black }

-- with texture n under each unit
abbrev pub textured : ℕ → ℕ → ScissorBox → Vertex → Vertex → Vertex → DrawCall
textured u n box a b c = record { args = record { state = settings box; stages = stage u ∷ []; count = 1; a = a; b = b; c = c }; units = n ∷ n ∷ n ∷ n ∷ [] }

-- the lower left half of the viewport, which holds pixel 0, and the lower right half, which holds pixel 1
abbrev pub left_half : ℕ → Float → DrawCall
left_half n z = textured 0 n (column 0 9) (corner minus_one minus_one z) (corner one32 minus_one z) (corner minus_one one32 z)

abbrev pub right_half : ℕ → Float → DrawCall
right_half n z = textured 0 n (column 1 1) (corner minus_one minus_one z) (corner one32 minus_one z) (corner one32 one32 z)

-- the whole viewport, from corners past it, so it is clipped; the scissor is the left column
abbrev pub clipped_whole : ℕ → Float → DrawCall
clipped_whole n z = textured 0 n (column 0 9) (corner minus_one minus_one z) (corner three minus_one z) (corner minus_one three z)

abbrev pub turn : Guest → GuestCall → Turn GuestCall
turn g c = record { who = g; call = c }

-- ---- the worked list

-- Guests 0, 1 and 2 have the first three columns. Guest n writes texture n; texture 3 is read by all three and
-- written by nobody. A call of each kind that can be refused is.
abbrev pub defines0 : Turn GuestCall
defines0 = turn 0 (define_level 0 0 1 1 0 (5 ∷ 6 ∷ 7 ∷ 8 ∷ []))

abbrev pub defines1 : Turn GuestCall
defines1 = turn 1 (define_level 1 0 1 1 4 (1 ∷ 2 ∷ 3 ∷ 4 ∷ []))

abbrev pub clears0 : Turn GuestCall
clears0 = turn 0 (clear_depth (Some (column 0 9)) one32)

abbrev pub clears1 : Turn GuestCall
clears1 = turn 1 (clear_depth (Some (column 1 1)) one32)

abbrev pub draws0 : Turn GuestCall
draws0 = turn 0 (draw (left_half 0 zero32))

-- over the bytes that guest 0 wrote and drew with
abbrev pub defines2 : Turn GuestCall
defines2 = turn 2 (define_level 2 0 1 1 0 (9 ∷ 9 ∷ 9 ∷ 9 ∷ []))

-- it fails the depth test, so it takes none of those bytes
abbrev pub hidden0 : Turn GuestCall
hidden0 = turn 0 (draw (left_half 0 zero32))

abbrev pub shares1 : Turn GuestCall
shares1 = turn 1 (draw (right_half 3 zero32))

-- clipped, and with the texture that guest 1 drew with
abbrev pub shares0 : Turn GuestCall
shares0 = turn 0 (draw (clipped_whole 3 minus_one))

abbrev pub patches1 : Turn GuestCall
patches1 = turn 1 (patch_level 1 0 0 0 1 1 (4 ∷ 3 ∷ 2 ∷ 1 ∷ []))

abbrev pub sets1 : Turn GuestCall
sets1 = turn 1 (set_parameter 1 GL_TEXTURE_MAG_FILTER GL_NEAREST)

abbrev pub draws1 : Turn GuestCall
draws1 = turn 1 (draw (right_half 1 minus_one))

-- clears the colours of its column; the depth stays
abbrev pub paints2 : Turn GuestCall
paints2 = turn 2 (clear_color (Some (column 2 1)) (21 ∷ 22 ∷ 23 ∷ 24 ∷ []))

abbrev pub renews2 : Turn GuestCall
renews2 = turn 2 (new_record 2)

-- refused by 2
abbrev pub bad_color : Turn GuestCall
bad_color = turn 1 (clear_color (Some (column 9000 1)) (1 ∷ 1 ∷ 1 ∷ 1 ∷ []))

-- refused by 4
abbrev pub bad_depth : Turn GuestCall
bad_depth = turn 0 (clear_depth None nan)

-- refused by 6, so it may name a texture of guest 0
abbrev pub bad_stage : Turn GuestCall
bad_stage = turn 2 (draw (textured 4 0 (column 0 9) (corner minus_one minus_one zero32) (corner one32 minus_one zero32) (corner minus_one one32 zero32)))

-- refused by 5, so it has read texture 3
abbrev pub bad_vertex : Turn GuestCall
bad_vertex = turn 2 (draw (left_half 3 nan))

-- refused by 9, 12 and 16
abbrev pub bad_define : Turn GuestCall
bad_define = turn 1 (define_level 0 0 1025 1 0 [])

abbrev pub bad_patch : Turn GuestCall
bad_patch = turn 0 (patch_level 3 1 0 0 0 0 [])

-- refused by 13: the new record has no texel
abbrev pub bad_repatch : Turn GuestCall
bad_repatch = turn 2 (patch_level 2 0 0 0 1 1 (4 ∷ 3 ∷ 2 ∷ 1 ∷ []))

abbrev pub bad_set : Turn GuestCall
bad_set = turn 2 (set_parameter 0 0xdead 0)

abbrev pub calls : List (Turn GuestCall)
calls =
    defines0 ∷ defines1 ∷ clears0 ∷ clears1 ∷ draws0 ∷ defines2
    ∷ hidden0 ∷ shares1 ∷ shares0 ∷ patches1 ∷ sets1 ∷ draws1
    ∷ paints2 ∷ renews2
    ∷ bad_color ∷ bad_depth ∷ bad_stage ∷ bad_vertex ∷ bad_define ∷ bad_patch
    ∷ bad_repatch ∷ bad_set ∷ []

abbrev pub M : Machine Shared Answer Place GuestCall
M = machine (meaning drawing scissor_of) (InBox drawing scissor_of) (InWindow window) bad_target

-- What each guest is answered among all, its bill, and the frame in the end: pixel 0 has the texel of texture 3, pixel 1 the patched texel
-- of texture 1, pixel 2 the colour that it was cleared to.
pub record Comes : Type 0 where
  pub answers_0 : answers_of M 0 calls start ≡ done ∷ done ∷ drew 1 ∷ drew 0 ∷ drew 1 ∷ refused 4 ∷ refused 12 ∷ []
  pub answers_1 : answers_of M 1 calls start ≡ done ∷ done ∷ drew 1 ∷ done ∷ done ∷ drew 1 ∷ refused 2 ∷ refused 9 ∷ []
  pub answers_2 : answers_of M 2 calls start ≡ done ∷ done ∷ done ∷ refused 6 ∷ refused 5 ∷ refused 13 ∷ refused 16 ∷ []
  pub bill_0 : bill_of M 0 calls start ≡ 2
  pub bill_1 : bill_of M 1 calls start ≡ 2
  pub bill_2 : bill_of M 2 calls start ≡ 0
  pub colours : (run M calls start).colors ≡ 50 ∷ 60 ∷ 70 ∷ 80 ∷ 4 ∷ 3 ∷ 2 ∷ 1 ∷ 21 ∷ 22 ∷ 23 ∷ 24 ∷ 11 ∷ 12 ∷ 13 ∷ 14 ∷ []
  pub depths : (run M calls start).depths ≡ zero32 ∷ zero32 ∷ zero32 ∷ one32 ∷ []

-- A target with a colour byte too few, which 1 refuses, and calls on it. Refused by 1, a draw may have a box past its guest's window and
-- name another's texture.
abbrev pub torn : Shared
torn = record {
  width = 4;
  height = 1;
  colors = replicate 15 7;
  depths = zero32 ∷ zero32 ∷ zero32 ∷ one32 ∷ [];
  store = start.store;
  textures = start.textures;
}

-- in guest 0's window, with guest 0's texture
abbrev pub spills1 : Turn GuestCall
spills1 = turn 1 (draw (left_half 0 minus_one))

abbrev pub on_torn : List (Turn GuestCall)
on_torn = clears0 ∷ paints2 ∷ spills1 ∷ []

-- What the claim says, part by part. Each follows from what is found among all (proofs/Worked.antt).
pub record Claimed : Type 0 where
  -- a guest alone is answered and billed this
  pub answers_0 : (alone M 0 calls start).answers ≡ done ∷ done ∷ drew 1 ∷ drew 0 ∷ drew 1 ∷ refused 4 ∷ refused 12 ∷ []
  pub answers_1 : (alone M 1 calls start).answers ≡ done ∷ done ∷ drew 1 ∷ done ∷ done ∷ drew 1 ∷ refused 2 ∷ refused 9 ∷ []
  pub answers_2 : (alone M 2 calls start).answers ≡ done ∷ done ∷ done ∷ refused 6 ∷ refused 5 ∷ refused 13 ∷ refused 16 ∷ []
  pub bill_0 : (alone M 0 calls start).bill ≡ 2
  pub bill_1 : (alone M 1 calls start).bill ≡ 2
  pub bill_2 : (alone M 2 calls start).bill ≡ 0
  -- and has this in its window
  pub window_0 : pixel_of (alone M 0 calls start).left 0 ≡ record { red = 50; green = 60; blue = 70; alpha = 80; depth = zero32 }
  pub window_1 : pixel_of (alone M 1 calls start).left 1 ≡ record { red = 4; green = 3; blue = 2; alpha = 1; depth = zero32 }
  pub window_2 : pixel_of (alone M 2 calls start).left 2 ≡ record { red = 21; green = 22; blue = 23; alpha = 24; depth = zero32 }
  -- the pixel in no window
  pub outside_3 : pixel_of (run M calls start) 3 ≡ record { red = 11; green = 12; blue = 13; alpha = 14; depth = one32 }
  -- the target that 1 refuses
  pub whole : ((run M on_torn torn).colors ≡ replicate 15 7)
      × ((run M on_torn torn).depths ≡ zero32 ∷ zero32 ∷ zero32 ∷ one32 ∷ [])
