-- Triangles whose draw is computed from its definition: the worked run of document 01, a fan with a corner that cannot be divided, and a
-- stored depth below 0.
use Rattle.std.specs.Prelude.{◌≡◌, Bool, true, false, List, [], ◌∷◌, ℕ, ◌*◌, replicate, get_or, Float, None}
use Rattle.std.specs.Float.Ieee as Ieee
use Rattle.std.specs.Float.{nan, binary32}
use Rattle.floats.specs.Num.{zero32, half32, one32}
use Rattle.vertices.specs.declared.Vertex.{Vertex}
use Rattle.frames.specs.State.{drew}
use Rattle.draw.specs.Draw.{Outcome, draw_args, draw_of}
use Rattle.worked_draws.specs.Worked.{minus_one, corner_at, settings_of}

-- a target of so many pixels on which the depths were cleared to 1
abbrev pub cleared_to1 : ℕ → List Float
cleared_to1 n = replicate n one32

abbrev pub draw_on : ℕ → ℕ → Bool → Vertex → Vertex → Vertex → List Float → Outcome
draw_on width height tested a b c ds = draw_of [] width height (draw_args (settings_of width height None tested) [] 0 a b c) [] (replicate (4 * (width * height)) 0) ds

-- 01's two triangles on 2 by 2 pixels, which share an edge
abbrev pub first_half : Bool → List Float → Outcome
first_half tested ds = draw_on 2 2 tested (corner_at minus_one minus_one zero32 one32) (corner_at one32 minus_one zero32 one32) (corner_at minus_one one32 zero32 one32) ds

abbrev pub second_half : Bool → List Float → Outcome
second_half tested ds = draw_on 2 2 tested (corner_at one32 minus_one zero32 one32) (corner_at one32 one32 zero32 one32) (corner_at minus_one one32 zero32 one32) ds

-- clipping leaves a fan of it, and its corner with a w of 0 is gone
abbrev pub corner_at_infinity : Outcome
corner_at_infinity = draw_on 8 8 false (corner_at minus_one minus_one zero32 one32) (corner_at one32 minus_one zero32 one32) (corner_at zero32 one32 zero32 zero32) (cleared_to1 64)

-- (0.375, -0.8125, -1, 1), (-0.25, -0.5, -1, 1), (-0.3125, 0.5, 1, 1) on 4 by 4 pixels
abbrev pub weight_below0 : Outcome
weight_below0 = draw_on 4 4 false
    (corner_at (Ieee.of_bits binary32 0x3ec0_0000) (Ieee.of_bits binary32 0xbf50_0000) minus_one one32)
    (corner_at (Ieee.of_bits binary32 0xbe80_0000) (Ieee.of_bits binary32 0xbf00_0000) minus_one one32)
    (corner_at (Ieee.of_bits binary32 0xbea0_0000) half32 one32 one32)
    (cleared_to1 16)

pub record Runs : Type 0 where
  -- 01: 3 writes, depth 0.5; then 3 more without depth test
  pub first_writes : (first_half false (cleared_to1 4)).answer ≡ drew 3
  pub first_depths : (first_half false (cleared_to1 4)).depths ≡ half32 ∷ one32 ∷ half32 ∷ half32 ∷ []
  pub second_writes : (second_half false (first_half false (cleared_to1 4)).depths).answer ≡ drew 3
  -- 01: both in turn under Less, after a depth clear to 1: 3, then 1
  pub less_first : (first_half true (cleared_to1 4)).answer ≡ drew 3
  pub less_second : (second_half true (first_half true (cleared_to1 4)).depths).answer ≡ drew 1
  -- the corner of the triangle handed in cannot be divided; what clipping leaves of it is drawn
  pub infinity_writes : corner_at_infinity.answer ≡ drew 72
  -- 01, Corners: a stored depth can lie slightly outside 0 to 1, here at column 2 and row 3
  pub depth_below_0 : Ieee.lt (get_or weight_below0.depths 14 nan) zero32 ≡ true
