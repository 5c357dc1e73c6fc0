-- The states that the calls of the worked list find and leave, and who wrote each place last. Assumes nothing.
use mathlib.Core.Path.{◌≡◌, refl}
use mathlib.Core.Bool.{cond}
use mathlib.Core.Option.{Option}
use mathlib.Core.List.{List, [], ◌∷◌}
use Prim.Native.Nat.{ℕ}
use lib.Dec.{eqb}
use lib.Ieee.{Float}
use Rattle.floats.specs.Num.{zero32, half32, one32}
use Rattle.levels.specs.declared.Texture.{Texture}
use Rattle.levels.specs.declared.Filter.TheVariants.{Nearest, Linear}
use Rattle.levels.specs.Levels.{new_texture}
use Rattle.isolation.specs.Machine.{Guest, next, nobody, mark}
use Rattle.frames.specs.State.{Place}
use Rattle.guests.specs.Calls.{Shared}
use Rattle.worked_draws.specs.Worked.{M, start, one_texel, defines0, defines1, clears0, clears1, draws0, defines2, hidden0, shares1, shares0, patches1, sets1, draws1, paints2, renews2, bad_color, bad_depth, bad_stage, bad_vertex, bad_define, bad_patch, bad_repatch}
use Rattle.worked_draws.proofs.Opened.{opened}

-- the records under their names
abbrev textures1 : ℕ → Texture
textures1 n = cond (eqb n 0) (one_texel 0 Linear) (start.textures n)

abbrev textures2 : ℕ → Texture
textures2 n = cond (eqb n 1) (one_texel 4 Linear) (textures1 n)

abbrev textures3 : ℕ → Texture
textures3 n = cond (eqb n 2) (one_texel 0 Linear) (textures2 n)

abbrev textures4 : ℕ → Texture
textures4 n = cond (eqb n 1) (one_texel 4 Linear) (textures3 n)

abbrev textures5 : ℕ → Texture
textures5 n = cond (eqb n 1) (one_texel 4 Nearest) (textures4 n)

abbrev textures6 : ℕ → Texture
textures6 n = cond (eqb n 2) new_texture (textures5 n)

abbrev pub state : List ℕ → List Float → List ℕ → (ℕ → Texture) → Shared
state cs ds st f = record { width = 4; height = 1; colors = cs; depths = ds; store = st; textures = f }

-- what stands after each call that changes something
abbrev pub s1 : Shared
s1 = state (0 ∷ 0 ∷ 0 ∷ 0 ∷ 0 ∷ 0 ∷ 0 ∷ 0 ∷ 0 ∷ 0 ∷ 0 ∷ 0 ∷ 11 ∷ 12 ∷ 13 ∷ 14 ∷ []) (zero32 ∷ zero32 ∷ zero32 ∷ one32 ∷ []) (5 ∷ 6 ∷ 7 ∷ 8 ∷ 0 ∷ 0 ∷ 0 ∷ 0 ∷ 50 ∷ 60 ∷ 70 ∷ 80 ∷ []) textures1

abbrev pub s2 : Shared
s2 = state (0 ∷ 0 ∷ 0 ∷ 0 ∷ 0 ∷ 0 ∷ 0 ∷ 0 ∷ 0 ∷ 0 ∷ 0 ∷ 0 ∷ 11 ∷ 12 ∷ 13 ∷ 14 ∷ []) (zero32 ∷ zero32 ∷ zero32 ∷ one32 ∷ []) (5 ∷ 6 ∷ 7 ∷ 8 ∷ 1 ∷ 2 ∷ 3 ∷ 4 ∷ 50 ∷ 60 ∷ 70 ∷ 80 ∷ []) textures2

abbrev pub s3 : Shared
s3 = state (0 ∷ 0 ∷ 0 ∷ 0 ∷ 0 ∷ 0 ∷ 0 ∷ 0 ∷ 0 ∷ 0 ∷ 0 ∷ 0 ∷ 11 ∷ 12 ∷ 13 ∷ 14 ∷ []) (one32 ∷ zero32 ∷ zero32 ∷ one32 ∷ []) (5 ∷ 6 ∷ 7 ∷ 8 ∷ 1 ∷ 2 ∷ 3 ∷ 4 ∷ 50 ∷ 60 ∷ 70 ∷ 80 ∷ []) textures2

abbrev pub s4 : Shared
s4 = state (0 ∷ 0 ∷ 0 ∷ 0 ∷ 0 ∷ 0 ∷ 0 ∷ 0 ∷ 0 ∷ 0 ∷ 0 ∷ 0 ∷ 11 ∷ 12 ∷ 13 ∷ 14 ∷ []) (one32 ∷ one32 ∷ zero32 ∷ one32 ∷ []) (5 ∷ 6 ∷ 7 ∷ 8 ∷ 1 ∷ 2 ∷ 3 ∷ 4 ∷ 50 ∷ 60 ∷ 70 ∷ 80 ∷ []) textures2

abbrev pub s5 : Shared
s5 = state (5 ∷ 6 ∷ 7 ∷ 8 ∷ 0 ∷ 0 ∷ 0 ∷ 0 ∷ 0 ∷ 0 ∷ 0 ∷ 0 ∷ 11 ∷ 12 ∷ 13 ∷ 14 ∷ []) (half32 ∷ one32 ∷ zero32 ∷ one32 ∷ []) (5 ∷ 6 ∷ 7 ∷ 8 ∷ 1 ∷ 2 ∷ 3 ∷ 4 ∷ 50 ∷ 60 ∷ 70 ∷ 80 ∷ []) textures2

abbrev pub s6 : Shared
s6 = state (5 ∷ 6 ∷ 7 ∷ 8 ∷ 0 ∷ 0 ∷ 0 ∷ 0 ∷ 0 ∷ 0 ∷ 0 ∷ 0 ∷ 11 ∷ 12 ∷ 13 ∷ 14 ∷ []) (half32 ∷ one32 ∷ zero32 ∷ one32 ∷ []) (9 ∷ 9 ∷ 9 ∷ 9 ∷ 1 ∷ 2 ∷ 3 ∷ 4 ∷ 50 ∷ 60 ∷ 70 ∷ 80 ∷ []) textures3

abbrev pub s8 : Shared
s8 = state (5 ∷ 6 ∷ 7 ∷ 8 ∷ 50 ∷ 60 ∷ 70 ∷ 80 ∷ 0 ∷ 0 ∷ 0 ∷ 0 ∷ 11 ∷ 12 ∷ 13 ∷ 14 ∷ []) (half32 ∷ half32 ∷ zero32 ∷ one32 ∷ []) (9 ∷ 9 ∷ 9 ∷ 9 ∷ 1 ∷ 2 ∷ 3 ∷ 4 ∷ 50 ∷ 60 ∷ 70 ∷ 80 ∷ []) textures3

abbrev pub s9 : Shared
s9 = state (50 ∷ 60 ∷ 70 ∷ 80 ∷ 50 ∷ 60 ∷ 70 ∷ 80 ∷ 0 ∷ 0 ∷ 0 ∷ 0 ∷ 11 ∷ 12 ∷ 13 ∷ 14 ∷ []) (zero32 ∷ half32 ∷ zero32 ∷ one32 ∷ []) (9 ∷ 9 ∷ 9 ∷ 9 ∷ 1 ∷ 2 ∷ 3 ∷ 4 ∷ 50 ∷ 60 ∷ 70 ∷ 80 ∷ []) textures3

abbrev pub s10 : Shared
s10 = state (50 ∷ 60 ∷ 70 ∷ 80 ∷ 50 ∷ 60 ∷ 70 ∷ 80 ∷ 0 ∷ 0 ∷ 0 ∷ 0 ∷ 11 ∷ 12 ∷ 13 ∷ 14 ∷ []) (zero32 ∷ half32 ∷ zero32 ∷ one32 ∷ []) (9 ∷ 9 ∷ 9 ∷ 9 ∷ 4 ∷ 3 ∷ 2 ∷ 1 ∷ 50 ∷ 60 ∷ 70 ∷ 80 ∷ []) textures4

abbrev pub s11 : Shared
s11 = state (50 ∷ 60 ∷ 70 ∷ 80 ∷ 50 ∷ 60 ∷ 70 ∷ 80 ∷ 0 ∷ 0 ∷ 0 ∷ 0 ∷ 11 ∷ 12 ∷ 13 ∷ 14 ∷ []) (zero32 ∷ half32 ∷ zero32 ∷ one32 ∷ []) (9 ∷ 9 ∷ 9 ∷ 9 ∷ 4 ∷ 3 ∷ 2 ∷ 1 ∷ 50 ∷ 60 ∷ 70 ∷ 80 ∷ []) textures5

abbrev pub s12 : Shared
s12 = state (50 ∷ 60 ∷ 70 ∷ 80 ∷ 4 ∷ 3 ∷ 2 ∷ 1 ∷ 0 ∷ 0 ∷ 0 ∷ 0 ∷ 11 ∷ 12 ∷ 13 ∷ 14 ∷ []) (zero32 ∷ zero32 ∷ zero32 ∷ one32 ∷ []) (9 ∷ 9 ∷ 9 ∷ 9 ∷ 4 ∷ 3 ∷ 2 ∷ 1 ∷ 50 ∷ 60 ∷ 70 ∷ 80 ∷ []) textures5

abbrev pub s13 : Shared
s13 = state (50 ∷ 60 ∷ 70 ∷ 80 ∷ 4 ∷ 3 ∷ 2 ∷ 1 ∷ 21 ∷ 22 ∷ 23 ∷ 24 ∷ 11 ∷ 12 ∷ 13 ∷ 14 ∷ []) (zero32 ∷ zero32 ∷ zero32 ∷ one32 ∷ []) (9 ∷ 9 ∷ 9 ∷ 9 ∷ 4 ∷ 3 ∷ 2 ∷ 1 ∷ 50 ∷ 60 ∷ 70 ∷ 80 ∷ []) textures5

abbrev pub s14 : Shared
s14 = state (50 ∷ 60 ∷ 70 ∷ 80 ∷ 4 ∷ 3 ∷ 2 ∷ 1 ∷ 21 ∷ 22 ∷ 23 ∷ 24 ∷ 11 ∷ 12 ∷ 13 ∷ 14 ∷ []) (zero32 ∷ zero32 ∷ zero32 ∷ one32 ∷ []) (9 ∷ 9 ∷ 9 ∷ 9 ∷ 4 ∷ 3 ∷ 2 ∷ 1 ∷ 50 ∷ 60 ∷ 70 ∷ 80 ∷ []) textures6

pub defines0_leaves : next M defines0.call start ≡ s1
unfolding opened
defines0_leaves = refl

pub defines1_leaves : next M defines1.call s1 ≡ s2
unfolding opened
defines1_leaves = refl

pub clears0_leaves : next M clears0.call s2 ≡ s3
unfolding opened
clears0_leaves = refl

pub clears1_leaves : next M clears1.call s3 ≡ s4
unfolding opened
clears1_leaves = refl

pub draws0_leaves : next M draws0.call s4 ≡ s5
unfolding opened
draws0_leaves = refl

pub defines2_leaves : next M defines2.call s5 ≡ s6
unfolding opened
defines2_leaves = refl

pub hidden0_leaves : next M hidden0.call s6 ≡ s6
unfolding opened
hidden0_leaves = refl

pub shares1_leaves : next M shares1.call s6 ≡ s8
unfolding opened
shares1_leaves = refl

pub shares0_leaves : next M shares0.call s8 ≡ s9
unfolding opened
shares0_leaves = refl

pub patches1_leaves : next M patches1.call s9 ≡ s10
unfolding opened
patches1_leaves = refl

pub sets1_leaves : next M sets1.call s10 ≡ s11
unfolding opened
sets1_leaves = refl

pub draws1_leaves : next M draws1.call s11 ≡ s12
unfolding opened
draws1_leaves = refl

pub paints2_leaves : next M paints2.call s12 ≡ s13
unfolding opened
paints2_leaves = refl

pub renews2_leaves : next M renews2.call s13 ≡ s14
unfolding opened
renews2_leaves = refl

pub bad_color_leaves : next M bad_color.call s14 ≡ s14
unfolding opened
bad_color_leaves = refl

pub bad_depth_leaves : next M bad_depth.call s14 ≡ s14
unfolding opened
bad_depth_leaves = refl

pub bad_stage_leaves : next M bad_stage.call s14 ≡ s14
unfolding opened
bad_stage_leaves = refl

pub bad_vertex_leaves : next M bad_vertex.call s14 ≡ s14
unfolding opened
bad_vertex_leaves = refl

-- calls that are refused once more
abbrev pub s15 : Shared
s15 = next M bad_define.call s14

abbrev pub s16 : Shared
s16 = next M bad_patch.call s15

abbrev pub s17 : Shared
s17 = next M bad_repatch.call s16

-- who wrote each place last before each call
abbrev pub w0 : Place → Option Guest
w0 = nobody M

abbrev pub w1 : Place → Option Guest
w1 = mark M defines0 start w0

abbrev pub w2 : Place → Option Guest
w2 = mark M defines1 s1 w1

abbrev pub w3 : Place → Option Guest
w3 = mark M clears0 s2 w2

abbrev pub w4 : Place → Option Guest
w4 = mark M clears1 s3 w3

abbrev pub w5 : Place → Option Guest
w5 = mark M draws0 s4 w4

abbrev pub w6 : Place → Option Guest
w6 = mark M defines2 s5 w5

abbrev pub w7 : Place → Option Guest
w7 = mark M hidden0 s6 w6

abbrev pub w8 : Place → Option Guest
w8 = mark M shares1 s6 w7

abbrev pub w9 : Place → Option Guest
w9 = mark M shares0 s8 w8

abbrev pub w10 : Place → Option Guest
w10 = mark M patches1 s9 w9

abbrev pub w11 : Place → Option Guest
w11 = mark M sets1 s10 w10

abbrev pub w12 : Place → Option Guest
w12 = mark M draws1 s11 w11

abbrev pub w13 : Place → Option Guest
w13 = mark M paints2 s12 w12

abbrev pub w14 : Place → Option Guest
w14 = mark M renews2 s13 w13

abbrev pub w15 : Place → Option Guest
w15 = mark M bad_color s14 w14

abbrev pub w16 : Place → Option Guest
w16 = mark M bad_depth s14 w15

abbrev pub w17 : Place → Option Guest
w17 = mark M bad_stage s14 w16

abbrev pub w18 : Place → Option Guest
w18 = mark M bad_vertex s14 w17

abbrev pub w19 : Place → Option Guest
w19 = mark M bad_define s14 w18

abbrev pub w20 : Place → Option Guest
w20 = mark M bad_patch s15 w19

abbrev pub w21 : Place → Option Guest
w21 = mark M bad_repatch s16 w20
