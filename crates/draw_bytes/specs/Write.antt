-- The layouts of a draw (docs/INTERFACE.md, Draw), written: the words of the settings, of a stage and of a vertex, and their bytes.
use Rattle.std.specs.Prelude.{ℕ, ◌-◌, ◌/◌, ◌%◌, Bool, cond, List, [], ◌∷◌, length, get_or, ℤ, pos, negsuc, Float, Option, Some, None, is_some}
use Rattle.std.specs.Float.Ieee as Ieee
use Rattle.std.specs.Float.{binary32, nan}
use Rattle.lists.specs.Lists.{flat}
use Rattle.settings.specs.Codes.{compare_code, factor_code, mode_code, face_code, fog_code, env_code}
use Rattle.settings.specs.declared.CullMode.{CullMode}
use Rattle.settings.specs.declared.Viewport.{Viewport}
use Rattle.settings.specs.declared.PipelineState.{PipelineState}
use Rattle.settings.specs.declared.TextureStage.{TextureStage}
use Rattle.vertices.specs.declared.Vertex.{Vertex}
use Rattle.settings.specs.declared.ScissorBox.{ScissorBox}

-- the bytes of words, the low byte of each first
unfoldable pub word_bytes : ℕ → List ℕ
word_bytes n = n % 256 ∷ n / 256 % 256 ∷ n / 65536 % 256 ∷ n / 16777216 % 256 ∷ []

unfoldable pub word_bytes_at : List ℕ → ℕ → List ℕ
word_bytes_at ws i = word_bytes (get_or ws i 0)

unfoldable pub bytes_of : List ℕ → List ℕ
bytes_of ws = flat (length ws) (word_bytes_at ws)

-- a number's two's complement, a float's bits, a switch
abbrev pub bits_of : ℤ → ℕ
bits_of (pos n) = n
bits_of (negsuc n) = 4294967295 - n

unfoldable pub float_bits : Float → ℕ
float_bits x = Ieee.to_bits binary32 x

abbrev pub switch_word : Bool → ℕ
switch_word p = cond p 1 0

-- 0 is off
abbrev pub cull_code : Option CullMode → ℕ
cull_code None = 0
cull_code (Some m) = mode_code m

unfoldable pub number_words : ℤ → ℤ → ℤ → ℤ → List ℕ
number_words x y w h = bits_of x ∷ bits_of y ∷ bits_of w ∷ bits_of h ∷ []

unfoldable pub viewport_words : Viewport → List ℕ
viewport_words v = number_words v.x v.y v.width v.height

-- the box's numbers; the whole target has four zeros
unfoldable pub box_words : Option ScissorBox → List ℕ
box_words None = 0 ∷ 0 ∷ 0 ∷ 0 ∷ []
box_words (Some b) = number_words b.x b.y b.width b.height

-- in the order of the layout
unfoldable pub settings_words : PipelineState → List ℕ
settings_words s =
    get_or (viewport_words s.viewport) 0 0 ∷ get_or (viewport_words s.viewport) 1 0 ∷ get_or (viewport_words s.viewport) 2 0 ∷ get_or (viewport_words s.viewport) 3 0
    ∷ float_bits s.depth_range.near ∷ float_bits s.depth_range.far
    ∷ switch_word (is_some s.scissor)
    ∷ get_or (box_words s.scissor) 0 0 ∷ get_or (box_words s.scissor) 1 0 ∷ get_or (box_words s.scissor) 2 0 ∷ get_or (box_words s.scissor) 3 0
    ∷ switch_word s.depth_test ∷ compare_code s.depth_func ∷ switch_word s.depth_write
    ∷ switch_word s.alpha_test ∷ compare_code s.alpha_func ∷ float_bits s.alpha_ref
    ∷ switch_word s.blend ∷ factor_code s.blend_src ∷ factor_code s.blend_dst
    ∷ cull_code s.cull ∷ face_code s.front_face
    ∷ switch_word s.color_mask.r ∷ switch_word s.color_mask.g ∷ switch_word s.color_mask.b ∷ switch_word s.color_mask.a
    ∷ switch_word s.fog ∷ fog_code s.fog_mode
    ∷ float_bits s.fog_color.r ∷ float_bits s.fog_color.g ∷ float_bits s.fog_color.b ∷ float_bits s.fog_color.a
    ∷ float_bits s.fog_start ∷ float_bits s.fog_end ∷ float_bits s.fog_density
    ∷ switch_word s.smooth_shading ∷ []

unfoldable pub stage_words : TextureStage → List ℕ
stage_words x =
    x.unit ∷ env_code x.env
    ∷ float_bits x.env_color.r ∷ float_bits x.env_color.g ∷ float_bits x.env_color.b ∷ float_bits x.env_color.a ∷ []

abbrev pub float_bits_at : List Float → ℕ → ℕ
float_bits_at l i = float_bits (get_or l i nan)

unfoldable pub vertex_words : Vertex → List ℕ
vertex_words v =
    float_bits_at v.pos 0 ∷ float_bits_at v.pos 1 ∷ float_bits_at v.pos 2 ∷ float_bits_at v.pos 3
    ∷ float_bits_at v.color 0 ∷ float_bits_at v.color 1 ∷ float_bits_at v.color 2 ∷ float_bits_at v.color 3
    ∷ float_bits_at v.texcoord 0 ∷ float_bits_at v.texcoord 1 ∷ float_bits_at v.texcoord 2 ∷ float_bits_at v.texcoord 3
    ∷ float_bits_at v.texcoord 4 ∷ float_bits_at v.texcoord 5 ∷ float_bits_at v.texcoord 6 ∷ float_bits_at v.texcoord 7
    ∷ float_bits v.fog_depth ∷ []
