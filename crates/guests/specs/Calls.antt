-- The calls of document 01, "Demand 3 in full", on the shared state. What a call does is the definition that its operation's contract
-- cites, on the texture's record as last left. Beside it stands what the call reads and writes, as 01 lists it; a refused call has
-- read what was looked at before its refusal, and writes nothing. Every call looks at the sizes of target and store but a setting, a
-- new record and a define that 9 refuses.
use Rattle.std.specs.Prelude.{◌≡◌, Bool, true, false, cond, List, ℕ, eqb, ltb, length, Float, Option}
use Rattle.levels.specs.declared.Texture.{Texture}
use Rattle.levels.specs.Levels.{new_texture}
use Rattle.scissor.specs.Scissor.{pixel_in}
use Rattle.render_target.specs.Clear.{clear_color_check, clear_depth_check, clear_color_of, clear_depth_of}
use Rattle.texture.specs.Define.{define_check, define_of, define_writes}
use Rattle.texture.specs.Patch.{patch_check, patch_of, patch_writes}
use Rattle.texture.specs.Parameters.{set_check, set_of}
use Rattle.isolation.specs.Machine.{Act}
use Rattle.frames.specs.State.{State, Place, sizes, pixel, byte, texture, Answer, done, refused}
use Rattle.settings.specs.declared.ScissorBox.{ScissorBox}

abbrev pub Shared : Type 0
Shared = State Texture

-- What a call that is no draw answers, from its number in 01: 0 is done.
abbrev pub answer_of : ℕ → Answer
answer_of n = cond (eqb n 0) done (refused n)

-- The state with other colours, other depths, or another record and store.
abbrev pub with_colors : Shared → List ℕ → Shared
with_colors s cs = record { width = s.width; height = s.height; colors = cs; depths = s.depths; store = s.store; textures = s.textures }

abbrev pub with_depths : Shared → List Float → Shared
with_depths s ds = record { width = s.width; height = s.height; colors = s.colors; depths = ds; store = s.store; textures = s.textures }

abbrev pub with_texture : Shared → ℕ → Texture → List ℕ → Shared
with_texture s n t st = record {
  width = s.width;
  height = s.height;
  colors = s.colors;
  depths = s.depths;
  store = st;
  textures = λ m. cond (eqb m n) t (s.textures m);
}

-- ---- Clears

-- The check's number on a state.
abbrev pub clear_color_number : Option ScissorBox → Shared → ℕ
clear_color_number b s = clear_color_check s.width s.height (length s.colors) (length s.depths) b

abbrev pub clear_depth_number : Option ScissorBox → Float → Shared → ℕ
clear_depth_number b v s = clear_depth_check s.width s.height (length s.colors) (length s.depths) v b

-- 01: the pixels of the scissor box, unless the call is refused. They are read too: a clear of the colours leaves a pixel's depth as it was.
abbrev pub BoxReads : ℕ → Option ScissorBox → Shared → Place → Type 0
BoxReads number b s sizes = Unit {0}
BoxReads number b s (pixel p) = (eqb number 0 ≡ true) × (pixel_in s.width s.height b p ≡ true)
BoxReads number b s (byte a) = ⊥
BoxReads number b s (texture n) = ⊥

abbrev pub box_writes : ℕ → Option ScissorBox → Shared → Place → Bool
box_writes number b s sizes = false
box_writes number b s (pixel p) = cond (eqb number 0) (pixel_in s.width s.height b p) false
box_writes number b s (byte a) = false
box_writes number b s (texture n) = false

abbrev pub clear_color : Option ScissorBox → List ℕ → Act Shared Answer Place
clear_color b rgba = record {
  does = λ s. (answer_of (clear_color_number b s), with_colors s (clear_color_of s.width s.height (length s.depths) rgba b s.colors));
  Reads = λ s. BoxReads (clear_color_number b s) b s;
  writes = λ s. box_writes (clear_color_number b s) b s;
}

abbrev pub clear_depth : Option ScissorBox → Float → Act Shared Answer Place
clear_depth b v = record {
  does = λ s. (answer_of (clear_depth_number b v s), with_depths s (clear_depth_of s.width s.height (length s.colors) v b s.depths));
  Reads = λ s. BoxReads (clear_depth_number b v s) b s;
  writes = λ s. box_writes (clear_depth_number b v s) b s;
}

-- ---- Define: texture n, level k of w by h texels at a place in the store, its bytes

-- 01, Define, 9: the one check before 8. It looks at the call's own arguments.
unfoldable pub sides_check : ℕ → ℕ → ℕ → ℕ
sides_check k w h = cond (ltb 1024 w) 9 (cond (ltb 1024 h) 9 (cond (ltb 10 k) 9 0))

abbrev pub define_number : ℕ → ℕ → ℕ → ℕ → ℕ → List ℕ → Shared → ℕ
define_number n k w h place rgba s = define_check (length s.store) (s.textures n) k w h place (length rgba)

-- 01: a define reads its texture, once 9 is passed
abbrev pub DefineReads : ℕ → ℕ → ℕ → ℕ → Place → Type 0
DefineReads n k w h sizes = eqb (sides_check k w h) 0 ≡ true
DefineReads n k w h (pixel p) = ⊥
DefineReads n k w h (byte a) = ⊥
DefineReads n k w h (texture m) = (m ≡ n) × (eqb (sides_check k w h) 0 ≡ true)

-- 01: a define that isn't refused writes its texture and its level's bytes
abbrev pub define_touches : ℕ → ℕ → ℕ → ℕ → ℕ → List ℕ → Shared → Place → Bool
define_touches n k w h place rgba s sizes = false
define_touches n k w h place rgba s (pixel p) = false
define_touches n k w h place rgba s (byte a) = define_writes (length s.store) (s.textures n) k w h place (length rgba) a
define_touches n k w h place rgba s (texture m) = cond (eqb (define_number n k w h place rgba s) 0) (eqb m n) false

abbrev pub define_level : ℕ → ℕ → ℕ → ℕ → ℕ → List ℕ → Act Shared Answer Place
define_level n k w h place rgba = record {
  does = λ s. let o = define_of s.store (s.textures n) k w h place rgba in (answer_of o.answer, with_texture s n o.texture o.store);
  Reads = λ s. DefineReads n k w h;
  writes = define_touches n k w h place rgba;
}

-- ---- Patch: texture n, a rectangle of w by h texels at x and y of level k, its bytes

abbrev pub patch_number : ℕ → ℕ → ℕ → ℕ → ℕ → ℕ → List ℕ → Shared → ℕ
patch_number n k x y w h rgba s = patch_check (length s.store) (s.textures n) k x y w h (length rgba)

-- 01: a patch reads its texture: 8 is its first check
abbrev pub PatchReads : ℕ → Place → Type 0
PatchReads n sizes = Unit {0}
PatchReads n (pixel p) = ⊥
PatchReads n (byte a) = ⊥
PatchReads n (texture m) = m ≡ n

-- 01: a patch that isn't refused writes its texture, though the record stays, and its rectangle's bytes
abbrev pub patch_touches : ℕ → ℕ → ℕ → ℕ → ℕ → ℕ → List ℕ → Shared → Place → Bool
patch_touches n k x y w h rgba s sizes = false
patch_touches n k x y w h rgba s (pixel p) = false
patch_touches n k x y w h rgba s (byte a) = patch_writes (length s.store) (s.textures n) k x y w h (length rgba) a
patch_touches n k x y w h rgba s (texture m) = cond (eqb (patch_number n k x y w h rgba s) 0) (eqb m n) false

abbrev pub patch_level : ℕ → ℕ → ℕ → ℕ → ℕ → ℕ → List ℕ → Act Shared Answer Place
patch_level n k x y w h rgba = record {
  does = λ s. let o = patch_of s.store (s.textures n) k x y w h rgba in (answer_of o.answer, with_texture s n (s.textures n) o.store);
  Reads = λ s. PatchReads n;
  writes = patch_touches n k x y w h rgba;
}

-- ---- Set a parameter of texture n: a code and a value

-- 01: a setting that isn't refused writes its texture. The rest of the record stays, so it is read too; 16 looks at the arguments.
abbrev pub SetReads : ℕ → ℕ → ℕ → Place → Type 0
SetReads n code value sizes = ⊥
SetReads n code value (pixel p) = ⊥
SetReads n code value (byte a) = ⊥
SetReads n code value (texture m) = (m ≡ n) × (eqb (set_check code value) 0 ≡ true)

abbrev pub set_touches : ℕ → ℕ → ℕ → Place → Bool
set_touches n code value sizes = false
set_touches n code value (pixel p) = false
set_touches n code value (byte a) = false
set_touches n code value (texture m) = cond (eqb (set_check code value) 0) (eqb m n) false

abbrev pub set_parameter : ℕ → ℕ → ℕ → Act Shared Answer Place
set_parameter n code value = record {
  does = λ s. let o = set_of (s.textures n) code value in (answer_of o.answer, with_texture s n o.texture s.store);
  Reads = λ s. SetReads n code value;
  writes = λ s. set_touches n code value;
}

-- ---- A new record: texture n

-- Texture::new, tf_new_texture: it is lent neither target nor store, and looks at nothing of what stood there. It writes its texture.
abbrev pub new_touches : ℕ → Place → Bool
new_touches n sizes = false
new_touches n (pixel p) = false
new_touches n (byte a) = false
new_touches n (texture m) = eqb m n

abbrev pub new_record : ℕ → Act Shared Answer Place
new_record n = record {
  does = λ s. (done, with_texture s n new_texture s.store);
  Reads = λ s l. ⊥;
  writes = λ s. new_touches n;
}
