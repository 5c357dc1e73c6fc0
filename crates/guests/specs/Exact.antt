-- What the calls without a draw read and write is 01's list, no less and no more, and what they answer and leave is the definition that
-- their operations' contracts cite. Each kind of place is told both ways, and what is read of pixels and records is needed: a call that said
-- too much would keep the two laws, but not this.
use Rattle.std.specs.Prelude.{◌≡◌, ◌≢◌, ◌↔◌, true, false, List, ℕ, ◌+◌, ◌-◌, ◌*◌, ◌<◌, ◌≤◌, length, get_or, Float, Option}
use Rattle.settings.specs.declared.ScissorBox.{ScissorBox}
use Rattle.levels.specs.Levels.{level_at, level_of, new_texture}
use Rattle.scissor.specs.Scissor.{pixel_in}
use Rattle.render_target.specs.Clear.{clear_color_check, clear_depth_check, clear_color_of, clear_depth_of}
use Rattle.texture.specs.Define.{define_check, define_record}
use Rattle.texture.specs.Patch.{in_rows, patch_of, patch_check}
use Rattle.texture.specs.Parameters.{set_check, set_of}
use Rattle.isolation.specs.Machine.{Act, Alike}
use Rattle.frames.specs.State.{Place, sizes, pixel, byte, texture, Same, places, Answer, done, is_refused}
use Rattle.guests.specs.Calls.{Shared, answer_of, clear_color, clear_depth, define_level, patch_level, set_parameter, new_record}

-- it is not refused
abbrev pub Done : Act Shared Answer Place → Shared → Type 0
Done a s = is_refused (a.does s).0 ≡ false

-- what it leaves
abbrev pub left : Act Shared Answer Place → Shared → Shared
left a s = (a.does s).1

-- The call needs the place: it does not do the same on two states that are like s at every other place.
pub record Needs (a : Act Shared Answer Place) (s : Shared) (l : Place) : Type 0 where
  pub one : Shared
  pub other : Shared
  pub one_like : (m : Place) → m ≢ l → Same m s one
  pub other_like : (m : Place) → m ≢ l → Same m s other
  pub differ : Alike places a one other → ⊥

module _ (s : Shared) where
  -- 01: a clear sets the pixels of its box, unless it is refused. It needs them: a pixel's colour stays where its depth is cleared, and
  -- its depth where its colour is.
  pub record ClearExact (a : Act Shared Answer Place) (b : Option ScissorBox) : Type 0 where
    pub reads_sizes : a.Reads s sizes
    pub writes_no_sizes : a.writes s sizes ≡ false
    pub reads_pixel : (p : ℕ) → a.Reads s (pixel p) ↔ (Done a s × (pixel_in s.width s.height b p ≡ true))
    pub reads_no_byte : (m : ℕ) → a.Reads s (byte m) → ⊥
    pub reads_no_texture : (m : ℕ) → a.Reads s (texture m) → ⊥
    pub writes_pixel : (p : ℕ) → (a.writes s (pixel p) ≡ true) ↔ (Done a s × (pixel_in s.width s.height b p ≡ true))
    pub writes_no_byte : (m : ℕ) → a.writes s (byte m) ≡ false
    pub writes_no_texture : (m : ℕ) → a.writes s (texture m) ≡ false
    pub needs_pixel : (p : ℕ) → a.Reads s (pixel p) → Needs a s (pixel p)

  pub record ClearColorExact (b : Option ScissorBox) (rgba : List ℕ) : Type 0 where
    pub footprint : ClearExact (clear_color b rgba) b
    pub answers : ((clear_color b rgba).does s).0 ≡ answer_of (clear_color_check s.width s.height (length s.colors) (length s.depths) b)
    pub leaves : (left (clear_color b rgba) s).colors ≡ clear_color_of s.width s.height (length s.depths) rgba b s.colors
    pub leaves_depths : (left (clear_color b rgba) s).depths ≡ s.depths

  pub record ClearDepthExact (b : Option ScissorBox) (v : Float) : Type 0 where
    pub footprint : ClearExact (clear_depth b v) b
    pub answers : ((clear_depth b v).does s).0 ≡ answer_of (clear_depth_check s.width s.height (length s.colors) (length s.depths) v b)
    pub leaves : (left (clear_depth b v) s).depths ≡ clear_depth_of s.width s.height (length s.colors) v b s.depths
    pub leaves_colors : (left (clear_depth b v) s).colors ≡ s.colors

  -- 01: a call that is lent no frame; and none but a draw reads a texel byte
  pub record Frameless (a : Act Shared Answer Place) : Type 0 where
    pub reads_no_pixel : (p : ℕ) → a.Reads s (pixel p) → ⊥
    pub reads_no_byte : (b : ℕ) → a.Reads s (byte b) → ⊥
    pub writes_no_sizes : a.writes s sizes ≡ false
    pub writes_no_pixel : (p : ℕ) → a.writes s (pixel p) ≡ false

  module _ (n k w h place : ℕ) (rgba : List ℕ) where
    abbrev defining : Act Shared Answer Place
    defining = define_level n k w h place rgba

    -- 01: a define reads its texture, once 9 is passed. Unless refused it writes its texture and its level's bytes.
    pub record DefineExact : Type 0 where
      pub frameless : Frameless defining
      pub reads_sizes : defining.Reads s sizes ↔ ((w ≤ 1024) × (h ≤ 1024) × (k ≤ 10))
      pub reads_texture : (m : ℕ) → defining.Reads s (texture m) ↔ ((m ≡ n) × (w ≤ 1024) × (h ≤ 1024) × (k ≤ 10))
      pub needs_texture : (m : ℕ) → defining.Reads s (texture m) → Needs defining s (texture m)
      pub writes_texture : (m : ℕ) → (defining.writes s (texture m) ≡ true) ↔ (Done defining s × (m ≡ n))
      pub writes_byte : (b : ℕ) → (defining.writes s (byte b) ≡ true)
          ↔ (Done defining s × (place ≤ b) × (b < place + h * w * 4))
      pub answers : (defining.does s).0 ≡ answer_of (define_check (length s.store) (s.textures n) k w h place (length rgba))
      pub leaves_texture : Done defining s
          → (left defining s).textures n ≡ define_record (s.textures n) k (level_at place w h)
      pub leaves_bytes : Done defining s → (b : ℕ) → place ≤ b → b < place + h * w * 4
          → get_or (left defining s).store b 0 ≡ get_or rgba (b - place) 0

  module _ (n k x y w h : ℕ) (rgba : List ℕ) where
    abbrev patching : Act Shared Answer Place
    patching = patch_level n k x y w h rgba

    -- 01: a patch reads its texture. Unless refused it writes its texture, though the record stays, and its rectangle's bytes.
    pub record PatchExact : Type 0 where
      pub frameless : Frameless patching
      pub reads_sizes : patching.Reads s sizes
      pub reads_texture : (m : ℕ) → patching.Reads s (texture m) ↔ (m ≡ n)
      pub needs_texture : (m : ℕ) → patching.Reads s (texture m) → Needs patching s (texture m)
      pub writes_texture : (m : ℕ) → (patching.writes s (texture m) ≡ true) ↔ (Done patching s × (m ≡ n))
      pub writes_byte : (b : ℕ) → (patching.writes s (byte b) ≡ true)
          ↔ (Done patching s × (in_rows (level_of (s.textures n) k) x y w h b ≡ true))
      pub answers : (patching.does s).0 ≡ answer_of (patch_check (length s.store) (s.textures n) k x y w h (length rgba))
      pub leaves_texture : (left patching s).textures n ≡ s.textures n
      pub leaves_store : (left patching s).store ≡ (patch_of s.store (s.textures n) k x y w h rgba).store

  module _ (n code value : ℕ) where
    abbrev setting : Act Shared Answer Place
    setting = set_parameter n code value

    -- 01: a setting that isn't refused writes its texture. The rest of the record stays, so it is read too.
    pub record SetExact : Type 0 where
      pub frameless : Frameless setting
      pub reads_no_sizes : setting.Reads s sizes → ⊥
      pub reads_texture : (m : ℕ) → setting.Reads s (texture m) ↔ (Done setting s × (m ≡ n))
      pub needs_texture : (m : ℕ) → setting.Reads s (texture m) → Needs setting s (texture m)
      pub writes_texture : (m : ℕ) → (setting.writes s (texture m) ≡ true) ↔ (Done setting s × (m ≡ n))
      pub writes_no_byte : (b : ℕ) → setting.writes s (byte b) ≡ false
      pub answers : (setting.does s).0 ≡ answer_of (set_check code value)
      pub leaves_texture : (left setting s).textures n ≡ (set_of (s.textures n) code value).texture

  -- A new record reads nothing, is never refused, and writes its texture.
  pub record NewExact (n : ℕ) : Type 0 where
    pub reads_nothing : (l : Place) → (new_record n).Reads s l → ⊥
    pub writes_no_sizes : (new_record n).writes s sizes ≡ false
    pub writes_no_pixel : (p : ℕ) → (new_record n).writes s (pixel p) ≡ false
    pub writes_no_byte : (b : ℕ) → (new_record n).writes s (byte b) ≡ false
    pub writes_texture : (m : ℕ) → ((new_record n).writes s (texture m) ≡ true) ↔ (m ≡ n)
    pub answers : ((new_record n).does s).0 ≡ done
    pub leaves_texture : (left (new_record n) s).textures n ≡ new_texture

-- EXACTLY 01's LIST, of every call without a draw
pub record Exact (s : Shared) : Type 0 where
  pub clear_color_exact : (b : Option ScissorBox) (rgba : List ℕ) → ClearColorExact s b rgba
  pub clear_depth_exact : (b : Option ScissorBox) (v : Float) → ClearDepthExact s b v
  pub define_exact : (n k w h place : ℕ) (rgba : List ℕ) → DefineExact s n k w h place rgba
  pub patch_exact : (n k x y w h : ℕ) (rgba : List ℕ) → PatchExact s n k x y w h rgba
  pub set_exact : (n code value : ℕ) → SetExact s n code value
  pub new_exact : (n : ℕ) → NewExact s n
