-- A draw in parts: its checks before 8, its checks from 8 on, and its fragments. What such a draw reads and writes is 01's list.
use Rattle.std.specs.Prelude.{◌≡◌, Bool, true, false, cond, List, ℕ, eqb, length, Option}
use Rattle.levels.specs.declared.Texture.{Texture}
use Rattle.scissor.specs.Scissor.{pixel_in}
use Rattle.scissor.specs.Check.{target_fits}
use Rattle.isolation.specs.Machine.{Act, In}
use Rattle.frames.specs.State.{SameSizes, Place, sizes, pixel, byte, texture, Answer, refused}
use Rattle.frames.specs.Fragments.{Canvas, Work, FragLocal, work_on, taken_by, paints}
use Rattle.guests.specs.Calls.{Shared}
use Rattle.settings.specs.declared.ScissorBox.{ScissorBox}

-- early: the number of 1, 2, 3, 4, 7 and 6, in that order, or 0. late: the number of 8 and 5, or 0. names: the textures of the units
-- that its stages name. scissor: that of its settings. canvas and work: its fragments (frames, specs/Fragments.antt).
pub record Draws (Item C : Type 0) : Type 0 where
  pub early : Shared → ℕ
  pub late : Shared → ℕ
  pub names : List ℕ
  pub scissor : Option ScissorBox
  pub canvas : Canvas C
  pub work : ℕ → ℕ → (ℕ → Texture) → Work Item C

module _ {Item C : Type 0} (d : Draws Item C) where
  abbrev pub in_scissor : ℕ → ℕ → ℕ → Bool
  in_scissor w h p = pixel_in w h d.scissor p

  -- the draw past its checks
  abbrev pub painting : Act Shared Answer Place
  painting = paints d.canvas d.names in_scissor d.work

  -- it is not refused
  abbrev pub Passes : Shared → Type 0
  Passes s = (eqb (d.early s) 0 ≡ true) × (eqb (d.late s) 0 ≡ true)

  -- 01: a draw reads the textures of the units that its stages name, once the checks before 8 are passed; the bytes of the texels that
  -- it takes at every pixel that gets as far as its stages; and the pixels of its box
  abbrev pub DrawReads : Shared → Place → Type 0
  DrawReads s sizes = Unit {0}
  DrawReads s (pixel p) = Passes s × (in_scissor s.width s.height p ≡ true)
  DrawReads s (byte b) = Passes s × In b (taken_by d.canvas d.names in_scissor d.work s)
  DrawReads s (texture n) = (eqb (d.early s) 0 ≡ true) × In n d.names

  abbrev pub draw_writes : Shared → Place → Bool
  draw_writes s sizes = false
  draw_writes s (pixel p) = cond (eqb (d.early s) 0) (cond (eqb (d.late s) 0) (in_scissor s.width s.height p) false) false
  draw_writes s (byte b) = false
  draw_writes s (texture n) = false

  -- a refused draw answers its number and changes nothing
  abbrev pub draw_does : Shared → Answer × Shared
  draw_does s = cond (eqb (d.early s) 0) (cond (eqb (d.late s) 0) (painting.does s) (refused (d.late s), s)) (refused (d.early s), s)

  abbrev pub draw_act : Act Shared Answer Place
  draw_act = record { does = draw_does; Reads = DrawReads; writes = draw_writes }

  -- WHAT THE PARTS OF A DRAW MUST BE
  pub record DrawLaws : Type 0 where
    -- the checks before 8 look at the arguments and the sizes
    pub early_same : (s t : Shared) → SameSizes s t → d.early s ≡ d.early t
    -- 1 is among them
    pub early_fits : (s : Shared) → eqb (d.early s) 0 ≡ true → target_fits s.width s.height (length s.colors) (length s.depths) ≡ true
    -- 8 and 5 look at the named records too
    pub late_same : (s t : Shared) → SameSizes s t → ((n : ℕ) → In n d.names → s.textures n ≡ t.textures n) → d.late s ≡ d.late t
    -- its fragments hang on the named records alone
    pub work_same : (w h : ℕ) (f g : ℕ → Texture) → ((n : ℕ) → In n d.names → f n ≡ g n) → d.work w h f ≡ d.work w h g
    -- they have the law of a fragment
    pub fragments : (s : Shared) → Passes s → FragLocal d.canvas (work_on d.canvas d.names in_scissor d.work s)
    -- and lie in its scissor box
    pub boxed : (s : Shared) → Passes s → (i : Item) → In i (work_on d.canvas d.names in_scissor d.work s).items
        → in_scissor s.width s.height ((work_on d.canvas d.names in_scissor d.work s).at i) ≡ true
