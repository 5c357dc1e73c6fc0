-- What a draw reads and writes is 01's list, no less and no more, and what it answers and leaves is draw_of.
use Rattle.std.specs.Prelude.{◌≡◌, ◌⊎◌, ◌↔◌, true, false, ℕ, ◌<◌, eqb}
use Rattle.levels.specs.declared.Texture.{Texture}
use Rattle.scissor.specs.Scissor.{pixel_in}
use Rattle.frames.specs.State.{sizes, pixel, byte, texture, refused}
use Rattle.stages.specs.Stages.{stage_at, texture_at}
use Rattle.pixels.specs.Way.{drawn_to}
use Rattle.draw.specs.Draw.{Outcome, draw_of}
use Rattle.draw_reads.specs.Items.{draw_items}
use Rattle.draw_reads.specs.Takes.{Takes}
use Rattle.guests.specs.Calls.{Shared}
use Rattle.guests.specs.Exact.{Done, left}
use Rattle.guest_draws.specs.Draw.{DrawCall, name_at, records_of, stage_records, scissor_of, early_number, drawing_of, drawing}

-- the name of a stage's texture
abbrev pub stage_name : DrawCall → ℕ → ℕ
stage_name x i = name_at x (stage_at x.args.stages i).unit

-- a name of a stage in use
pub record Named (x : DrawCall) (n : ℕ) : Type 0 where
  pub stage : ℕ
  pub used : stage < x.args.count
  pub name : n ≡ stage_name x stage

module _ (x : DrawCall) (s : Shared) where
  -- byte b is one of those that its stages take at a pixel that gets as far as them
  abbrev pub TakesByte : ℕ → Type 0
  TakesByte b =
      let items = draw_items x.args.state s.width s.height x.args.a x.args.b x.args.c in
      Takes s.store (drawing_of x s.textures) s.width items (drawn_to s.colors s.depths 0) b

  -- the operation's outcome
  abbrev pub drawn_by : Outcome
  drawn_by = draw_of s.store s.width s.height x.args (records_of x s.textures) s.colors s.depths

  pub record DrawExact : Type 0 where
    -- it looks at the sizes, and writes none
    pub reads_sizes : (drawing x).Reads s sizes
    pub writes_no_sizes : (drawing x).writes s sizes ≡ false
    -- unless it is refused, the pixels of its box
    pub reads_pixel : (p : ℕ) → (drawing x).Reads s (pixel p) ↔ (Done (drawing x) s × (pixel_in s.width s.height (scissor_of x) p ≡ true))
    -- and the bytes of the texels that it takes
    pub reads_byte : (b : ℕ) → (drawing x).Reads s (byte b) ↔ (Done (drawing x) s × TakesByte b)
    -- once 1, 2, 3, 4, 7 and 6 are passed, the textures of the units that its stages name
    pub reads_texture : (n : ℕ) → (drawing x).Reads s (texture n) ↔ ((eqb (early_number x s) 0 ≡ true) × Named x n)
    -- so it does where 8 or 5 refuses it
    pub reads_late : (((drawing x).does s).0 ≡ refused 8) ⊎ (((drawing x).does s).0 ≡ refused 5)
        → (i : ℕ) → i < x.args.count → (drawing x).Reads s (texture (stage_name x i))
    -- stage i has the record so named
    pub stage_record : (f : ℕ → Texture) (i : ℕ) → eqb (early_number x s) 0 ≡ true → i < x.args.count
        → texture_at (stage_records x f) i ≡ f (stage_name x i)
    -- it writes the pixels of its box, unless it is refused, and nothing else
    pub writes_pixel : (p : ℕ) → ((drawing x).writes s (pixel p) ≡ true)
        ↔ (Done (drawing x) s × (pixel_in s.width s.height (scissor_of x) p ≡ true))
    pub writes_no_byte : (b : ℕ) → (drawing x).writes s (byte b) ≡ false
    pub writes_no_texture : (n : ℕ) → (drawing x).writes s (texture n) ≡ false
    -- what it answers and leaves
    pub answers : ((drawing x).does s).0 ≡ drawn_by.answer
    pub leaves_colors : (left (drawing x) s).colors ≡ drawn_by.colors
    pub leaves_depths : (left (drawing x) s).depths ≡ drawn_by.depths
