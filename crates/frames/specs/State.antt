-- Document 01, "Demand 3 in full": the state that guests share, the places that it is made of, and what a call answers and costs.
use Rattle.std.specs.Prelude.{◌≡◌, refl, List, Bool, true, false, ℕ, ◌+◌, ◌*◌, length, get_or, Float}
use Rattle.std.proofs.Common.{sym, ◌∙◌}
use Rattle.std.specs.Float.{nan}
use Rattle.isolation.specs.Machine.{Places}

-- What a target holds for one pixel: four colour bytes and a depth.
pub record Pixel : Type 0 where
  pub red : ℕ
  pub green : ℕ
  pub blue : ℕ
  pub alpha : ℕ
  pub depth : Float

-- Pixel p of a target: the colour bytes 4 p to 4 p + 3 and the depth p. Past the end of a list there are zeros, or no number.
unfoldable pub pixel_at : List ℕ → List Float → ℕ → Pixel
pixel_at cs ds p = record {
  red = get_or cs (p * 4) 0;
  green = get_or cs (p * 4 + 1) 0;
  blue = get_or cs (p * 4 + 2) 0;
  alpha = get_or cs (p * 4 + 3) 0;
  depth = get_or ds p nan;
}

-- 01: one target's colours and depths, one texel store, and the texture records by name. Image bytes are no part of it.
pub record State (Texture : Type 0) : Type 0 where
  pub width : ℕ
  pub height : ℕ
  pub colors : List ℕ
  pub depths : List Float
  pub store : List ℕ
  pub textures : ℕ → Texture

-- The places of a state. Every colour byte and every depth belongs to one pixel place, those past width times height too.
pub data Place : Type 0 where
  sizes : Place
  pixel : ℕ → Place
  byte : ℕ → Place
  texture : ℕ → Place

-- 01: width, height and the lengths of colours, depths and store. No call writes them.
pub record SameSizes {Texture : Type 0} (s t : State Texture) : Type 0 where
  pub same_width : s.width ≡ t.width
  pub same_height : s.height ≡ t.height
  pub same_colors : length s.colors ≡ length t.colors
  pub same_depths : length s.depths ≡ length t.depths
  pub same_store : length s.store ≡ length t.store

module _ {Texture : Type 0} where
  -- Two states are the same at a place. A NaN is the same as a NaN: the kit's floats have one.
  abbrev pub Same : Place → State Texture → State Texture → Type 0
  Same sizes s t = SameSizes s t
  Same (pixel p) s t = pixel_at s.colors s.depths p ≡ pixel_at t.colors t.depths p
  Same (byte b) s t = get_or s.store b 0 ≡ get_or t.store b 0
  Same (texture n) s t = s.textures n ≡ t.textures n

  pub same_refl : (l : Place) (s : State Texture) → Same l s s
  same_refl sizes s = record { same_width = refl; same_height = refl; same_colors = refl; same_depths = refl; same_store = refl }
  same_refl (pixel p) s = refl
  same_refl (byte b) s = refl
  same_refl (texture n) s = refl

  pub same_sym : (l : Place) (s t : State Texture) → Same l s t → Same l t s
  same_sym sizes s t e = record {
    same_width = sym e.same_width;
    same_height = sym e.same_height;
    same_colors = sym e.same_colors;
    same_depths = sym e.same_depths;
    same_store = sym e.same_store;
  }
  same_sym (pixel p) s t e = sym e
  same_sym (byte b) s t e = sym e
  same_sym (texture n) s t e = sym e

  pub same_trans : (l : Place) (s t u : State Texture) → Same l s t → Same l t u → Same l s u
  same_trans sizes s t u e f = record {
    same_width = e.same_width ∙ f.same_width;
    same_height = e.same_height ∙ f.same_height;
    same_colors = e.same_colors ∙ f.same_colors;
    same_depths = e.same_depths ∙ f.same_depths;
    same_store = e.same_store ∙ f.same_store;
  }
  same_trans (pixel p) s t u e f = e ∙ f
  same_trans (byte b) s t u e f = e ∙ f
  same_trans (texture n) s t u e f = e ∙ f

  abbrev pub places : Places (State Texture) Place
  places = record { Same = Same; same_refl = same_refl; same_sym = same_sym; same_trans = same_trans }

-- What a call answers: done, a draw's count, or the number of a refusal.
pub data Answer : Type 0 where
  done : Answer
  drew : ℕ → Answer
  refused : ℕ → Answer

-- 01: a guest's bill is the sum of its draws' counts. A clear bills 0, and so does a refused call.
abbrev pub cost : Answer → ℕ
cost done = 0
cost (drew n) = n
cost (refused n) = 0

abbrev pub is_refused : Answer → Bool
is_refused done = false
is_refused (drew n) = false
is_refused (refused n) = true
