-- What a sample answers and leaves, over a record's layout and the store: docs/INTERFACE.md, Sampling.
use Rattle.std.specs.Prelude.{List, ℕ, Float}
use Rattle.std.specs.Option.{option_map_or}
use Rattle.mipmaps.specs.declared.Coordinates.{Coordinates}
use Rattle.sampler.specs.declared.Texel.{Texel}
use Rattle.sampler.specs.Texels.{packed_of}
use Rattle.sampler.specs.Samples.{Outcome, refused, sampled, sample_call}
use Rattle.layouts.specs.Records.{read_of}

abbrev pub coordinates : Float → Float → Float → Float → Float → Float → Coordinates
coordinates s t dsdx dtdx dsdy dtdy = record { s = s; t = t; dsdx = dsdx; dtdx = dtdx; dsdy = dsdy; dtdy = dtdy }

-- a texel as one number, red in its lowest byte
abbrev pub packed : Texel → ℕ
packed = packed_of

-- an answer, and the texel's number
pub record Told : Type 0 where
  pub answer : ℕ
  pub texel : ℕ

abbrev pub told : ℕ → ℕ → Told
told n x = record { answer = n; texel = x }

-- x stays where a sample is refused
abbrev pub ended : ℕ → Outcome → Told
ended x (refused n) = told n x
ended x (sampled t) = told 0 (packed t)

unfoldable pub layout_sample : List ℕ → List ℕ → Coordinates → ℕ → Told
layout_sample b store p x = option_map_or (λ t. ended x (sample_call store t p)) (read_of b) (told 255 x)
