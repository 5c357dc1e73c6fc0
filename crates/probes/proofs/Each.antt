-- What the i-th element of an output is, for each of the loops over a list. Assumes nothing.
use Prim.Native.Nat.{ℕ}
use mathlib.Core.List.{List}
use lib.Ieee.{Float, nan}
use lib.ListN.{get_or}
use Rattle.channels.specs.Channel.{byte_of}
use Rattle.rounding.specs.Rounding.{floor_of}
use Rattle.levels.specs.declared.Texture.{Texture}
use Rattle.sampler.specs.Samples.{sample_of}
use Rattle.probes.specs.Sampling.{steps_from, coordinates_from, packed}

abbrev pub byte_at : List Float → ℕ → ℕ
byte_at src i = byte_of (get_or src i nan)

abbrev pub floor_at : List Float → ℕ → Float
floor_at src i = floor_of (get_or src i nan)

abbrev pub steps_at : List Float → ℕ → ℕ
steps_at src i = steps_from (get_or src i nan)

abbrev pub sample_at : List ℕ → Texture → List Float → ℕ → ℕ
sample_at store texture coords i = packed (sample_of store texture (coordinates_from coords i))
