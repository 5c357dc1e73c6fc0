-- Eight bytes of the data taken out have the colours that they have where they stand. Assumes nothing.
use mathlib.Core.Path.{◌≡◌}
use mathlib.Core.List.{List}
use Prim.Native.Nat.{ℕ}
use native.Mathlib.Nat.{add-zero}
use native.Mathlib.Omega.{arith}
use lib.ListN.{take, drop}
use Rattle.std.specs.Prelude.{Bool}
use Rattle.alpha_blocks.proofs.Parts.{half_part, word_part}
use Rattle.colour_blocks.specs.ColourBlocks.{dxt, atc, dxt1_alpha}

module _ (s : List ℕ) (at : ℕ) where
  pub dxt_part : (always : Bool) → dxt always (take 8 (drop at s)) 0 ≡ dxt always s at
  unfolding dxt
  dxt_part always =
      rw (half_part s at 0 (omega arith), half_part s at 2 (omega arith), word_part s at 4 (omega arith), add-zero at)

  pub atc_part : atc (take 8 (drop at s)) 0 ≡ atc s at
  unfolding atc
  atc_part = rw (half_part s at 0 (omega arith), half_part s at 2 (omega arith), word_part s at 4 (omega arith), add-zero at)

  pub dxt1_alpha_part : dxt1_alpha (take 8 (drop at s)) 0 ≡ dxt1_alpha s at
  unfolding dxt1_alpha
  dxt1_alpha_part =
      rw (half_part s at 0 (omega arith), half_part s at 2 (omega arith), word_part s at 4 (omega arith), add-zero at)
