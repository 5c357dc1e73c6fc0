-- A block's colours are its last eight bytes, and eight bytes of the data decode as they do where they stand. Assumes nothing.
use mathlib.Core.Path.{◌≡◌, refl}
use mathlib.Core.List.{List}
use Prim.Native.Nat.{ℕ, ◌+◌}
use native.Mathlib.Omega.{arith}
use lib.ListN.{take, drop}
use Rattle.alpha_blocks.proofs.Parts.{explicit_part, interpolated_part}
use Rattle.colour_blocks.proofs.Parts.{dxt_part, atc_part, dxt1_alpha_part}
use Rattle.blocks.specs.declared.Block.{Block}
use Rattle.blocks.specs.declared.Block.TheVariants.{Dxt1Rgb, Dxt1Rgba, Dxt3, Dxt5, AtcRgb, AtcExplicit, AtcInterpolated}
use Rattle.blocks.specs.declared.Alphas.{Alphas}
use Rattle.blocks.specs.declared.Alphas.TheVariants.{Opaque, Selected, Explicit, Interpolated}
use Rattle.blocks.specs.Blocks.{block_bytes, alpha_bytes, always_four, colours_in, alphas_in}

pub colours_last : (b : Block) → alpha_bytes b + 8 ≡ block_bytes b
colours_last Dxt1Rgb = omega arith
colours_last Dxt1Rgba = omega arith
colours_last Dxt3 = omega arith
colours_last Dxt5 = omega arith
colours_last AtcRgb = omega arith
colours_last AtcExplicit = omega arith
colours_last AtcInterpolated = omega arith

module _ (s : List ℕ) (at : ℕ) where
  pub colours_part : (b : Block) → colours_in b (take 8 (drop at s)) 0 ≡ colours_in b s at
  colours_part b = rw (dxt_part s at (always_four b), atc_part s at)

  pub alphas_part : (a : Alphas) → alphas_in a (take 8 (drop at s)) 0 ≡ alphas_in a s at
  alphas_part Opaque = refl
  alphas_part Selected = dxt1_alpha_part s at
  alphas_part Explicit = explicit_part s at
  alphas_part Interpolated = interpolated_part s at
