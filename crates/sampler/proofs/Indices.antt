-- A texel's four bytes lie within its level. Assumes nothing.
use Prim.Native.Nat.{ℕ, ◌+◌, ◌*◌, ◌≤◌, ◌<◌}
use native.Mathlib.Nat.{mul-le-mul}
use native.Mathlib.Omega.{arith}
use Rattle.lists.proofs.Rows.{row_in}
use Rattle.sampler.specs.Addresses.{index_of}

pub row_few : (width y height : ℕ) → width ≤ 1024 → y < height → height ≤ 1024 → y * width ≤ 1024 * 1024
row_few width y height w h k = let few : y ≤ 1024 = omega arith in mul-le-mul few w

pub index_in : (width height x y : ℕ) → x < width → y < height → index_of width x y + 4 ≤ height * width * 4
unfolding index_of
index_in width height x y h k = omega (arith, row_in y height width x 1 k (omega arith))
