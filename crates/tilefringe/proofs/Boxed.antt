-- The scissor's numbers, read back from their bits, are the numbers handed over. Assumes nothing.
use Prim.Native.Nat.{ℕ}
use mathlib.Core.Path.{◌≡◌}
use lib.IntN.{ℤ}
use mir.Syntax.{w32}
use mir.Val.{SFits, to_z, of_z}
use Rattle.std.proofs.lemmas.Int.{to_z-of_z}
use Rattle.tilefringe.specs.Target.{scissor_of}

abbrev read : ℤ → ℤ
read z = to_z w32 (of_z w32 z)

module _ (x y w h : ℤ) (i : SFits w32 x) (j : SFits w32 y) (k : SFits w32 w) (l : SFits w32 h) where
  pub handed : (n : ℕ) → scissor_of n (read x) (read y) (read w) (read h) ≡ scissor_of n x y w h
  handed n = λ t. scissor_of n (to_z-of_z w32 x i t) (to_z-of_z w32 y j t) (to_z-of_z w32 w k t) (to_z-of_z w32 h l t)
