-- A word's signed number as the machine makes it of its bits, and floats read one after the other. Assumes nothing.
use Prim.Native.Nat.{ℕ, suc, ◌+◌, ◌-◌, ◌*◌, ◌<◌}
use mathlib.Core.Path.{◌≡◌, ap, ◌∙◌}
use mathlib.Core.Bool.{cond}
use mathlib.Core.List.{List, [], ◌∷◌}
use native.Mathlib.Nat.{add-zero}
use native.Mathlib.Omega.{arith}
use lib.Dec.{ltb}
use lib.IntN.{ℤ, pos, negsuc}
use mir.Syntax.{w32}
use mir.Val.{to_z, of_z}
use Rattle.std.proofs.lemmas.Int.{of_z-to_z}
use Rattle.lists.specs.Lists.{tab}
use Rattle.draw_layouts.specs.Numbers.{signed_of, float_at, four_at, eight_at}

-- the number of a word's bits, read back from them
pub signed_back : (n : ℕ) (z : ℤ) → n < 4294967296 → z ≡ to_z w32 n → to_z w32 (of_z w32 z) ≡ signed_of n
unfolding signed_of
signed_back n z h e =
    let m : 4294967296 - suc n ≡ 4294967295 - n = omega arith in
    rw e (ap (to_z w32) (of_z-to_z w32 n h) ∙ ap (λ (k : ℕ). cond (ltb n 2147483648) (pos n) (negsuc k)) m)

pub four_is : (b : List ℕ) (i : ℕ) → tab 4 (λ k. float_at b (i + k * 4)) ≡ four_at b i
unfolding tab four_at
four_is b i = λ t. float_at b (add-zero i t) ∷ float_at b (i + 4) ∷ float_at b (i + 8) ∷ float_at b (i + 12) ∷ []

pub eight_is : (b : List ℕ) (i : ℕ) → tab 8 (λ k. float_at b (i + k * 4)) ≡ eight_at b i
unfolding tab eight_at
eight_is b i = λ t.
    float_at b (add-zero i t) ∷ float_at b (i + 4) ∷ float_at b (i + 8) ∷ float_at b (i + 12)
    ∷ float_at b (i + 16) ∷ float_at b (i + 20) ∷ float_at b (i + 24) ∷ float_at b (i + 28) ∷ []
