-- Numbers in the layouts of a draw (docs/INTERFACE.md, Draw): a word's signed number, a float from its bits, a switch, a colour.
use Rattle.std.specs.Prelude.{ℕ, ◌+◌, ◌-◌, Bool, cond, not, List, [], ◌∷◌, eqb, ltb, ℤ, pos, negsuc, Float}
use Rattle.std.specs.Float.Ieee as Ieee
use Rattle.std.specs.Float.{binary32}
use Rattle.settings.specs.declared.Rgba.{Rgba}
use Rattle.layouts.specs.Words.{word}

-- the i32 of a word's bits: a word from 2^31 on stands for itself less 2^32
unfoldable pub signed_of : ℕ → ℤ
signed_of n = cond (ltb n 2147483648) (pos n) (negsuc (4294967295 - n))

unfoldable pub signed_at : List ℕ → ℕ → ℤ
signed_at b i = signed_of (word b i)

unfoldable pub float_at : List ℕ → ℕ → Float
float_at b i = Ieee.of_bits binary32 (word b i)

-- 0 is off
unfoldable pub switch_at : List ℕ → ℕ → Bool
switch_at b i = not (eqb (word b i) 0)

unfoldable pub color_at : List ℕ → ℕ → Rgba
color_at b i = record { r = float_at b i; g = float_at b (i + 4); b = float_at b (i + 8); a = float_at b (i + 12) }

unfoldable pub four_at : List ℕ → ℕ → List Float
four_at b i = float_at b i ∷ float_at b (i + 4) ∷ float_at b (i + 8) ∷ float_at b (i + 12) ∷ []

unfoldable pub eight_at : List ℕ → ℕ → List Float
eight_at b i =
    float_at b i ∷ float_at b (i + 4) ∷ float_at b (i + 8) ∷ float_at b (i + 12)
    ∷ float_at b (i + 16) ∷ float_at b (i + 20) ∷ float_at b (i + 24) ∷ float_at b (i + 28) ∷ []
