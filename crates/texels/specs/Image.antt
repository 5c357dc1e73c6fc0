-- Images of texels of four bytes: red, green, blue, alpha.
use Rattle.std.specs.Prelude.{Bool, true, cond, List, ℕ, ltb}
use Rattle.lists.specs.Lists.{flat}

-- the image w wide and h high whose texel at (x, y) is f x y: its rows joined, the first row first
unfoldable pub image : ℕ → ℕ → (ℕ → ℕ → List ℕ) → List ℕ
image w h f = flat h (λ y. flat w (λ x. f x y))

-- document 01, number 9
abbrev pub side_above : ℕ → ℕ → Bool
side_above w h = cond (ltb 1024 w) true (ltb 1024 h)
