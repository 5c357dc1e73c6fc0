-- The scissor as the C interface hands it over: docs/INTERFACE.md, Clears, export and codes.
use Rattle.std.specs.Prelude.{ℕ, cond, eqb, ℤ, Option, Some, None}
use Rattle.settings.specs.declared.ScissorBox.{ScissorBox}

-- none where boxed is 0
unfoldable pub scissor_of : ℕ → ℤ → ℤ → ℤ → ℤ → Option ScissorBox
scissor_of boxed x y width height = cond (eqb boxed 0) None (Some (record { x = x; y = y; width = width; height = height }))
