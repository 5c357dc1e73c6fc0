-- Which faces the code in a draw's settings says are discarded (docs/INTERFACE.md, Draw). A code that stands for nothing makes the layout no layout.
use Rattle.std.specs.Prelude.{ℕ, cond, eqb, Option, Some, None, Result, Ok}
use Rattle.std.specs.Result.{result_map_both}
use Rattle.answers.specs.declared.Refusal.{Refusal}
use Rattle.settings.specs.declared.CullMode.{CullMode}
use Rattle.settings.specs.Codes.{mode_of}

-- OpenGL ES 1.1, Basic Polygon Rasterization; 0 is off
unfoldable pub cull_of : ℕ → Result (Option CullMode) Refusal
cull_of v = cond (eqb v 0) (Ok None) (result_map_both Some (λ why. why) (mode_of v))
