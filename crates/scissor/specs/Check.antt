-- The checks of document 01 on a target and a scissor.
use Rattle.std.specs.Prelude.{ℕ, ◌*◌, Bool, true, cond, ◌&&◌, leb, eqb, ℤ, pos, negsuc, Option, Some, None}
use Rattle.std.specs.Int.Signed.{le_z}
use Rattle.settings.specs.declared.ScissorBox.{ScissorBox}

-- Document 01, 1: no side above 4,096, colour bytes 4 × width × height, depths width × height
unfoldable pub target_fits : ℕ → ℕ → ℕ → ℕ → Bool
target_fits width height colors depths =
    (leb width 4096 && leb height 4096) && (eqb colors (4 * (width * height)) && eqb depths (width * height))

-- Document 01, 2 and 3: a scissor's or viewport's number, -8,192 to 8,192
unfoldable pub number_fits : ℤ → Bool
number_fits z = le_z (negsuc 8191) z && le_z z (pos 8192)

unfoldable pub numbers_fit : ℤ → ℤ → ℤ → ℤ → Bool
numbers_fit x y width height = (number_fits x && number_fits y) && (number_fits width && number_fits height)

-- Document 01, 2: all four numbers of a box; an absent scissor passes
unfoldable pub scissor_fits : Option ScissorBox → Bool
scissor_fits None = true
scissor_fits (Some b) = numbers_fit b.x b.y b.width b.height

-- Document 01: 1; 2
unfoldable pub check_of : ℕ → ℕ → ℕ → ℕ → Option ScissorBox → ℕ
check_of width height colors depths s = cond (target_fits width height colors depths) (cond (scissor_fits s) 0 2) 1
