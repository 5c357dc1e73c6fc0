-- The comparisons of the alpha and depth tests.
use Rattle.std.specs.Prelude.{Bool, true, false, Float}
use Rattle.std.specs.Float.Ieee as Ieee
use Rattle.settings.specs.declared.CompareFunc.{CompareFunc}
use Rattle.settings.specs.declared.CompareFunc.TheVariants as C

-- OpenGL ES 1.1, Alpha Test and Depth Buffer Test: whether lhs passes against rhs. raster.rs, test: a NaN passes Notequal and Always alone.
abbrev pub test_of : CompareFunc → Float → Float → Bool
test_of C.Never lhs rhs = false
test_of C.Less lhs rhs = Ieee.lt lhs rhs
test_of C.Equal lhs rhs = Ieee.eq lhs rhs
test_of C.Lequal lhs rhs = Ieee.le lhs rhs
test_of C.Greater lhs rhs = Ieee.lt rhs lhs
test_of C.Notequal lhs rhs = Ieee.ne lhs rhs
test_of C.Gequal lhs rhs = Ieee.le rhs lhs
test_of C.Always lhs rhs = true
