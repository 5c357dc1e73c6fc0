-- A refusal's number is never that of done. Assumes nothing.
use Prim.Native.Nat.{ℕ, ◌<◌}
use mathlib.Core.Path.{◌≡◌, sym}
use mathlib.Core.Bool.{true, false}
use native.Mathlib.Omega.{arith}
use lib.Dec.{eqb}
use borrow.Author.Tests.{eq-eqb, ne_eqb}
use Rattle.answers.specs.declared.Refusal.{Refusal}
use Rattle.answers.specs.declared.Refusal.TheVariants.{Target, Scissor, Viewport, Float, Vertex, Stage, FogCurve, Record, Side, Place, Bytes, Level, Rectangle, Format, Output, Code}
use Rattle.answers.specs.Numbers.{refusal_number}

pub refused_pos : (why : Refusal) → 0 < refusal_number why
refused_pos Target = omega arith
refused_pos Scissor = omega arith
refused_pos Viewport = omega arith
refused_pos Float = omega arith
refused_pos Vertex = omega arith
refused_pos Stage = omega arith
refused_pos FogCurve = omega arith
refused_pos Record = omega arith
refused_pos Side = omega arith
refused_pos Place = omega arith
refused_pos Bytes = omega arith
refused_pos Level = omega arith
refused_pos Rectangle = omega arith
refused_pos Format = omega arith
refused_pos Output = omega arith
refused_pos Code = omega arith

-- what a definition's test `eqb n 0` gives, where n is the number of a refusal, or of done
pub refused_test : (why : Refusal) (n : ℕ) → refusal_number why ≡ n → eqb n 0 ≡ false
refused_test why n e = ne_eqb n 0 (λ z. omega (arith, refused_pos why))

pub done_test : (n : ℕ) → 0 ≡ n → eqb n 0 ≡ true
done_test n e = eq-eqb n 0 (sym e)
