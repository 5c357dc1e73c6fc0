use native.Mathlib.Omega.{arith}
use native.Mathlib.Nat.{mul-le-mul}
use Rattle.levels.proofs.size_of.Goals as goal

pub overflow_mul-result : goal.overflow_mul-result
overflow_mul-result c = omega (arith, mul-le-mul {n₁ = c.args.m.height} {m₁ = c.args.m.width} {n₂ = 1024} {m₂ = 1024} (omega arith) (omega arith))

pub overflow_mul-result-2 : goal.overflow_mul-result-2
overflow_mul-result-2 c = omega (arith, mul-le-mul {n₁ = c.args.m.height} {m₁ = c.args.m.width} {n₂ = 1024} {m₂ = 1024} (omega arith) (omega arith))
