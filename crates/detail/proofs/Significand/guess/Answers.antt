use Rattle.std.proofs.Common.{ℕ, ◌-◌, ◌*◌, ◌<◌, ◌≤◌, mul-le-mul_left, arith}
use Rattle.detail.proofs.Significand.guess.Goals as goal

small : (k : ℕ) → k < 4096 → k * (4096 - k) ≤ k * 4096
small k h = mul-le-mul_left k (omega arith)

pub overflow_mul-a-2 : goal.overflow_mul-a-2
overflow_mul-a-2 c = record { fits = omega (arith, small c.args.self.k c.args.self.twelve) }

pub overflow_add-a : goal.overflow_add-a
overflow_add-a c = record { fits = omega (arith, small c.args.self.k c.args.self.twelve) }
