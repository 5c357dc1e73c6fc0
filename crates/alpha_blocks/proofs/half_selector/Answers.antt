use mathlib.Core.Path.{sym, ◌∙◌}
use Prim.Native.Nat.{◌-◌}
use native.Mathlib.Omega.{arith}
use Rattle.alpha_blocks.proofs.Laws.{lower_part, higher_part}
use borrow.Author.Rules.{rules}
use Rattle.alpha_blocks.proofs.half_selector.Goals as goal

pub returns-then-i-lt8 : goal.returns-then-i-lt8
returns-then-i-lt8 c =
    let a = c.args in
    c.selector.ensures.0 ∙ sym (lower_part 3 8 a.high (search rules) a.i (7 - a.i) (omega arith))

pub returns : goal.returns
returns c =
    let a = c.args in
    c.selector-2.ensures.0 ∙ sym (higher_part 3 8 a.high (search rules) a.i (a.i - 8) (omega arith))
