use mathlib.Core.Path.{sym, ap, ◌∙◌}
use lib.IntN.{ℤ}
use native.Mathlib.Omega.{arith}
use Rattle.coords.specs.Coords.{wrap_texel}
use Rattle.coords.proofs.Wraps.{first_in}
use Rattle.coords.proofs.Steps.{one_more, at_end}
use Rattle.coords.proofs.Quick.{before, next_last, next_fits}
use Rattle.coords.proofs.Side.next.Goals as goal

pub returns-then-v-eq9223372036854775807 : goal.returns-then-v-eq9223372036854775807
returns-then-v-eq9223372036854775807 c = let a = c.args in c.requires ∙ ap (λ (z : ℤ). wrap_texel a.self.wrap z a.self.size) (next_last a.v c.ranges.v c.if-v-eq9223372036854775807.true)

pub overflow_add-first : goal.overflow_add-first
overflow_add-first c = let s = c.args.self in record { fits = omega (arith, first_in _ _ _ _ s.some c.requires, s.few) }

pub returns-then-first-self : goal.returns-then-first-self
returns-then-first-self c =
    let a = c.args in
    rw c.in-Repeat.is (one_more a.first a.self.size a.self.some a.v (before a.v c.ranges.v c.if-v-eq9223372036854775807.false) (rw (sym c.in-Repeat.is) c.requires) c.if-first-self.true)

pub returns-else-first-self : goal.returns-else-first-self
returns-else-first-self c =
    let a = c.args in
    rw c.in-Repeat.is (at_end a.first a.self.size a.self.some a.v (before a.v c.ranges.v c.if-v-eq9223372036854775807.false) (rw (sym c.in-Repeat.is) c.requires) c.if-first-self.false)

pub returns-in-ClampToEdge : goal.returns-in-ClampToEdge
returns-in-ClampToEdge c =
    let a = c.args in
    c.texel.ensures ∙ ap (λ (z : ℤ). wrap_texel a.self.wrap z a.self.size) (next_fits a.v c.ranges.v c.saturating_add.result (record { sfits = c.saturating_add.type_inv }) c.saturating_add.ensures)
