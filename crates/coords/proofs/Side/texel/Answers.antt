use native.Mathlib.Omega.{arith}
use mathlib.Core.Path.{sym, ◌∙◌}
use mir.Syntax.{w64}
use Rattle.std.proofs.lemmas.Int.{to_z-of_z}
use Rattle.coords.proofs.Wraps.{repeated, clamped}
use Rattle.coords.proofs.Masks.{masked}
use Rattle.coords.proofs.Side.texel.Goals as goal

pub returns-else-is_power_of_two : goal.returns-else-is_power_of_two
returns-else-is_power_of_two c =
    repeated _ _ _ _ _ c.ranges.v (record { sfits = c.from-size.type_inv }) (record { sfits = c.rem_euclid.type_inv }) c.from-size.ensures c.in-Repeat.is c.rem_euclid.ensures.value

pub returns-in-ClampToEdge : goal.returns-in-ClampToEdge
returns-in-ClampToEdge c =
    clamped _ _ _ _ _ c.ranges.v (record { sfits = c.from-size.type_inv }) (record { sfits = c.clamp.type_inv }) c.from-size.ensures c.args.self.some (omega (arith, c.args.self.few)) c.in-ClampToEdge.is c.clamp.ensures.value

pub returns-then-is_power_of_two : goal.returns-then-is_power_of_two
returns-then-is_power_of_two c =
    let s = c.args.self in
    rw (c.from.ensures, c.cast_unsigned.ensures, to_z-of_z w64 c.args.v c.ranges.v) (masked s.wrap c.args.v s.size c.ranges.v s.few (sym c.is_power_of_two.ensures ∙ c.if-is_power_of_two.true) c.in-Repeat.is)
