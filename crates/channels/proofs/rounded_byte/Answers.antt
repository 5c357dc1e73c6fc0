use Prim.Native.Nat.{ℕ, ◌+◌, ◌/◌}
use mathlib.Core.Path.{refl, sym, ap, subst, ◌∙◌}
use lib.Dec.{T}
use lib.Ieee.{of_bits, lt}
use native.Mathlib.Omega.{arith}
use Rattle.channels.proofs.Rounded.{doubled, small}
use Rattle.channels.proofs.rounded_byte.Goals as goal

-- Kept: as held-requires of to_byte (8a)
pub held-t-requires : goal.held-t-requires
unfolding of_bits lt
held-t-requires c = refl

pub whole_part-requires-clause-part : goal.whole_part-requires-clause-part
unfolding of_bits
whole_part-requires-clause-part c = (doubled _ c.args.x (subst T (sym c.well_formed.0.1) tt) c.held-t.ensures).0

pub returns : goal.returns
unfolding of_bits
returns c = ap (λ (k : ℕ). (k + 1) / 2) c.whole_part.ensures.value ∙ (doubled _ c.args.x (subst T (sym c.well_formed.0.1) tt) c.held-t.ensures).1

pub overflow_cast-result : goal.overflow_cast-result
unfolding of_bits
overflow_cast-result c =
    let e = ap (λ (k : ℕ). (k + 1) / 2) c.whole_part.ensures.value ∙ (doubled _ c.args.x (subst T (sym c.well_formed.0.1) tt) c.held-t.ensures).1 in
    record { fits = omega (arith, e, small c.args.x) }
