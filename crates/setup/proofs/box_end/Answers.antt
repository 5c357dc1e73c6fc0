use Rattle.std.proofs.Common.{ℕ, min, ap, ◌∙◌}
use lib.Ieee.{Float, to_signed}
use Rattle.rounding.specs.Rounding.{next_of}
use Rattle.scissor.specs.Scissor.{from_zero}
use Rattle.setup.specs.Box.{end_of}
use Rattle.setup.proofs.Edges.{cut, one_more}
use Rattle.setup.proofs.box_end.Goals as goal

pub returns : goal.returns
unfolding end_of
returns c =
    let z = c.saturating_f32_to_i32-last in
    let n = c.saturating_add in
    c.min.ensures
    ∙ ap (λ (k : ℕ). min k c.args.hi)
    (cut n.result _ (record { sfits = n.type_inv }) (record { sfits = c.max.type_inv }) c.max.ensures.value
    ∙ ap from_zero (one_more z.result _ (record { sfits = z.type_inv }) n.ensures ∙ ap (next_of 31) (z.ensures ∙ ap (λ (x : Float). to_signed 31 x) c.ceil.ensures)))
