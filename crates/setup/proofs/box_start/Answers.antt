use Rattle.std.proofs.Common.{ℕ, max, ap, ◌∙◌}
use lib.Ieee.{Float, to_signed}
use Rattle.scissor.specs.Scissor.{from_zero}
use Rattle.setup.specs.Box.{start_of}
use Rattle.setup.proofs.Edges.{cut}
use Rattle.setup.proofs.box_start.Goals as goal

pub returns : goal.returns
unfolding start_of
returns c =
    let z = c.saturating_f32_to_i32-first in
    c.max-2.ensures
    ∙ ap (λ (k : ℕ). max k c.args.lo) (cut z.result _ (record { sfits = z.type_inv }) (record { sfits = c.max.type_inv }) c.max.ensures.value ∙ ap from_zero (z.ensures ∙ ap (λ (x : Float). to_signed 31 x) c.floor.ensures))
