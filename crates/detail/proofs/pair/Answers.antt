use Rattle.std.proofs.Common.{sym, ◌∙◌}
use lib.Ieee.{of_bits, div}
use Rattle.detail.proofs.Squares.{squares, first_infinite, second_infinite, infinite_is}
use Rattle.detail.proofs.pair.Goals as goal
use Rattle.detail.proofs.pair.Goals.{then-is_infinite-via-then-is_infinite, then-is_infinite-via-else-is_infinite+then-is_infinite-2}

pub returns-then-is_infinite : goal.returns-then-is_infinite
unfolding of_bits div
returns-then-is_infinite c =
    elim c.then-is_infinite.branch [
      | then-is_infinite-via-then-is_infinite w ↦ first_infinite _ _ (sym (infinite_is _) ∙ sym c.is_infinite.ensures.value ∙ w.if-is_infinite.true)
      | then-is_infinite-via-else-is_infinite+then-is_infinite-2 w ↦
          second_infinite _ _ (sym (infinite_is _) ∙ sym c.is_infinite.ensures.value ∙ w.if-is_infinite.false) (sym (infinite_is _) ∙ sym w.is_infinite-else-is_infinite.ensures.value ∙ w.if-is_infinite-2.true)
    ]

pub returns : goal.returns
unfolding of_bits div
returns c =
    rw (c.f32_to_f64_with_nan-x.ensures, c.f32_to_f64_with_nan-y.ensures)
    (squares _ _ (sym (infinite_is _) ∙ sym c.is_infinite.ensures.value ∙ c.if-is_infinite.false) (sym (infinite_is _) ∙ sym c.is_infinite-else-is_infinite.ensures.value ∙ c.if-is_infinite-2.false))
