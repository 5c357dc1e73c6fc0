use mathlib.Core.Path.{sym, ◌∙◌}
use Rattle.tilefringe.proofs.Boxed.{handed}
use Rattle.tilefringe.proofs.target.tf_clear_color.Goals as goal

pub returns : goal.returns
returns c =
    let s = c.scissor-s.ensures ∙ handed _ _ _ _ c.ranges.box_x c.ranges.box_y c.ranges.box_width c.ranges.box_height _ in
    rw (sym s) (record { answer = c.number.ensures ∙ c.clear_color.ensures.answer; colors_after = c.clear_color.ensures.colors_after })
