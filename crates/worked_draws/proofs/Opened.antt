-- All that a worked list computes with: who unfolds `opened` unfolds it.
use Rattle.isolation.specs.Machine.{run, answers_of, bill_of, moments, mark, last_writer, play, only}
use Rattle.frames.specs.Fragments.{paint, taken, spread, grid}
use Rattle.guests.specs.Calls.{sides_check}
use Rattle.render_target.specs.Clear.{clear_color_check, clear_depth_check, cleared_of, span_of, rows_of, clear_color_of, clear_depth_of}
use Rattle.draw_reads.specs.Items.{box_items, triangle_items, each_items, draw_items}
use Rattle.guest_draws.specs.Draw.{records_of, names_of}
use Rattle.worked_draws.proofs.Numbers.{numbers}
use Rattle.worked_draws.proofs.Textures.{textures}
use Rattle.worked_draws.proofs.Pixels.{pixels}
use Rattle.worked_draws.proofs.Shapes.{shapes}

unfoldable pub opened : Unit {0}
unfolding run answers_of bill_of moments mark last_writer play only paint taken spread grid sides_check clear_color_check clear_depth_check cleared_of span_of rows_of clear_color_of clear_depth_of box_items triangle_items each_items draw_items records_of names_of numbers textures pixels shapes
opened = tt
