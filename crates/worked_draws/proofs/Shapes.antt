-- Checks, clipping and set-up: who unfolds `shapes` unfolds them all.
use Rattle.scissor.specs.Check.{target_fits, number_fits, numbers_fit, scissor_fits}
use Rattle.scissor.specs.Scissor.{in_box, cut_of, bounds_of}
use Rattle.vertices.specs.Vertex.{mix_of, mixed, lerp, inside, inside_frustum}
use Rattle.clip.specs.Clip.{cross, kept, crossing, head_or, walk, walked, insides, clip_plane, clip_each, clipped, all_inside}
use Rattle.clip.specs.Fan.{fan_at, fan_of, left_of, draw_each}
use Rattle.screen.specs.Facing.{area_of, area_fits}
use Rattle.screen.specs.Screen.{w_fits, ndc_fits, divides, viewport_draws, view_of, x_of, y_of, z_of, screen_of, corner_of}
use Rattle.setup.specs.Box.{least_of, greatest_of, start_of, end_of, covered_of}
use Rattle.setup.specs.Setup.{on_screen, setup_of}
use Rattle.raster.specs.Fill.{primitive_of, row_of, fill_of, setup_for, raster_of, left_drawn, drawn_of}
use Rattle.draw_checks.specs.Checks.{all_below, viewport_fits, color_fits, state_fits, fog_fits, stage_fits, stages_fit, records_fit, vertex_fits, vertices_fit, early_check, late_check}
use Rattle.draw.specs.Draw.{bound_to, draw_check, draw_passed, draw_of}

unfoldable pub shapes : Unit {0}
unfolding target_fits number_fits numbers_fit scissor_fits in_box cut_of bounds_of mix_of mixed lerp inside inside_frustum cross kept crossing head_or walk walked insides clip_plane clip_each clipped all_inside fan_at fan_of left_of draw_each area_of area_fits w_fits ndc_fits divides viewport_draws view_of x_of y_of z_of screen_of corner_of least_of greatest_of start_of end_of covered_of on_screen setup_of primitive_of row_of fill_of setup_for raster_of left_drawn drawn_of all_below viewport_fits color_fits state_fits fog_fits stage_fits stages_fit records_fit vertex_fits vertices_fit early_check late_check bound_to draw_check draw_passed draw_of
shapes = tt
