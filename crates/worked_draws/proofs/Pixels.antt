-- The pixel's way: who unfolds `pixels` unfolds it all.
use Rattle.settings.specs.Settings.{read_compare, read_factor, default_state}
use Rattle.fragment.specs.Fragment.{tex_env_of, depth_passes, alpha_passes, linear_fog_of, fog_factor_of, fogged_of, blend_of, put_color_of}
use Rattle.gradients.specs.Gradients.{sum_of, perspective_sum, slopes_x, slopes_y, derivatives_of, slope_of, value_of, attribute_of}
use Rattle.coverage.specs.Coverage.{edge_of, weights_of, covered_by, depth_at, inv_w_at, usable, shares_of, color_of}
use Rattle.stages.specs.Stages.{coordinates_of, stage_color, stage_step, stages_color, stages_addresses}
use Rattle.pixels.specs.Way.{reaches, shaded_of, fog_depth_of, finished, fragment_of, blended_of, written_of, frag_at, pixel_of}
use Rattle.frames.specs.State.{pixel_at}
use Rattle.frames.specs.Gather.{put_color, put_pixel}

unfoldable pub pixels : Unit {0}
unfolding read_compare read_factor default_state tex_env_of depth_passes alpha_passes linear_fog_of fog_factor_of fogged_of blend_of put_color_of sum_of perspective_sum slopes_x slopes_y derivatives_of slope_of value_of attribute_of edge_of weights_of covered_by depth_at inv_w_at usable shares_of color_of coordinates_of stage_color stage_step stages_color stages_addresses reaches shaded_of fog_depth_of finished fragment_of blended_of written_of frag_at pixel_of pixel_at put_color put_pixel
pixels = tt
