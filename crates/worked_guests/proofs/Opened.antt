-- The definitions that a worked list computes with: who unfolds `opened` unfolds them all.
use lib.Ieee.{of_bits}
use Rattle.isolation.specs.Machine.{run, answers_of, bill_of, moments, mark, last_writer, play, only}
use Rattle.frames.specs.State.{pixel_at}
use Rattle.guests.specs.Calls.{sides_check}
use Rattle.scissor.specs.Scissor.{in_box}
use Rattle.scissor.specs.Check.{target_fits, number_fits, numbers_fit, scissor_fits}
use Rattle.render_target.specs.Clear.{clear_color_check, clear_depth_check, cleared_of, clear_color_of, clear_depth_of}
use Rattle.floats.specs.Num.{bounded_of}
use Rattle.lists.specs.Lists.{tab, iter}
use Rattle.levels.specs.Levels.{levels_of, level_of, size_of, new_texture, complete, half, single, follows, climb, top_of, overlap, overlaps, apart, fits, valid_levels, valid_of}
use Rattle.texture.specs.Define.{stays, stay_at, stay, place_check, record_check, define_check, enter_level, define_record, define_store, settle, define_of, define_writes}
use Rattle.texture.specs.Patch.{rectangle_check, patch_check, row_place, patch_row, patch_store, settle_patch, patch_of, in_rows, patch_writes}
use Rattle.levels.specs.Codes.{min_filter_of, filter_of, wrap_of}
use Rattle.texture.specs.Parameters.{ignored, set_check, set_record, set_of}

unfoldable pub opened : Unit {0}
unfolding of_bits run answers_of bill_of moments mark last_writer play only pixel_at sides_check in_box target_fits number_fits numbers_fit scissor_fits clear_color_check clear_depth_check cleared_of clear_color_of clear_depth_of bounded_of tab iter levels_of level_of size_of new_texture complete half single follows climb top_of overlap overlaps apart fits valid_levels valid_of stays stay_at stay place_check record_check define_check enter_level define_record define_store settle define_of define_writes rectangle_check patch_check row_place patch_row patch_store settle_patch patch_of in_rows patch_writes min_filter_of filter_of wrap_of ignored set_check set_record set_of
opened = tt
