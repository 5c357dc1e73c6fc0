-- Every worked case holds: each definition is opened and computed. Assumes nothing.
use mathlib.Core.Path.{◌≡◌, refl}
use mathlib.Core.Bool.{true}
use Rattle.lists.specs.Lists.{tab, flat, all}
use Rattle.texels.specs.Image.{image}
use Rattle.texels.specs.Texels.{nth_texel, byte_format, format_of}
use Rattle.texels.specs.Plain.{plain_check, plain_image, plain_left}
use Rattle.alpha_blocks.specs.AlphaBlocks.{explicit_alpha, alpha_palette, alpha_selectors, interpolated_alpha}
use Rattle.colour_blocks.specs.ColourBlocks.{dxt_palette, atc_palette, chosen, dxt, atc, dxt1_alpha_of, dxt1_alpha}
use Rattle.blocks.specs.Blocks.{opaque, block_texel}
use Rattle.block_images.specs.Walk.{texel_in_blocks, block_image}
use Rattle.compressed.specs.Compressed.{palette_of, compressed_of, size_check, size_of, size_answered, compressed_image, known_check, empty_check, compressed_check, compressed_left}
use Rattle.levels.specs.Levels.{new_texture, levels_of, complete, half, single, follows, climb, top_of, overlap, overlaps, apart, fits, valid_levels, valid_of, size_of as level_size}
use Rattle.texture.specs.Define.{stays, stay_at, stay, place_check, record_check, define_check, enter_level, define_record, define_store, settle, define_of}
use Rattle.scissor.specs.Scissor.{in_box}
use Rattle.scissor.specs.Check.{number_fits, numbers_fit, scissor_fits, target_fits}
use Rattle.render_target.specs.Clear.{clear_color_check, cleared_of, clear_color_of}
use Rattle.cases.specs.Cases.{ramp, defined, holds, cases}

pub worked : all holds cases ≡ true
unfolding ramp defined holds cases tab flat image nth_texel byte_format format_of plain_check plain_image plain_left dxt_palette atc_palette chosen dxt atc dxt1_alpha_of dxt1_alpha explicit_alpha alpha_palette alpha_selectors interpolated_alpha opaque block_texel texel_in_blocks block_image palette_of compressed_of size_check size_of size_answered compressed_image known_check empty_check compressed_check compressed_left new_texture levels_of complete half single follows climb top_of overlap overlaps apart fits valid_levels valid_of level_size stays stay_at stay place_check record_check define_check enter_level define_record define_store settle define_of in_box number_fits numbers_fit scissor_fits target_fits clear_color_check cleared_of clear_color_of
worked = refl
