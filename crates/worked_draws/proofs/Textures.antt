-- The definitions of textures and samples: who unfolds `textures` unfolds them all.
use Rattle.levels.specs.Levels.{levels_of, level_of, size_of, texels_of, new_texture, complete, half, single, follows, climb, top_of, overlap, overlaps, apart, fits, valid_levels, valid_of, starts_at, end_of, ascending}
use Rattle.coords.specs.Coords.{rem_of, edge_of, wrap_texel, edge_coord, wrap_coord, centred, low_of, first_of, second_of, weight_of, axis_of}
use Rattle.mipmaps.specs.Mipmaps.{between, minified, q_at, chosen_of}
use Rattle.detail.specs.Steps.{steps_of, cut_of}
use Rattle.sampler.specs.Addresses.{index_of, texel_addresses, nearest_addresses, linear_addresses, filter_addresses, levels_for, chosen_addresses, addresses_of}
use Rattle.sampler.specs.Samples.{filter_texel, chosen_texel, texel_from, sample_of, sample_check, sample_call, nearest_in, linear_in, level_texel}
use Rattle.sampler.specs.Texels.{texel_at, white, linear_byte, linear_texel, part_of, mix_byte, mix_texel}
use Rattle.texture.specs.Define.{stays, stay_at, stay, place_check, record_check, define_check, enter_level, define_record, define_store, settle, define_of, define_writes}
use Rattle.texture.specs.Patch.{rectangle_check, patch_check, row_place, patch_row, patch_store, settle_patch, patch_of, in_rows, patch_writes}
use Rattle.levels.specs.Codes.{min_filter_of, filter_of, wrap_of}
use Rattle.texture.specs.Parameters.{ignored, set_check, set_record, set_of}

unfoldable pub textures : Unit {0}
unfolding levels_of level_of size_of texels_of new_texture complete half single follows climb top_of overlap overlaps apart fits valid_levels valid_of starts_at end_of ascending rem_of edge_of wrap_texel edge_coord wrap_coord centred low_of first_of second_of weight_of axis_of between minified q_at chosen_of steps_of cut_of index_of texel_addresses nearest_addresses linear_addresses filter_addresses levels_for chosen_addresses addresses_of filter_texel chosen_texel texel_from sample_of sample_check sample_call nearest_in linear_in level_texel texel_at white linear_byte linear_texel part_of mix_byte mix_texel stays stay_at stay place_check record_check define_check enter_level define_record define_store settle define_of define_writes rectangle_check patch_check row_place patch_row patch_store settle_patch patch_of in_rows patch_writes min_filter_of filter_of wrap_of ignored set_check set_record set_of
textures = tt
