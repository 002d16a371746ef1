-- What an answer unfolds to compute the definitions of these crates on literals.
use Rattle.std.specs.Prelude.{⊤}
use Rattle.std.specs.Str.{is_utf8, chars}
use lib.Utf8.{encode}
use Rattle.tiff_base.specs.ByteOrders.{turned_numbers}
use Rattle.tiff_base.specs.Directory.{entry_of, entries_from, last_of_each, directory_at}
use Rattle.tiff_base.specs.FieldBytes.{field_bytes}
use Rattle.tiff_base.specs.Header.{header_at}
use Rattle.tiff_base.specs.Number.{number}
use Rattle.tiff_base.specs.Runs.{runs_after}
use Rattle.tiff_base.specs.SourceAndSink.{answers_for}
use Rattle.tiff_base.specs.Tags.{tag_of, type_of, method_of, interpretation_of, planar_of, predictor_of, unit_of, format_of, extra_of}
use Rattle.tiff_value.specs.ColorTypes.{color_type, inner_type}
use Rattle.tiff_value.specs.Data.{data_of, text_data}
use Rattle.tiff_value.specs.Differences.{differences}
use Rattle.tiff_ifd.specs.Chain.{chain}
use Rattle.tiff_ifd.specs.FieldValue.{field_value}
use Rattle.tiff_ifd.specs.OneNumber.{one_number}
use Rattle.tiff_ifd.specs.TagLookup.{look_in, find, require}
use Rattle.tiff_ifd.specs.TagQueries.{find_unsigned, find_unsigned_vec, get_unsigned, tag_items, buffer_of, part_of_field}
use Rattle.tiff_page.specs.Buffers.{planes_layout, image_buffer_layout, image_chunk_buffer_layout, image_coding_unit_layout, resized_samples}
use Rattle.tiff_page.specs.Counts.{strip_count, tile_count}
use Rattle.tiff_page.specs.Layout.{no_color, color_of, sample_type_of, row_bits, layout_of}
use Rattle.tiff_page.specs.NumberBytes.{bytes_in}
use Rattle.tiff_page.specs.PixelCalls.{bytes_with_region, fill_buffer, samples, image_of, read_image_bytes, read_image_to_buffer, read_chunk, read_chunk_bytes, read_chunk_to_buffer, read_coding_unit_bytes}
use Rattle.tiff_page.specs.PixelFault.{depth_fault, predictor_fault, inversion_fault, form_fault}
use Rattle.tiff_page.specs.Pixels.{shown_sample, byte_at, numbers_in}
use Rattle.tiff_page.specs.Rect.{rect}
use Rattle.tiff_page.specs.lemmas.PassedChecks.{checks_on_literals}
use Rattle.tiff_decode.specs.Outcome as outcome
use Rattle.tiff_encode.specs.Calls.{image_directory, extra_directory, write_entry, write_entry_buf, write_entry_bytes, write_tag, write_tag_buf, write_data, write_data_buf, extend_from, new_offset, set_parent, finish, first_tags, new_image, extra_samples, set_rows_per_strip, tiles, planar, resolution, x_resolution, y_resolution, resolution_unit, write_strip, write_chunk, last_tags, finish_image, write_image_data, write_image}
use Rattle.tiff_encode.specs.Causes.{begin_cause, write_tag_cause, write_buf_cause, write_entry_bytes_cause, write_data_cause, write_data_buf_cause, finish_cause, offset_cause, image_cause, new_image_cause, extra_samples_cause, rows_per_strip_cause, tiles_cause, planar_cause, resolution_cause, one_resolution_cause, resolution_unit_cause, write_chunk_cause, write_strip_cause, write_image_data_cause}
use Rattle.tiff_encode.specs.Chunks.{next_chunk_sample_count, next_strip_sample_count, cut_out, parts_left, sample_in}
use Rattle.tiff_value.specs.FileBytes.{directory_bytes}
use Rattle.tiff_encode.specs.Placing.{field_test}
use Rattle.tiff_encode.specs.Stored.{unpacked_chunk}

unfoldable pub base_on_literals : ⊤
unfolding is_utf8 chars encode turned_numbers entry_of entries_from last_of_each directory_at field_bytes header_at
    number runs_after answers_for tag_of type_of method_of interpretation_of planar_of predictor_of unit_of format_of
    extra_of
base_on_literals = tt

unfoldable pub value_on_literals : ⊤
unfolding color_type inner_type data_of text_data differences
value_on_literals = tt

unfoldable pub ifd_on_literals : ⊤
unfolding chain field_value look_in find require find_unsigned find_unsigned_vec get_unsigned tag_items buffer_of
    part_of_field one_number
ifd_on_literals = tt

unfoldable pub page_on_literals : ⊤
unfolding checks_on_literals planes_layout image_buffer_layout image_chunk_buffer_layout image_coding_unit_layout
    resized_samples strip_count tile_count no_color color_of sample_type_of row_bits layout_of bytes_in
    bytes_with_region fill_buffer samples image_of read_image_bytes read_image_to_buffer read_chunk read_chunk_bytes
    read_chunk_to_buffer read_coding_unit_bytes depth_fault predictor_fault inversion_fault form_fault shown_sample
    byte_at numbers_in rect
page_on_literals = tt

unfoldable pub decode_on_literals : ⊤
unfolding outcome.first_directory outcome.decoder_of outcome.enter outcome.next_image outcome.seek_to_image
    outcome.set_limits outcome.dimensions outcome.colortype outcome.read_directory outcome.show_directory
    outcome.goto_offset outcome.read_ifd_offset outcome.read_byte outcome.read_short outcome.read_sshort
    outcome.read_long outcome.read_slong outcome.read_long8 outcome.read_slong8 outcome.read_float outcome.read_double
    outcome.read_string outcome.read_offset outcome.read_offset_u64 outcome.strip_count outcome.tile_count
    outcome.image_buffer_layout outcome.image_chunk_buffer_layout outcome.image_coding_unit_layout outcome.read_image
    outcome.read_image_to_buffer outcome.read_image_bytes outcome.read_chunk outcome.read_chunk_bytes
    outcome.read_chunk_to_buffer outcome.read_coding_unit_bytes outcome.find_tag outcome.find_tag_unsigned
    outcome.find_tag_unsigned_vec outcome.get_tag outcome.get_tag_unsigned outcome.get_tag_u32 outcome.get_tag_u64
    outcome.get_tag_f32 outcome.get_tag_f64 outcome.get_tag_u32_vec outcome.get_tag_u16_vec outcome.get_tag_u64_vec
    outcome.get_tag_f32_vec outcome.get_tag_f64_vec outcome.get_tag_u8_vec outcome.get_tag_ascii_string
    outcome.tag_iter outcome.find_tag_buf outcome.find_tag_bytes
decode_on_literals = tt

unfoldable pub encode_on_literals : ⊤
unfolding image_directory extra_directory write_entry write_entry_buf write_entry_bytes write_tag write_tag_buf
    write_data write_data_buf extend_from new_offset set_parent finish first_tags new_image extra_samples
    set_rows_per_strip tiles planar resolution x_resolution y_resolution resolution_unit write_strip write_chunk
    last_tags finish_image write_image_data write_image begin_cause write_tag_cause write_buf_cause
    write_entry_bytes_cause write_data_cause write_data_buf_cause finish_cause offset_cause image_cause
    new_image_cause extra_samples_cause rows_per_strip_cause tiles_cause planar_cause resolution_cause
    one_resolution_cause resolution_unit_cause write_chunk_cause write_strip_cause write_image_data_cause
    next_chunk_sample_count next_strip_sample_count cut_out parts_left sample_in directory_bytes field_test
    unpacked_chunk
encode_on_literals = tt

-- all of them
unfoldable pub tiff_on_literals : ⊤
unfolding base_on_literals value_on_literals ifd_on_literals page_on_literals decode_on_literals encode_on_literals
tiff_on_literals = tt
