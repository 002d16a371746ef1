use Rattle.std.proofs.Common.{rules}
use Rattle.std.proofs.lemmas.Result.{err_from_is_err_and}
use Rattle.tiff_base.specs.Types.{type_size}
use Rattle.tiff_encode.specs.Given.{given_numbers}
use Rattle.tiff_encode.proofs.Data.Written.{data_stopped, data_done, data_fails}
use Rattle.tiff_encode.proofs.encoder.TiffEncoder.write_image_data.Goals as goal

pub returns : goal.returns
returns g c =
    data_done c.args.image.now (given_numbers (type_size g.T.TiffValue.value_type) g.T.Sample.bits c.args.samples) c.count.result c.count.ensures.numbers
    c.args.self.now c.reserve_data.new.self c.write_chunks_left.new.self c.write_chunks_left.new.image c.in_ok-check_data.ensures c.reserve_data.ensures
    c.finish_image.new.self c.in_ok-write_chunks_left.ensures c.in_ok-finish_image.field-0 c.in_ok-finish_image.ensures

pub returns-in_err-finish_image : goal.returns-in_err-finish_image
returns-in_err-finish_image g c =
    let told =
    data_fails c.args.image.now (given_numbers (type_size g.T.TiffValue.value_type) g.T.Sample.bits c.args.samples) c.count.result c.count.ensures.numbers
    c.args.self.now c.reserve_data.new.self c.write_chunks_left.new.self c.write_chunks_left.new.image c.in_ok-check_data.ensures c.reserve_data.ensures
    c.finish_image.new.self c.in_ok-write_chunks_left.ensures c.in_err-finish_image.field-0.0 c.in_err-finish_image.ensures in
    search rules

pub returns-in_err-write_chunks_left : goal.returns-in_err-write_chunks_left
returns-in_err-write_chunks_left g c =
    let p =
    err_from_is_err_and c.from_residual-in_err-write_chunks_left.result c.from_residual-in_err-write_chunks_left.ensures.1 in
    rw (p.1, p.2) (data_stopped c.args.image.now (given_numbers (type_size g.T.TiffValue.value_type) g.T.Sample.bits c.args.samples) c.count.result c.count.ensures.numbers
    c.args.self.now c.reserve_data.new.self c.write_chunks_left.new.self c.write_chunks_left.new.image c.in_ok-check_data.ensures c.reserve_data.ensures
    c.in_err-write_chunks_left.field-0.0 c.in_err-write_chunks_left.ensures)
