use Rattle.std.proofs.Common.{◌≡◌, ◌<◌, length, subst, arith}
use Rattle.std.proofs.lemmas.Result.{err_from_is_err_and}
use Rattle.tiff_base.specs.Types.{type_size}
use Rattle.tiff_encode.specs.Chunks.{chunks_left}
use Rattle.tiff_encode.specs.Given.{given_numbers}
use Rattle.tiff_encode.proofs.Data.Written.{none_written, more_written, stops_written, all_written, data_fresh, data_few, data_fits, data_whole}
use Rattle.tiff_encode.proofs.StoredBytes.{still_storable}
use Rattle.tiff_encode.proofs.encoder.TiffEncoder.write_chunks_left.Goals as goal

pub chunks_left-written-end-requires : goal.chunks_left-written-end-requires
chunks_left-written-end-requires g c =
    let numbers =
    given_numbers (type_size g.T.TiffValue.value_type) g.T.Sample.bits c.args.samples in
    data_few c.args.self.now c.args.image.now (length numbers) c.requires.uncaused

pub loop-written-init : goal.loop-written-init
loop-written-init g c =
    let numbers =
    given_numbers (type_size g.T.TiffValue.value_type) g.T.Sample.bits c.args.samples in
    none_written c.args.image.now numbers c.args.self.now

pub write_part-requires-clause-storable : goal.write_part-requires-clause-storable
write_part-requires-clause-storable g c =
    still_storable (type_size g.T.TiffValue.value_type) c.args.image.now c.loop-written.image c.args.samples c.loop-written.invariant.same c.requires.storable

pub write_part-requires-clause-fits : goal.write_part-requires-clause-fits
write_part-requires-clause-fits g c =
    let numbers =
    given_numbers (type_size g.T.TiffValue.value_type) g.T.Sample.bits c.args.samples in
    data_fits c.args.self.now c.args.image.now (length numbers) c.requires.uncaused c.loop-written.image c.loop-written.invariant.same

pub write_part-requires-clause-whole : goal.write_part-requires-clause-whole
write_part-requires-clause-whole g c =
    let numbers =
    given_numbers (type_size g.T.TiffValue.value_type) g.T.Sample.bits c.args.samples in
    data_whole c.args.self.now c.args.image.now (length numbers) c.requires.uncaused c.loop-written.image c.loop-written.invariant.same

pub returns-in_err-write_part : goal.returns-in_err-write_part
returns-in_err-write_part g c =
    let p = err_from_is_err_and c.from_residual.result c.from_residual.ensures.1 in
    let numbers =
    given_numbers (type_size g.T.TiffValue.value_type) g.T.Sample.bits c.args.samples in
    let l : c.loop-written.written < chunks_left c.args.image.now =
    subst (λ n. c.loop-written.written < n) c.chunks_left-written-end.ensures c.loop-written-test.true in
    rw (p.1, p.2) (stops_written c.args.image.now numbers c.loop-written.written c.args.self.now c.loop-written.self c.write_part.new.self c.loop-written.image c.write_part.new.image
    l c.loop-written.invariant c.in_err-write_part.field-0.0 (data_fresh c.args.self.now c.args.image.now (length numbers) c.requires.uncaused) c.in_err-write_part.ensures)

pub loop-written-preserved : goal.loop-written-preserved
loop-written-preserved g c =
    let numbers =
    given_numbers (type_size g.T.TiffValue.value_type) g.T.Sample.bits c.args.samples in
    let l : c.loop-written.written < chunks_left c.args.image.now =
    subst (λ n. c.loop-written.written < n) c.chunks_left-written-end.ensures c.loop-written-test.true in
    more_written c.args.image.now numbers c.loop-written.written c.args.self.now c.loop-written.self c.write_part.new.self c.loop-written.image c.write_part.new.image
    l c.loop-written.invariant c.in_ok-write_part.ensures

pub returns : goal.returns
returns g c =
    let numbers =
    given_numbers (type_size g.T.TiffValue.value_type) g.T.Sample.bits c.args.samples in
    let n = c.chunks_left-written-end.ensures in
    let l : c.loop-written.written ≡ chunks_left c.args.image.now =
    omega (arith, n, c.loop-written-test.false, c.loop-written.auto.written-end) in
    all_written c.args.image.now numbers c.loop-written.written c.args.self.now c.loop-written.self c.loop-written.image l c.loop-written.invariant
