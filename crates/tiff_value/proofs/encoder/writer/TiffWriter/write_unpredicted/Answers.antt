use Rattle.std.proofs.Common.{◌<◌, ◌^◌, length, map, ap, ◌∙◌, arith}
use Rattle.std.proofs.lemmas.List.{length-map}
use Rattle.std.proofs.lemmas.Result.{err_from_is_err_and}
use Rattle.std.specs.List.{flat_map}
use Rattle.tiff_base.specs.Number.{le}
use Rattle.tiff_base.specs.Types.{type_size}
use Rattle.tiff_base.specs.declared.tags.Predictor.TheVariants.{None}
use Rattle.tiff_value.specs.ColorType.{sample_number}
use Rattle.tiff_value.specs.Written.{writer_after}
use Rattle.tiff_value.proofs.Bands.{one_row, some_bytes, some_of, told_after, type_band}
use Rattle.tiff_value.proofs.Chunk.{left_plain, spelled_all}
use Rattle.tiff_value.specs.lemmas.Put.{cut_from, writer_none}
use Rattle.tiff_value.proofs.encoder.writer.TiffWriter.write_unpredicted.Goals as goal

pub returns-in_err-write_run : goal.returns-in_err-write_run
returns-in_err-write_run g c =
    let size = type_size g.T.TiffValue.value_type in
    let num = sample_number size g.T.Sample.bits in
    let samples = c.args.samples.now in
    let some : 0 < length samples =
    some_of (length samples) c.is_empty.result c.is_empty.ensures c.if-is_empty.false in
    let bytes : 0 < length (flat_map (le size) (map num samples)) =
    some_bytes size (map num samples) (type_band g.T.TiffValue.value_type).0
    (omega (arith, length-map samples num, some)) in
    let answered = err_from_is_err_and c.from_residual.result c.from_residual.ensures.1 in
    rw (answered.1, answered.2) (cut_from c.args.self.now c.args.self.now c.write_run.new.self (flat_map (le size) (map num samples)) 0 _ c.requires.fresh bytes (writer_none c.args.self.now) c.in_err-write_run.ensures)

pub returns-then-branch : goal.returns-then-branch
returns-then-branch g c =
    let size = type_size g.T.TiffValue.value_type in
    rw c.if-branch.true at (c.in_ok-write_run.ensures)
    ∙ ap (writer_after c.args.self.now) (spelled_all size g.T.Sample.bits g.T.TiffScalar.spelled g.met.T.Sample.by_bits c.args.samples.now)

pub returns : goal.returns
returns g c =
    let size = type_size g.T.TiffValue.value_type in
    let num = sample_number size g.T.Sample.bits in
    let samples = c.args.samples.now in
    let idle = rw c.if-branch.false at (c.in_ok-write_run.ensures) in
    told_after c.write_rows.result _ (flat_map (le size) (map num samples)) c.args.self.now c.write_run.new.self c.write_rows.new.self idle
    (ap (flat_map (le size)) (one_row None (256 ^ size) (length samples) (length samples) (length samples) (map num samples) (λ e. cc) (omega (arith, length-map samples num)) ∙ left_plain None (256 ^ size) (length samples) (length samples) (map num samples) (λ e. cc)))
    c.write_rows.ensures
