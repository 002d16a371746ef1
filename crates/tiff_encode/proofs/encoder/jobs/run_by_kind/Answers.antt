use Rattle.std.proofs.Common.{refl}
use Rattle.tiff_encode.specs.declared.encoder.script.Job.TheVariants as job
use Rattle.tiff_encode.proofs.Running.Steps.{moves_as, predictor_moves, compression_moves, directory_moves, unnamed_moves, image_moves}
use Rattle.tiff_encode.proofs.encoder.jobs.run_by_kind.Goals as goal

pub returns-in-Predictor : goal.returns-in-Predictor
returns-in-Predictor g c = λ kind.
    let earlier = c.args.earlier.now in
    moves_as c.args.job.now (job.Predictor c.in-Predictor.predictor) earlier _ c.args.encoder.now c.set_predictor.new.self c.in-Predictor.is
    (predictor_moves c.in-Predictor.predictor earlier _ c.args.encoder.now c.set_predictor.new.self c.set_predictor.ensures c.requires.0 refl)

pub returns-in-Compression : goal.returns-in-Compression
returns-in-Compression g c = λ kind.
    let earlier = c.args.earlier.now in
    moves_as c.args.job.now (job.Compression c.in-Compression.compression) earlier _ c.args.encoder.now c.set_compression.new.self
    c.in-Compression.is
    (compression_moves c.in-Compression.compression earlier _ c.args.encoder.now c.set_compression.new.self c.set_compression.ensures
    c.requires.0 refl)

pub returns-in-Ok : goal.returns-in-Ok
returns-in-Ok g c = λ kind.
    let earlier = c.args.earlier.now in
    moves_as c.args.job.now (job.Directory c.in-Directory.job) earlier c.run_directory.result c.args.encoder.now c.run_directory.new.encoder
    c.in-Directory.is
    (directory_moves c.in-Directory.job earlier c.run_directory.result c.in-Ok.parent c.args.encoder.now c.run_directory.new.encoder
    c.in-Ok.ensures kind c.run_directory.ensures)

pub returns-in-Err : goal.returns-in-Err
returns-in-Err g c = λ kind.
    let earlier = c.args.earlier.now in
    moves_as c.args.job.now (job.Directory c.in-Directory.job) earlier _ c.args.encoder.now c.args.encoder.now c.in-Directory.is
    (unnamed_moves c.in-Directory.job earlier _ c.in-Err.fault c.args.encoder.now c.in-Err.ensures c.requires.0 refl)

pub returns-in-Image : goal.returns-in-Image
returns-in-Image g c = λ kind.
    let earlier = c.args.earlier.now in
    moves_as c.args.job.now (job.Image c.in-Image.job) earlier c.run_named.result c.args.encoder.now c.run_named.new.encoder c.in-Image.is
    (image_moves c.in-Image.job earlier c.run_named.result c.args.encoder.now c.run_named.new.encoder kind c.run_named.ensures)
