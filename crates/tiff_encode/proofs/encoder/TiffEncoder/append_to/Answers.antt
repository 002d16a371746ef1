use Rattle.tiff_encode.specs.lemmas.GoingOn.{writer_behind_header, writer_behind_directory}
use Rattle.tiff_encode.proofs.encoder.TiffEncoder.append_to.Goals as goal

pub returns-clause-behind_header : goal.returns-clause-behind_header
returns-clause-behind_header g c =
    writer_behind_header g.K.TiffKind.kind (g.W.Sink.contents c.args.sink)
    (g.W.Sink.failures c.args.sink) c.args.link c.new-writer.result c.new-writer.ensures

pub returns-clause-behind_directory : goal.returns-clause-behind_directory
returns-clause-behind_directory g c =
    writer_behind_directory g.K.TiffKind.kind (g.W.Sink.contents c.args.sink)
    (g.W.Sink.failures c.args.sink) c.args.link c.new-writer.result c.new-writer.ensures
