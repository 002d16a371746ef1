use Rattle.std.proofs.Common.{◌∙◌, ap}
use Rattle.tiff_value.specs.FileBytes.{offset_len}
use Rattle.tiff_encode.proofs.Leaves.{leaves_header}
use Rattle.tiff_encode.proofs.encoder.TiffEncoder.new_generic.Goals as goal

pub returns-clause-leaves : goal.returns-clause-leaves
returns-clause-leaves g c =
    leaves_header g.K.TiffKind.kind (g.W.Sink.contents c.args.sink)
    (g.W.Sink.failures c.args.sink) c.offset.result c.offset_size.result c.new-writer.result c.write_header.new.writer
    c.new-writer.ensures c.in-Ok.ensures.1 c.offset.ensures.offset
    (c.offset_size.ensures ∙ ap offset_len c.file_kind.ensures)
