use Rattle.tiff_base.specs.Types.{type_size}
use Rattle.std.proofs.Common.{◌∙◌}
use Rattle.tiff_encode.specs.lemmas.Shown.Color.{size_of_type}
use Rattle.tiff_encode.proofs.StoredBytes.{strip_numbers}
use Rattle.tiff_encode.proofs.encoder.image.state.ImageState.bytes_out.Goals as goal

pub returns-clause-part : goal.returns-clause-part
returns-clause-part g c =
    let ty = g.T.TiffValue.value_type in
    let e = c.next_range-start.ensures in
    strip_numbers c.args.self.now c.args.written c.args.bytes.now (type_size ty) c.from-size.result c.next_range-start.result.0 c.next_range-start.result.1
    (size_of_type ty) (c.from-size.ensures ∙ c.type_and_len-kind.ensures.len) e.start e.end e.within c.requires.whole
