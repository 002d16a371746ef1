use Rattle.std.proofs.Common.{rules}
use Rattle.tiff_base.specs.declared.tags.FileKind.TheVariants.{Big}
use Rattle.tiff_value.specs.lemmas.File.Headers.{header_written, mark_fails, link_fails}
use Rattle.tiff_encode.proofs.encoder.kind.TiffKindBigTiffKind.write_header.Goals as goal

pub returns-in_err-write_bigtiff_header : goal.returns-in_err-write_bigtiff_header
returns-in_err-write_bigtiff_header g c =
    search (rules, mark_fails Big c.args.writer.now c.write_bigtiff_header.new.writer c.in_err-write_bigtiff_header.field-0.0 c.in_err-write_bigtiff_header.ensures)

pub returns : goal.returns
returns g c =
    (c.in_ok-write_bigtiff_header.ensures.0, header_written Big c.args.writer.now c.write_bigtiff_header.new.writer c.write_u64.new.self c.in_ok-write_bigtiff_header.ensures.1 c.in_ok-write_u64.ensures.1)

pub returns-in_err-write_u64 : goal.returns-in_err-write_u64
returns-in_err-write_u64 g c =
    search (rules, link_fails Big c.args.writer.now c.write_bigtiff_header.new.writer c.write_u64.new.self c.in_err-write_u64.field-0.0 c.in_ok-write_bigtiff_header.ensures.0 c.in_ok-write_bigtiff_header.ensures.1 c.in_err-write_u64.ensures)
