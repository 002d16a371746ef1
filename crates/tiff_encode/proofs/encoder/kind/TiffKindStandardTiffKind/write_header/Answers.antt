use Rattle.std.proofs.Common.{rules}
use Rattle.tiff_base.specs.declared.tags.FileKind.TheVariants.{Classic}
use Rattle.tiff_value.specs.lemmas.File.Headers.{header_written, mark_fails, link_fails}
use Rattle.tiff_encode.proofs.encoder.kind.TiffKindStandardTiffKind.write_header.Goals as goal

pub returns-in_err-write_tiff_header : goal.returns-in_err-write_tiff_header
returns-in_err-write_tiff_header g c =
    search (rules, mark_fails Classic c.args.writer.now c.write_tiff_header.new.writer c.in_err-write_tiff_header.field-0.0 c.in_err-write_tiff_header.ensures)

pub returns : goal.returns
returns g c =
    (c.in_ok-write_tiff_header.ensures.0, header_written Classic c.args.writer.now c.write_tiff_header.new.writer c.write_u32.new.self c.in_ok-write_tiff_header.ensures.1 c.in_ok-write_u32.ensures.1)

pub returns-in_err-write_u32 : goal.returns-in_err-write_u32
returns-in_err-write_u32 g c =
    search (rules, link_fails Classic c.args.writer.now c.write_tiff_header.new.writer c.write_u32.new.self c.in_err-write_u32.field-0.0 c.in_ok-write_tiff_header.ensures.0 c.in_ok-write_tiff_header.ensures.1 c.in_err-write_u32.ensures)
