use Rattle.std.proofs.Common.{rules}
use Rattle.tiff_encode.proofs.Endings.{offsets_fail, counts_fail, lists_told}
use Rattle.tiff_encode.proofs.encoder.TiffEncoder.set_lists.Goals as goal

pub returns-in_err-set_offsets : goal.returns-in_err-set_offsets
returns-in_err-set_offsets g c =
    let told =
    offsets_fail g.K.TiffKind.kind c.args.chunk_type c.args.chunks.now c.tags_of-offsets.result c.tags_of-offsets.ensures c.args.fields.now c.in_err-set_offsets.field-0.0 c.args.self.now
    c.set_offsets.new.self c.in_err-set_offsets.ensures in
    search rules

pub returns : goal.returns
returns g c =
    lists_told g.K.TiffKind.kind c.args.chunk_type c.args.chunks.now c.tags_of-offsets.result c.tags_of-offsets.ensures c.args.fields.now c.set_offsets.new.fields
    c.set_offsets-2.new.fields c.args.self.now c.set_offsets.new.self c.set_offsets-2.new.self c.in_ok-set_offsets.ensures c.in_ok-set_offsets-2.ensures

pub returns-in_err-set_offsets-2 : goal.returns-in_err-set_offsets-2
returns-in_err-set_offsets-2 g c =
    let told =
    counts_fail g.K.TiffKind.kind c.args.chunk_type c.args.chunks.now c.tags_of-offsets.result c.tags_of-offsets.ensures c.args.fields.now c.set_offsets.new.fields
    c.in_err-set_offsets-2.field-0.0 c.args.self.now c.set_offsets.new.self c.set_offsets-2.new.self c.in_ok-set_offsets.ensures c.in_err-set_offsets-2.ensures in
    search rules
