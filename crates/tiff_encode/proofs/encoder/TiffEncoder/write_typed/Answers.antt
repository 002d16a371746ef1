use Rattle.std.proofs.Common.{◌≡◌, ◌<◌, ◌-◌, ◌^◌, length, map, ap, sym, ◌∙◌, arith}
use Rattle.tiff_base.specs.Types.{type_size}
use Rattle.tiff_value.specs.ColorType.{sample_number}
use Rattle.tiff_encode.specs.Parts.{next_part}
use Rattle.tiff_encode.proofs.Data.Pieces.{slice_part, cut_part, cut_count, part_written}
use Rattle.tiff_encode.proofs.encoder.TiffEncoder.write_typed.Goals as goal

pub returns-then-is_in_order : goal.returns-then-is_in_order
returns-then-is_in_order g c =
    let number = sample_number (type_size g.T.TiffValue.value_type) g.T.Sample.bits in
    let i = c.args.image.now in
    let same =
    slice_part number i c.args.samples.now c.args.written c.slice_out-part.result.now
    (sym c.is_in_order.ensures ∙ c.if-is_in_order.true)
    c.slice_out-part.ensures.part in
    part_written i (map number c.slice_out-part.result.now) (next_part i (map number c.args.samples.now) c.args.written) same c.args.self.now
    c.put_chunk.new.self c.put_chunk.new.image c.put_chunk.result c.put_chunk.ensures

pub put_chunk-requires-2 : goal.put_chunk-requires-2
put_chunk-requires-2 g c =
    let number = sample_number (type_size g.T.TiffValue.value_type) g.T.Sample.bits in
    let i = c.args.image.now in
    let len : c.len.result ≡ length c.image.inside.chunks.items =
    omega (arith, c.len.ensures, c.image.inside.chunks.ok) in
    let at : c.len.result ≡ length i.chunks = len ∙ ap (λ i. length i.chunks) c.image.view_is in
    let few : length c.in_ok-part.part.items < 2 ^ 64 - 1 =
    omega (arith, c.len-2.ensures, c.len-2.type_inv, c.in_ok-part.part.ok, c.if-len.false) in
    ap (λ xs. length xs) c.deref.ensures.value
    ∙ cut_count number i c.args.samples.now c.args.written c.in_ok-part.part.items c.len.result c.requires.left at few c.in_ok-part.ensures

pub returns : goal.returns
returns g c =
    let number = sample_number (type_size g.T.TiffValue.value_type) g.T.Sample.bits in
    let i = c.args.image.now in
    let len : c.len.result ≡ length c.image.inside.chunks.items =
    omega (arith, c.len.ensures, c.image.inside.chunks.ok) in
    let at : c.len.result ≡ length i.chunks = len ∙ ap (λ i. length i.chunks) c.image.view_is in
    let same =
    ap (map number) c.deref.ensures.value
    ∙ cut_part number i c.args.samples.now c.args.written c.in_ok-part.part.items c.len.result
    (sym c.is_in_order.ensures ∙ c.if-is_in_order.false) at c.in_ok-part.ensures in
    part_written i (map number c.deref.result.now) (next_part i (map number c.args.samples.now) c.args.written) same c.args.self.now
    c.put_chunk-2.new.self c.put_chunk-2.new.image c.put_chunk-2.result c.put_chunk-2.ensures
