use Rattle.std.proofs.Common.{rules, ◌*◌, ◌^◌, ◌<◌, ◌++◌, length, sym, ap, ◌∙◌, subst, arith, length-append}
use Rattle.tiff_base.specs.Types.{type_size}
use Rattle.tiff_value.specs.ColorType.{columns_of}
use Rattle.tiff_value.specs.ColorTypes.{color_type, inner_type}
use Rattle.tiff_ffi.specs.Frame.{IsFrameOf, frame_contents}
use Rattle.tiff_ffi.specs.Writer.{AreKept}
use Rattle.tiff_ffi.proofs.FrameWritten.{around_written}
use Rattle.tiff_ffi.proofs.writer.write_around.Goals as goal

pub returns-clause-written : goal.returns-clause-written
returns-clause-written g c =
    let s = c.args.settings.now in
    let image = c.args.image.now in
    let bytes = c.args.bytes.now in
    let sink = c.into_inner-sink.result in
    let wide : image.width < 2 ^ 32 = search rules in
    let tall : image.height < 2 ^ 32 = search rules in
    let kept : AreKept s (columns_of g.C.ColorType.described image.width * image.height * length g.C.ColorType.described.bits) (type_size g.C.Inner.TiffValue.value_type) (length bytes) = search rules in
    let counted = sink.counted in
    let within = sink.short in
    let short : length (frame_contents sink) < 2 ^ 63 =
    omega (arith, counted, within, length-append sink.front.items (sink.passed ++ sink.behind.items), length-append sink.passed sink.behind.items) in
    around_written s image.width image.height c.in_ok-encoder.ensures.0 bytes c.in_ok-encoder.encoder c.write_zeros-answer.new.encoder _ _ c.in_ok-encoder.ensures.1
    (g.met.C.NamedColorType.named ∙ ap color_type (sym c.requires.named))
    (ap type_size (g.met.C.NamedColorType.in_memory ∙ ap inner_type (sym c.requires.named)))
    c.in-Ok.ensures wide tall kept c.type_inv.bytes c.in_ok-frame.frame
    (frame_contents sink) c.into_inner-sink.ensures.bytes short
    (subst (λ n. IsFrameOf (frame_contents sink) n bytes c.in_ok-frame.frame) c.front_len.ensures c.in_ok-frame.ensures)

pub returns-clause-around : goal.returns-clause-around
returns-clause-around g c = (c.in_ok-frame.ensures).samples_are
