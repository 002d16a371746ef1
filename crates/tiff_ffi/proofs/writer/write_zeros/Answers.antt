use Rattle.std.proofs.Common.{rules, ap}
use Rattle.tiff_base.specs.Types.{type_size}
use Rattle.tiff_ffi.proofs.FrameZeros.{begun_new}
use Rattle.tiff_ffi.proofs.writer.write_zeros.Goals as goal

pub write_strips-requires : goal.write_strips-requires
write_strips-requires g c =
    begun_new g.C.NamedColorType.name g.C.ColorType.described (type_size g.C.Inner.TiffValue.value_type) c.args.width c.args.height c.args.encoder.now
    c.in_ok-zeros.zeros.state g.met.C.NamedColorType.named (ap type_size g.met.C.NamedColorType.in_memory) c.ranges.width.fits c.ranges.height.fits c.requires.plain c.requires.few c.in_ok-zeros.ensures.begun.answer

pub returns-in-Ok : goal.returns-in-Ok
returns-in-Ok g c = record {
  image = c.in_ok-zeros.zeros.state;
  mid = c.in_ok-zeros.zeros.encoder.now;
  begun = c.in_ok-zeros.ensures.begun;
  last = c.write_strips.new.image.state;
  then = c.write_strips.new.image.encoder.now;
  strips = c.in-Ok.ensures.strips;
  offsets = c.in_ok-finish-in-Ok.ensures.answer.0;
  ends = search rules;
}
