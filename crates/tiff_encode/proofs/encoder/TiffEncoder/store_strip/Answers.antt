use Rattle.std.proofs.Common.{rules, length, map, ap, ◌∙◌, sym}
use Rattle.tiff_base.specs.Types.{type_size}
use Rattle.tiff_value.specs.ColorType.{sample_number}
use Rattle.tiff_encode.proofs.Data.Strips.{strip_written, strip_stopped, strip_of_tiles}
use Rattle.tiff_encode.proofs.encoder.TiffEncoder.store_strip.Goals as goal

pub returns-in_err-end : goal.returns-in_err-end
returns-in_err-end g c =
    let told =
    strip_stopped c.args.self.now c.args.image.now (map (sample_number (type_size g.T.TiffValue.value_type) g.T.Sample.bits) c.args.samples.now) (length c.args.samples.now) c.in_err-end.field-0.0 c.in_err-end.ensures.0 c.in_err-end.ensures.1 in
    search rules

pub returns-in-Tile : goal.returns-in-Tile
returns-in-Tile g c =
    strip_of_tiles c.args.self.now c.args.image.now (map (sample_number (type_size g.T.TiffValue.value_type) g.T.Sample.bits) c.args.samples.now) (length c.args.samples.now) c.in_ok-end.ensures.0
    (ap (λ i. i.form.chunk_type) (sym c.image.view_is) ∙ c.in-Tile.is)

pub returns : goal.returns
returns g c =
    strip_written c.args.self.now c.args.image.now (map (sample_number (type_size g.T.TiffValue.value_type) g.T.Sample.bits) c.args.samples.now) (length c.args.samples.now) c.store_chunk.result c.store_chunk.new.self c.store_chunk.new.image
    (ap (λ i. i.form.chunk_type) (sym c.image.view_is) ∙ c.in_default.is) c.store_chunk.ensures
