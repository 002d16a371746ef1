use Rattle.std.proofs.Common.{rules, refl}
use Rattle.tiff.specs.Outcome.{read_image_to_buffer}
use Rattle.tiff.specs.Result.{decoded_as}
use Rattle.tiff_page.specs.declared.layout.BufferLayoutPreference.{BufferLayoutPreference}
use Rattle.tiff_pages.specs.lemmas.PageReads.{reads_page}
use Rattle.tiffpage_lib.specs.Samples.{page_planes}
use Rattle.tiffpage_lib.proofs.Visits.{seek_refused, seek_then}
use Rattle.tiffpage_lib.proofs.samples.read_planes.Goals as goal

pub returns-in_err-seek_to_image : goal.returns-in_err-seek_to_image
returns-in_err-seek_to_image g c =
    let told =
    seek_refused {X = BufferLayoutPreference} (λ layout. (layout, decoded_as c.args.samples.now)) page_planes c.args.decoder.now c.seek_to_image.new.self c.args.page
    c.in_err-seek_to_image.field-0.0 c.in_err-seek_to_image.ensures.follows in
    search rules

pub returns : goal.returns
unfolding read_image_to_buffer
returns g c =
    let read =
    reads_page (λ layout. (layout, decoded_as c.read_image_to_buffer.new.samples))
    (page_planes c.seek_to_image.new.self) c.read_image_to_buffer.result c.seek_to_image.new.self
    c.read_image_to_buffer.new.self c.read_image_to_buffer.ensures.follows in
    seek_then (λ layout. (layout, decoded_as c.read_image_to_buffer.new.samples)) page_planes c.args.decoder.now c.seek_to_image.new.self c.args.page c.in_ok-seek_to_image.field-0
    c.read_image_to_buffer.result c.read_image_to_buffer.new.self.failures
    (λ d n. refl) c.in_ok-seek_to_image.ensures.follows read.answer
