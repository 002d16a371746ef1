use Rattle.std.proofs.Common.{rules, Ok, ◌∙◌, ap, refl, subst}
use Rattle.tiff_base.specs.Types.{type_size}
use Rattle.tiff_encode.specs.Calls as calls
use Rattle.tiff_encode.specs.Ends.{EndsAsDefined, CallFails}
use Rattle.tiff_encode.specs.Tagging.{write_fields}
use Rattle.tiff_encode.proofs.Images.{first_fields, image_refused, image_short, image_unpadded, image_untagged, image_begun}
use Rattle.tiff_encode.proofs.encoder.TiffEncoder.begin_as.Goals as goal

pub returns-in_err-check_new_image : goal.returns-in_err-check_new_image
returns-in_err-check_new_image g c =
    let told =
    image_refused c.args.color (type_size g.T.TiffValue.value_type) c.args.width c.args.height c.args.self.now c.in_err-check_new_image.field-0.0 c.in_err-check_new_image.ensures in
    search rules

pub returns-in_default : goal.returns-in_default
returns-in_default g c =
    image_short c.args.color (type_size g.T.TiffValue.value_type) c.args.width c.args.height c.args.self.now _ c.in_ok-check_new_image.ensures.3 c.in_ok-check_new_image.ensures.0 refl

pub returns-in_err-pad : goal.returns-in_err-pad
returns-in_err-pad g c =
    let told =
    image_unpadded c.args.color (type_size g.T.TiffValue.value_type) c.args.width c.args.height c.args.self.now c.in_err-pad.field-0.0 c.pad.new.self c.in_ok-check_new_image.ensures.3 c.in_err-pad.ensures in
    search rules

pub returns : goal.returns
returns g c =
    let old = c.args.self.now in
    let is = c.image.view_is ∙ c.new_state-image.ensures in
    let values = first_fields c.deref.ensures.value c.in-Ok.ensures c.new_state-image.ensures in
    let done =
    subst (λ d. EndsAsDefined (write_fields d c.deref.result.now c.pad.new.self) (Ok c.set_tags.new.fields) c.set_tags.new.self) (ap (λ i. i.directory) is) c.in_ok-set_tags.ensures.answer in
    image_begun c.args.color (type_size g.T.TiffValue.value_type) c.args.width c.args.height old c.deref.result.now c.set_tags.new.fields _ c.pad.new.self c.set_tags.new.self
    c.in_ok-check_new_image.ensures.3 c.in_ok-check_new_image.ensures.0 c.in_ok-pad.ensures.1 values done (ap (λ i. calls.with_directory_of i c.set_tags.new.fields) is)

pub returns-in_err-set_tags : goal.returns-in_err-set_tags
returns-in_err-set_tags g c =
    let told =
    let old = c.args.self.now in
    let is = c.image.view_is ∙ c.new_state-image.ensures in
    let values = first_fields c.deref.ensures.value c.in-Ok.ensures c.new_state-image.ensures in
    let failed =
    subst (λ d. CallFails (write_fields d c.deref.result.now c.pad.new.self) c.in_err-set_tags.field-0.0 c.pad.new.self c.set_tags.new.self) (ap (λ i. i.directory) is) c.in_err-set_tags.ensures.answer in
    image_untagged c.args.color (type_size g.T.TiffValue.value_type) c.args.width c.args.height old c.deref.result.now c.in_err-set_tags.field-0.0 c.pad.new.self c.set_tags.new.self
    c.in_ok-check_new_image.ensures.3 c.in_ok-check_new_image.ensures.0 c.in_ok-pad.ensures.1 values failed in
    search rules
