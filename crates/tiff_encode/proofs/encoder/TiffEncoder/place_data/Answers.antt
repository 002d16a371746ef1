use Rattle.std.proofs.Common.{rules, Err, refl, ◌∙◌}
use Rattle.tiff_base.specs.declared.error.TiffError.TheVariants.{OutOfMemory}
use Rattle.tiff_value.specs.Fields.{data_in}
use Rattle.tiff_encode.specs.Calls.{placed_field}
use Rattle.tiff_encode.specs.Causes.{field_cause}
use Rattle.tiff_encode.proofs.Calling.{refused, uncaused, wanting, data_test, data_placed}
use Rattle.tiff_encode.proofs.encoder.TiffEncoder.place_data.Goals as goal

pub returns-in_err-check_field-clause-answer : goal.returns-in_err-check_field-clause-answer
returns-in_err-check_field-clause-answer g c =
    let told =
    let old = c.args.self.now in
    let v = data_in c.args.field_type c.args.bytes.now in
    let test =
    data_test old c.file_kind.result c.args.field_type c.args.bytes.now c.from-size.result c.args.end c.file_kind.ensures
    (c.from-size.ensures ∙ c.byte_len.ensures) c.requires.at_end in
    refused (λ f. f) (field_cause old v) (placed_field v) old c.in_err-check_field.field-0.0 (test
    ∙ c.in_err-check_field.ensures) in
    search rules

pub returns-clause-answer : goal.returns-clause-answer
returns-clause-answer g c =
    let old = c.args.self.now in
    let v = data_in c.args.field_type c.args.bytes.now in
    let size = c.from-size.ensures ∙ c.byte_len.ensures in
    let test =
    data_test old c.file_kind.result c.args.field_type c.args.bytes.now c.from-size.result c.args.end c.file_kind.ensures
    size c.requires.at_end in
    uncaused (λ f. f) (field_cause old v) (placed_field v) c.place_entry.result old c.place_entry.new.self (test ∙ c.in_ok-check_field.ensures)
    (data_placed c.args.field_type c.args.bytes.now c.from-size.result c.place_entry.result old c.place_entry.new.self size c.place_entry.ensures)

pub returns-then-not-has_room-clause-answer : goal.returns-then-not-has_room-clause-answer
returns-then-not-has_room-clause-answer g c =
    let old = c.args.self.now in
    let v = data_in c.args.field_type c.args.bytes.now in
    let test =
    data_test old c.file_kind.result c.args.field_type c.args.bytes.now c.from-size.result c.args.end c.file_kind.ensures
    (c.from-size.ensures ∙ c.byte_len.ensures) c.requires.at_end in
    uncaused (λ f. f) (field_cause old v) (placed_field v) (Err OutOfMemory) old old (test
    ∙ c.in_ok-check_field.ensures)
    (wanting (λ f. f) (placed_field v old) OutOfMemory old c.requires.fresh refl tt)
