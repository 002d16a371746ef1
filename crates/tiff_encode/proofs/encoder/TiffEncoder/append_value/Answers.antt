use Rattle.std.proofs.Common.{rules, ℕ, Ok, Err, Result, List, ◌⊎◌, ap, ◌∙◌, subst}
use Rattle.tiff_base.specs.declared.error.TiffError.{TiffError}
use Rattle.tiff_value.specs.Data.{FieldData}
use Rattle.tiff_value.specs.Values.{values_in}
use Rattle.tiff_encode.specs.Calls.{appends}
use Rattle.tiff_encode.specs.Encoder.{AppendIsStopped, AppendIsCut}
use Rattle.tiff_encode.specs.FileWrites.{file_with_bytes}
use Rattle.tiff_encode.proofs.Calling.{data_stopped, data_refused, data_uncaused, appends_done, appends_fails, writable, wants, wanting}
use Rattle.tiff_encode.proofs.encoder.TiffEncoder.append_value.Goals as goal

pub returns-in_err-end : goal.returns-in_err-end
returns-in_err-end g c =
    let told =
    data_stopped (λ n. n) (g.T.TiffValue.field_data c.args.value.now) c.args.self.now c.in_err-end.field-0.0 c.in_err-end.ensures.0 c.in_err-end.ensures.1 in
    search rules

pub returns-in_err-check : goal.returns-in_err-check
returns-in_err-check g c =
    let told =
    data_refused (λ n. n) (g.T.TiffValue.field_data c.args.value.now) c.args.self.now c.in_err-check.field-0.0 c.in_ok-end.ensures.0 c.in_err-check.ensures in
    search rules

pub returns-in_err-data : goal.returns-in_err-data
returns-in_err-data g c =
    let told =
    let old = c.args.self.now in
    let given = g.T.TiffValue.field_data c.args.value.now in
    let e = c.in_err-data.field-0.0 in
    let d = writable given c.in_ok-check.ensures in
    data_uncaused (λ n. n) given d.0 (Err e) old old c.in_ok-end.ensures.0 d.1
    (wanting (λ n. n) (appends d.0.bytes old) e old c.in_ok-end.ensures.0 (wants given e c.in_ok-check.ensures c.in_err-data.ensures) tt) in
    search rules

pub returns : goal.returns
returns g c =
    let old = c.args.self.now in
    let given : Result FieldData TiffError = g.T.TiffValue.field_data c.args.value.now in
    let bytes = c.in_ok-data.data.items in
    let d = values_in g.T.TiffValue.value_type (g.T.TiffValue.value_count c.args.value.now) bytes in
    data_uncaused (λ n. n) given d (Ok c.in_ok-end.end) old c.append.new.self c.in_ok-end.ensures.0 c.in_ok-data.ensures
    (appends_done bytes c.in_ok-end.end old c.append.new.self c.in_ok-end.ensures.1 (c.in_ok-append.ensures.1 ∙ ap (file_with_bytes old) c.deref.ensures.value))

pub returns-in_err-append : goal.returns-in_err-append
returns-in_err-append g c =
    let told =
    let old = c.args.self.now in
    let new = c.append.new.self in
    let given : Result FieldData TiffError = g.T.TiffValue.field_data c.args.value.now in
    let e = c.in_err-append.field-0.0 in
    let bytes = c.in_ok-data.data.items in
    let d = values_in g.T.TiffValue.value_type (g.T.TiffValue.value_count c.args.value.now) bytes in
    data_uncaused (λ n. n) given d (Err e) old new c.in_ok-end.ensures.0 c.in_ok-data.ensures
    (appends_fails bytes e old new c.in_ok-end.ensures.0
    (subst (λ (xs : List ℕ). AppendIsStopped e old new ⊎ AppendIsCut xs e old new) c.deref.ensures.value c.in_err-append.ensures)) in
    search rules
