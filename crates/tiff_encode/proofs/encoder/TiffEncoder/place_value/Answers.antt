use Rattle.std.proofs.Common.{rules, ℕ, ◌≡◌, Ok, Err, Result, List, refl, sym, ◌∙◌}
use Rattle.tiff_base.specs.declared.tags.«Type».{«Type»}
use Rattle.tiff_base.specs.declared.error.TiffError.{TiffError}
use Rattle.tiff_base.specs.declared.error.TiffError.TheVariants.{OutOfMemory}
use Rattle.tiff_value.specs.Data.{FieldData}
use Rattle.tiff_value.specs.Values.{values_in}
use Rattle.tiff_encode.specs.Calls.{placed_field}
use Rattle.tiff_encode.proofs.Calling.{entry_stopped, entry_refused, entry_caused, entry_uncaused, placed_ends, writable, wants, wanting, value_test}
use Rattle.tiff_encode.proofs.encoder.TiffEncoder.place_value.Goals as goal

pub returns-in_err-end-clause-answer : goal.returns-in_err-end-clause-answer
returns-in_err-end-clause-answer g c =
    let told =
    entry_stopped (λ f. f) (g.T.TiffValue.field_data c.args.value.now) c.args.self.now c.in_err-end.field-0.0 c.in_err-end.ensures.0 c.in_err-end.ensures.1 in
    search rules

pub returns-in_err-check-clause-answer : goal.returns-in_err-check-clause-answer
returns-in_err-check-clause-answer g c =
    let told =
    entry_refused (λ f. f) (g.T.TiffValue.field_data c.args.value.now) c.args.self.now c.in_err-check.field-0.0 c.in_ok-end.ensures.0 c.in_err-check.ensures in
    search rules

pub returns-in_err-check_field-clause-answer : goal.returns-in_err-check_field-clause-answer
returns-in_err-check_field-clause-answer g c =
    let told =
    let given = g.T.TiffValue.field_data c.args.value.now in
    let d = writable given c.in_ok-check.ensures in
    entry_caused (λ f. f) given d.0 c.args.self.now c.in_err-check_field.field-0.0 c.in_ok-end.ensures.0 d.1
    (sym (value_test c.args.self.now given d.0 d.1 g.T.TiffValue.value_type (g.T.TiffValue.value_count c.args.value.now) (g.met.T.TiffValue.sized c.args.value.now) c.file_kind.ensures c.in_ok-end.ensures.1 c.count-count.ensures c.bytes.ensures)
    ∙ c.in_err-check_field.ensures) in
    search rules

pub returns-in_err-data-clause-answer : goal.returns-in_err-data-clause-answer
returns-in_err-data-clause-answer g c =
    let told =
    let old = c.args.self.now in
    let given = g.T.TiffValue.field_data c.args.value.now in
    let e = c.in_err-data.field-0.0 in
    let d = writable given c.in_ok-check.ensures in
    entry_uncaused (λ f. f) given d.0 (Err e) old old c.in_ok-end.ensures.0 d.1
    (sym (value_test old given d.0 d.1 g.T.TiffValue.value_type (g.T.TiffValue.value_count c.args.value.now) (g.met.T.TiffValue.sized c.args.value.now) c.file_kind.ensures c.in_ok-end.ensures.1 c.count-count.ensures c.bytes.ensures)
    ∙ c.in_ok-check_field.ensures)
    (wanting (λ f. f) (placed_field d.0 old) e old c.in_ok-end.ensures.0 (wants given e c.in_ok-check.ensures c.in_err-data.ensures) tt) in
    search rules

-- the data made for the field are those that the field has
made : (given : Result FieldData TiffError) (type field_type : «Type») (count n : ℕ) (items now : List ℕ)
    → given ≡ Ok (values_in type count items) → field_type ≡ type → n ≡ count → now ≡ items
    → given ≡ Ok (record { field_type = field_type; count = n; bytes = now })
made given type field_type count n items now h t c b =
    h ∙ sym (λ i. Ok (record { field_type = t i; count = c i; bytes = b i }))

pub returns-clause-answer : goal.returns-clause-answer
returns-clause-answer g c =
    let old = c.args.self.now in
    let given = g.T.TiffValue.field_data c.args.value.now in
    let v : FieldData =
    record { field_type = c.type_and_len-field_type.result.0; count = c.count-count.result; bytes = c.deref.result.now } in
    let is_v =
    made given g.T.TiffValue.value_type c.type_and_len-field_type.result.0 (g.T.TiffValue.value_count c.args.value.now) c.count-count.result c.in_ok-data.data.items c.deref.result.now
    c.in_ok-data.ensures c.type_and_len-field_type.ensures.kind c.count-count.ensures c.deref.ensures.value in
    entry_uncaused (λ f. f) given v c.place_entry.result old c.place_entry.new.self c.in_ok-end.ensures.0 is_v
    (sym (value_test old given v is_v g.T.TiffValue.value_type (g.T.TiffValue.value_count c.args.value.now) (g.met.T.TiffValue.sized c.args.value.now) c.file_kind.ensures c.in_ok-end.ensures.1 c.count-count.ensures c.bytes.ensures)
    ∙ c.in_ok-check_field.ensures)
    (placed_ends v c.place_entry.result old c.place_entry.new.self c.place_entry.ensures)

pub returns-then-not-has_room-clause-answer : goal.returns-then-not-has_room-clause-answer
returns-then-not-has_room-clause-answer g c =
    let old = c.args.self.now in
    let given = g.T.TiffValue.field_data c.args.value.now in
    let d = writable given c.in_ok-check.ensures in
    entry_uncaused (λ f. f) given d.0 (Err OutOfMemory) old old c.in_ok-end.ensures.0 d.1
    (sym (value_test old given d.0 d.1 g.T.TiffValue.value_type (g.T.TiffValue.value_count c.args.value.now) (g.met.T.TiffValue.sized c.args.value.now) c.file_kind.ensures c.in_ok-end.ensures.1 c.count-count.ensures c.bytes.ensures)
    ∙ c.in_ok-check_field.ensures)
    (wanting (λ f. f) (placed_field d.0 old) OutOfMemory old c.in_ok-end.ensures.0 refl tt)
