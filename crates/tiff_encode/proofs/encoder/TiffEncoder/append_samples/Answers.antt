use Rattle.std.proofs.Common.{rules, ◌++◌, ◌∷◌, [], List, ℕ, length, map, ap, ◌∙◌, subst}
use Rattle.std.specs.Prelude.{◌⊎◌}
use Rattle.tiff_base.specs.Types.{type_size}
use Rattle.tiff_value.specs.ColorType.{sample_number}
use Rattle.tiff_encode.specs.Encoder.{AppendIsStopped, AppendIsCut}
use Rattle.tiff_encode.specs.FileWrites.{file_with_bytes}
use Rattle.tiff_encode.specs.Stored.{unpacked_chunk}
use Rattle.tiff_encode.proofs.Storing.{append_refused, append_cut, append_done}
use Rattle.tiff_encode.proofs.encoder.TiffEncoder.append_samples.Goals as goal

pub returns-in_err-offset : goal.returns-in_err-offset
returns-in_err-offset g c =
    let told =
    let i = c.args.image.now in
    let numbers = map (sample_number (type_size g.T.TiffValue.value_type) g.T.Sample.bits) c.args.samples.now in
    append_refused c.args.self.now i (length c.args.samples.now) (unpacked_chunk i numbers) c.in_ok-bytes.bytes c.in_err-offset.field-0.0
    (c.in_ok-bytes.ensures.0 ∙ c.sample_rows-rows.ensures.len) c.in_err-offset.ensures in
    search rules

pub returns-in_err-append_rows : goal.returns-in_err-append_rows
returns-in_err-append_rows g c =
    let told =
    let i = c.args.image.now in
    let old = c.args.self.now in
    let new = c.append_rows.new.self in
    let e = c.in_err-append_rows.field-0.0 in
    let numbers = map (sample_number (type_size g.T.TiffValue.value_type) g.T.Sample.bits) c.args.samples.now in
    let chunks = c.in-Ok.ensures.items ∙ ap (λ i. i.chunks) c.image.view_is in
    append_cut old i (length c.args.samples.now) (unpacked_chunk i numbers) c.in_ok-bytes.bytes e new _
    (c.in_ok-bytes.ensures.0 ∙ c.sample_rows-rows.ensures.len) c.in_ok-offset.ensures.0 c.in_ok-offset.ensures.2
    (subst (λ (xs : List ℕ). AppendIsStopped e old new
    ⊎ AppendIsCut xs e old new) c.sample_rows-rows.ensures.bytes c.in_err-append_rows.ensures)
    (λ j. record (c.image.view_is j) { chunks = chunks j }) in
    search rules

pub returns : goal.returns
returns g c =
    let i = c.args.image.now in
    let numbers = map (sample_number (type_size g.T.TiffValue.value_type) g.T.Sample.bits) c.args.samples.now in
    let many = c.in_ok-bytes.ensures.0 ∙ c.sample_rows-rows.ensures.len in
    let before = c.in-Ok.ensures.items ∙ ap (λ i. i.chunks) c.image.view_is in
    let chunks =
    c.push_reserved.ensures.items
    ∙ (λ j. before j ++ (record { offset = c.in_ok-offset.offset; stored = many j }) ∷ []) in
    append_done c.args.self.now i (length c.args.samples.now) (unpacked_chunk i numbers) c.in_ok-bytes.bytes c.in_ok-offset.offset c.append_rows.new.self _ many
    c.in_ok-offset.ensures.2 c.in_ok-offset.ensures.1 (c.in_ok-append_rows.ensures.1
    ∙ ap (file_with_bytes c.args.self.now) c.sample_rows-rows.ensures.bytes)
    (λ j. record (c.image.view_is j) { chunks = chunks j })
