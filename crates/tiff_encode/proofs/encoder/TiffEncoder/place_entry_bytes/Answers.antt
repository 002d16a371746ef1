use Rattle.std.proofs.Common.{rules, length, ap, sym, ◌∙◌}
use Rattle.std.specs.Prelude.{◌%◌, ◌==◌}
use Rattle.std.proofs.lemmas.Bool.{ne_eqb}
use Rattle.tiff_base.specs.Types.{type_size}
use Rattle.tiff_encode.proofs.Calling.{bytes_stopped, bytes_refused, bytes_ends}
use Rattle.tiff_encode.proofs.encoder.TiffEncoder.place_entry_bytes.Goals as goal

pub returns-in_err-end-clause-answer : goal.returns-in_err-end-clause-answer
returns-in_err-end-clause-answer g c =
    let told =
    bytes_stopped (λ f. f) c.args.field_type c.args.bytes.now c.args.self.now c.in_err-end.field-0.0 c.in_err-end.ensures.0 c.in_err-end.ensures.1 in
    search rules

pub returns-then-found-from-ne0-clause-answer : goal.returns-then-found-from-ne0-clause-answer
returns-then-found-from-ne0-clause-answer g c =
    let rest = ap (λ s. length c.args.bytes.now % s) (c.from.ensures ∙ c.byte_len.ensures) in
    bytes_refused (λ f. f) c.args.field_type c.args.bytes.now c.args.self.now c.in_ok-end.ensures.0
    (ne_eqb (length c.args.bytes.now % type_size c.args.field_type) 0 (λ e. c.if-found-from-ne0.true (rest ∙ e)))

pub returns-clause-answer : goal.returns-clause-answer
returns-clause-answer g c =
    let rest = ap (λ s. length c.args.bytes.now % s) (c.from.ensures ∙ c.byte_len.ensures) in
    bytes_ends (λ f. f) c.args.field_type c.args.bytes.now c.place_data.result c.args.self.now c.place_data.new.self c.in_ok-end.ensures.0
    (ap (λ x. x == 0) (sym rest ∙ c.if-found-from-ne0.false)) c.place_data.ensures.answer
