use Rattle.std.proofs.Common.{◌≡◌, ◌∙◌, Ok, Err, ℕ, Result, ap, rules, sym}
use Rattle.std.proofs.lemmas.List.{map-id}
use Rattle.std.specs.Result.{IsOkAnd, MatchResult}
use Rattle.tiff_base.specs.declared.error.TiffError.{TiffError}
use Rattle.tiff_base.specs.Answers.{Answers}
use Rattle.tiff_page.specs.Image.{Decoded}
use Rattle.tiff_page.specs.Samples.{samples_as}
use Rattle.tiff_page.specs.declared.samples.Samples.{Samples}
use Rattle.tiff_page.proofs.page_reader.PageReader.read_samples.Goals as goal

abbrev good : {X : Type 0} → X → Result X TiffError
good x = Ok x

-- numbers that were read, as samples of their type
as_samples : {X : Type 0} (r : Result X TiffError) (s : Result Samples TiffError)
    (given : Result Decoded TiffError) (view : X → Decoded) (made : X → Samples → Type 0) (before after : ℕ)
    → MatchResult r (λ x. IsOkAnd s (made x)) (λ e. s ≡ Err e)
    → ((x : X) (y : Samples) → made x y → samples_as y ≡ view x)
    → Answers view r given before after → Answers samples_as s given before after
as_samples (Ok x) (Ok y) given view made before after m seen a = a ∙ ap good (sym (seen x y m))
as_samples (Ok x) (Err e) given view made before after m seen a = absurd m
as_samples (Err e) s given view made before after m seen a = rw m a

pub returns-in-U8-clause-answer : goal.returns-in-U8-clause-answer
returns-in-U8-clause-answer g c =
    as_samples c.read_bytes.result c.map.result _ _ _ _ _ c.map.ensures.cases
    (λ x y l. search (rules, l, c.in-U8.is, map-id)) c.read_bytes.ensures.answer

pub returns-in-U16-clause-answer : goal.returns-in-U16-clause-answer
returns-in-U16-clause-answer g c =
    as_samples c.read_as.result c.map-in-U16.result _ _ _ _ _ c.map-in-U16.ensures.cases
    (λ x y l. search (rules, l, c.in-U16.is, map-id)) c.read_as.ensures.answer

pub returns-in-U32-clause-answer : goal.returns-in-U32-clause-answer
returns-in-U32-clause-answer g c =
    as_samples c.read_as-in-U32.result c.map-in-U32.result _ _ _ _ _ c.map-in-U32.ensures.cases
    (λ x y l. search (rules, l, c.in-U32.is, map-id)) c.read_as-in-U32.ensures.answer

pub returns-in-U64-clause-answer : goal.returns-in-U64-clause-answer
returns-in-U64-clause-answer g c =
    as_samples c.read_as-in-U64.result c.map-in-U64.result _ _ _ _ _ c.map-in-U64.ensures.cases
    (λ x y l. search (rules, l, c.in-U64.is, map-id)) c.read_as-in-U64.ensures.answer

pub returns-in-F16-clause-answer : goal.returns-in-F16-clause-answer
returns-in-F16-clause-answer g c =
    as_samples c.read_as-in-F16.result c.map-in-F16.result _ _ _ _ _ c.map-in-F16.ensures.cases
    (λ x y l. search (rules, l, c.in-F16.is, map-id)) c.read_as-in-F16.ensures.answer

pub returns-in-F32-clause-answer : goal.returns-in-F32-clause-answer
returns-in-F32-clause-answer g c =
    as_samples c.read_as-in-F32.result c.map-in-F32.result _ _ _ _ _ c.map-in-F32.ensures.cases
    (λ x y l. search (rules, l, c.in-F32.is, map-id)) c.read_as-in-F32.ensures.answer

pub returns-in-F64-clause-answer : goal.returns-in-F64-clause-answer
returns-in-F64-clause-answer g c =
    as_samples c.read_as-in-F64.result c.map-in-F64.result _ _ _ _ _ c.map-in-F64.ensures.cases
    (λ x y l. search (rules, l, c.in-F64.is, map-id)) c.read_as-in-F64.ensures.answer

pub returns-in-I8-clause-answer : goal.returns-in-I8-clause-answer
returns-in-I8-clause-answer g c =
    as_samples c.read_as-in-I8.result c.map-in-I8.result _ _ _ _ _ c.map-in-I8.ensures.cases
    (λ x y l. search (rules, l, c.in-I8.is, map-id)) c.read_as-in-I8.ensures.answer

pub returns-in-I16-clause-answer : goal.returns-in-I16-clause-answer
returns-in-I16-clause-answer g c =
    as_samples c.read_as-in-I16.result c.map-in-I16.result _ _ _ _ _ c.map-in-I16.ensures.cases
    (λ x y l. search (rules, l, c.in-I16.is, map-id)) c.read_as-in-I16.ensures.answer

pub returns-in-I32-clause-answer : goal.returns-in-I32-clause-answer
returns-in-I32-clause-answer g c =
    as_samples c.read_as-in-I32.result c.map-in-I32.result _ _ _ _ _ c.map-in-I32.ensures.cases
    (λ x y l. search (rules, l, c.in-I32.is, map-id)) c.read_as-in-I32.ensures.answer

pub returns-in-I64-clause-answer : goal.returns-in-I64-clause-answer
returns-in-I64-clause-answer g c =
    as_samples c.read_as-in-I64.result c.map-in-I64.result _ _ _ _ _ c.map-in-I64.ensures.cases
    (λ x y l. search (rules, l, c.in-I64.is, map-id)) c.read_as-in-I64.ensures.answer
