use Rattle.std.proofs.Common.{◌<◌, Bor, Err, Ok, Option, Result, option_map, rules, subst}
use Rattle.std.specs.FinMap.{get}
use Rattle.tiff_base.specs.Answers.{AnswersBut}
use Rattle.tiff_base.specs.Tags.{tag_number}
use Rattle.tiff_base.specs.Field.{DirectoryRecord, Field}
use Rattle.tiff_base.specs.declared.error.TiffError.{TiffError}
use Rattle.tiff_base.specs.lemmas.Causes.{cause_along}
use Rattle.tiff_ifd.specs.FieldValue.{WantsFound}
use Rattle.tiff_ifd.specs.PlainValue.{PlainValue}
use Rattle.tiff_ifd.specs.View.{plain_value}
use Rattle.tiff_ifd.specs.TagLookup.{look_in}
use Rattle.tiff_ifd.specs.lemmas.Within.{look_within}
use Rattle.tiff_page.specs.PageView as view
use Rattle.tiff_decode.specs.Machine.{Decoding, decoding, from_fields}
use Rattle.tiff_decode.specs.Outcome.{WantsTag, find_tag}
use Rattle.tiff_decode.specs.Reader.{directory_or, reader_of, TagsRead}
use Rattle.tiff_decode.proofs.decoder.Decoder.value_in.Goals as goal

-- an answer that may be out of memory where more is wanted
more_wanted : {X Y : Type 0} (wanting wanting' failed : Type 0) (view : X → Y)
    (r : Result X TiffError) (given : Result Y TiffError) → (wanting → wanting')
    → AnswersBut wanting failed view r given → AnswersBut wanting' failed view r given
more_wanted wanting wanting' failed view (Ok x) given w h = h
more_wanted wanting wanting' failed view (Err e) given w h = cause_along e w (λ f. f) (λ g. g) h

pub returns-clause-read : goal.returns-clause-read
unfolding find_tag look_in
returns-clause-read g c =
    let s = c.self.inside in
    let d = from_fields g.R.Source.contents g.R.Source.failures s.tags s.first s.standing.pointer s.standing.more s.page s.offset in
    let other = option_map (λ (x : Bor DirectoryRecord). x.now) c.args.other in
    let new : Decoding =
    decoding (g.R.Source.contents c.find_value.new.source) s.tags.kind s.tags.order s.first
    (g.R.Source.failures c.find_value.new.source) s.standing.pointer s.standing.more
    (view.page s.page) s.tags.directory s.offset s.tags.limits in
    let value : DirectoryRecord → Result (Option PlainValue) TiffError =
    λ x. (look_in s.tags.kind s.tags.order (g.R.Source.contents s.tags.source).bytes s.tags.limits x.entries).value c.args.tag in
    let field : DirectoryRecord → Option Field = λ x. get x.entries (tag_number c.args.tag) in
    let found =
    subst (λ (x : DirectoryRecord). AnswersBut (WantsFound s.tags.kind (field x) (value x)) (d.failures < new.failures) (option_map plain_value) c.find_value.result (value x))
    c.chosen-directory.ensures c.find_value.ensures.answer in
    subst (λ (x : Decoding). TagsRead (WantsTag (reader_of x other) c.args.tag) (option_map plain_value) (find_tag (reader_of x other) c.args.tag) c.find_value.result x new)
    c.self.view_is (record {
      answer = more_wanted _ _ _ (option_map plain_value) c.find_value.result _ (look_within s.tags.kind _ (field (directory_or s.tags.directory other))) found;
      state = search rules;
      failures = search rules;
      swallowed = search rules;
    })
