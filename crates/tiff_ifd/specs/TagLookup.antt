-- Looks up the tags of a directory.
use Rattle.std.specs.Prelude.{ℕ, ◌<◌, Bool, List, Option, Some, None, Result, Ok, Err, unwrap_or}
use Rattle.std.specs.FinMap.{FinMap, get, contains_key}
use Rattle.std.specs.Ordering.{nat_cmp}
use Rattle.tiff_base.specs.declared.error.TiffError.{TiffError}
use Rattle.tiff_base.specs.declared.error.TiffError.TheVariants.{FormatError}
use Rattle.tiff_base.specs.declared.error.TiffFormatError.TheVariants.{RequiredTagNotFound}
use Rattle.tiff_base.specs.declared.tags.ByteOrder.{ByteOrder}
use Rattle.tiff_base.specs.declared.tags.FileKind.{FileKind}
use Rattle.tiff_base.specs.declared.tags.Tag.{Tag}
use Rattle.tiff_base.specs.Answers.{AnswersBut, ReadsOnly, ◌>>=◌}
use Rattle.tiff_base.specs.Sparing.{IsFoundWithin}
use Rattle.tiff_base.specs.Field.{Field, DirectoryRecord}
use Rattle.tiff_base.specs.SourceAndSink.{SourceRecord}
use Rattle.tiff_base.specs.Tags.{tag_number}
use Rattle.tiff_ifd.specs.declared.limits.Limits.{Limits}
use Rattle.tiff_ifd.specs.PlainValue.{PlainValue}
use Rattle.tiff_ifd.specs.FieldValue.{field_value}
use Rattle.tiff_ifd.specs.Stretches.{TagReadable}

-- the tags that a directory has, and the value of each
pub record TagLookup : Type 0 where
  pub has : Tag → Bool
  pub value : Tag → Result (Option PlainValue) TiffError

-- what is known of a directory's tags: the look-up, the source, the kind and the byte order of the
-- file, the directory, and the limits
pub record DirectoryTags : Type 0 where
  pub look : TagLookup
  pub source : SourceRecord
  pub kind : FileKind
  pub order : ByteOrder
  pub directory : DirectoryRecord
  pub limits : Limits

-- The source can read the values of a tag, if its directory has the tag.
abbrev pub ValueReadable : DirectoryTags → Tag → Type 0
ValueReadable tags tag = TagReadable tags.source tags.kind tags.order tags.directory tag

-- Outside the directory, the call reads only the values of the tag.
abbrev pub AsksForTag : {X : Type 0} → DirectoryTags → Tag → Result X TiffError → Type 0
AsksForTag tags tag result = ReadsOnly (ValueReadable tags tag) result

-- the result of a further step on a value, where there is one
abbrev pub if_found : {A B : Type 0} → (A → Result B TiffError) → Option A
    → Result (Option B) TiffError
if_found read None = Ok None
if_found read (Some x) = do
  y ← read x
  Ok (Some y)

-- the look-up in the fields of a directory, with this function to read values
abbrev pub look_up_in : (Field → Result PlainValue TiffError) → FinMap nat_cmp Field → TagLookup
look_up_in value fields = record {
  has = λ tag. contains_key fields (tag_number tag);
  value = λ tag. if_found value (get fields (tag_number tag));
}

-- the tags of a file's directory
unfoldable pub look_in : FileKind → ByteOrder → List ℕ → Limits → FinMap nat_cmp Field → TagLookup
look_in kind order bytes limits fields = look_up_in (field_value kind order bytes limits) fields

-- the converted value of a tag, if the directory has the tag
unfoldable pub find : {A : Type 0} → (PlainValue → Result A TiffError) → TagLookup → Tag
    → Result (Option A) TiffError
find into look tag = do
  found ← look.value tag
  if_found into found

-- the converted value of a tag, or `otherwise` where the directory does not have the tag
abbrev pub find_or : {A : Type 0} → (PlainValue → Result A TiffError) → TagLookup → Tag → A
    → Result A TiffError
find_or into look tag otherwise = do
  found ← find into look tag
  Ok (unwrap_or found otherwise)

-- a required value, or the error where it is missing
abbrev pub ok_or_fault : {A : Type 0} → Option A → TiffError → Result A TiffError
ok_or_fault None fault = Err fault
ok_or_fault (Some x) fault = Ok x

-- the converted value of a required tag
unfoldable pub require : {A : Type 0} → (PlainValue → Result A TiffError) → TagLookup → Tag
    → Result A TiffError
require into look tag = do
  found ← find into look tag
  ok_or_fault found (FormatError (RequiredTagNotFound tag))

-- The result of a call that looks up a tag and converts its value. The call may also fail because
-- of the source device, or run out of memory where the tag is found within the limits and the
-- source.
abbrev pub AnswersFound : {X Y : Type 0} → (X → Y) → Result X TiffError → Result Y TiffError
    → TagLookup → Tag → ℕ → ℕ → Type 0
AnswersFound view result given look tag before after =
    AnswersBut (IsFoundWithin (look.value tag)) (before < after) view result given
