-- The items of a directory's tags, one by one (this project's).
use Rattle.std.specs.Prelude.{◌≡◌, ℕ, List, [], ◌∷◌, Option, None, Some, Result, Ok, map, option_map}
use Rattle.std.specs.Borrow.{Bor, MutBor}
use Rattle.std.specs.FinMap.{entries}
use Rattle.tiff_base.specs.declared.error.TiffError.{TiffError}
use Rattle.tiff_base.specs.declared.tags.ByteOrder.{ByteOrder}
use Rattle.tiff_base.specs.declared.tags.FileKind.{FileKind}
use Rattle.tiff_base.specs.declared.tags.Tag.{Tag}
use Rattle.tiff_base.specs.Answers.{◌>>=◌}
use Rattle.tiff_base.specs.Directory.{fields_after}
use Rattle.tiff_base.specs.Field.{Field, DirectoryRecord}
use Rattle.tiff_base.specs.Tags.{tag_of}
use Rattle.tiff_ifd.specs.PlainValue.{PlainValue}
use Rattle.tiff_ifd.specs.FieldValue.{field_value}
use Rattle.tiff_ifd.specs.declared.limits.Limits.{Limits}
use Rattle.tiff_ifd.specs.declared.value.Value.{Value}
use Rattle.tiff_decode.specs.Machine.{Decoding}
use Rattle.tiff_decode.specs.Reader.{reader_of}
use Rattle.tiff_decode.specs.Step.{ItemIs}

-- the fields after a tag number, or all fields
abbrev pub fields_left : Option ℕ → List (ℕ × Field) → List (ℕ × Field)
fields_left None fields = fields
fields_left (Some n) fields = fields_after n fields

-- the item of a field: its tag and value, or the error of its value
abbrev pub item_of : FileKind → ByteOrder → List ℕ → Limits → ℕ × Field
    → Result (Tag × PlainValue) TiffError
item_of kind order bytes limits e = field_value kind order bytes limits e.1 >>= λ value.
    Ok (tag_of e.0, value)

-- the items of the directory's fields after a tag number, or of all its fields
abbrev pub items_left : Decoding → Option ℕ → List (Result (Tag × PlainValue) TiffError)
items_left d last =
    map (item_of d.kind d.order d.bytes d.state.limits)
    (fields_left last (entries d.state.directory.entries))

-- the items left of the tags that a borrowed decoder reads, of its page's directory or of another
-- directory
abbrev pub tags_left : MutBor Decoding → Option (Bor DirectoryRecord) → Option ℕ
    → List (Result (Tag × PlainValue) TiffError)
tags_left decoder other last =
    items_left (reader_of decoder.now (option_map (λ d. d.now) other)) last

-- The next item, the items left after it, and the counts of failed reads before and after it. At
-- the end no item is left, and the call reads nothing.
abbrev pub NextItem : List (Result (Tag × PlainValue) TiffError)
    → Option (Result (Tag × Value) TiffError) → List (Result (Tag × PlainValue) TiffError) → ℕ → ℕ
    → Type 0
NextItem given None left before after = (given ≡ []) × (left ≡ []) × (after ≡ before)
NextItem given (Some item) left before after = (g : Result (Tag × PlainValue) TiffError)
    × (given ≡ g ∷ left) × ItemIs g item before after
