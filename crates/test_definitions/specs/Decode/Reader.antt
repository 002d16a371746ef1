-- Worked examples of reads of tags: from the page's directory or another one, and numbers as
-- another type.
use Rattle.std.specs.Prelude.{◌≡◌, ℕ, ◌<◌, ◌≤◌, List, [], ◌∷◌, Vec, Option, Some, None, Result, Ok, Err}
use Rattle.std.specs.declared.alloc.Global.{Global}
use Rattle.std.specs.Borrow.{MutBor}
use Rattle.std.specs.FinMap.{empty}
use Rattle.tiff_base.specs.declared.error.TiffError.{TiffError}
use Rattle.tiff_base.specs.declared.error.TiffError.TheVariants.{FormatError, IoError, OutOfMemory}
use Rattle.tiff_base.specs.declared.error.TiffFormatError.TheVariants.{InvalidTagValueType, InvalidTypeForTag, RequiredTagNotFound}
use Rattle.tiff_base.specs.declared.io.IoKind.TheVariants.{Device, UnexpectedEof}
use Rattle.tiff_base.specs.declared.tags.Tag.TheVariants as tag
use Rattle.tiff_base.specs.Field.{DirectoryRecord}
use Rattle.tiff_decode.specs.declared.ifd_decoder.IfdDecoder.{IfdDecoder}
use Rattle.tiff_decode.specs.Machine.{Decoding, stays}
use Rattle.tiff_decode.specs.Reader.{directory_or, reader_of, TagsRead, IsBorrowed, reading, KeepsReading, ReadsTags, IsNumber, NumberAs, NumberIfAs, EachGives, FirstUnfit, NumbersAs, NumbersIfAs}
use Rattle.test_definitions.specs.Decoders.{gray_fields, gray_state, gray_decoder}

-- ---- the directory

-- a directory without fields
abbrev pub bare : DirectoryRecord
bare = record { entries = empty; next = None }

-- the page's directory is used if no other one is given
abbrev pub own_chosen : Type 0
own_chosen = directory_or gray_fields None ≡ gray_fields

-- mistake: `directory_or` takes the page's in every case
abbrev pub other_chosen : Type 0
other_chosen = directory_or gray_fields (Some bare) ≡ bare

-- the decoder itself, and the decoder with the other directory, unchanged in everything else
abbrev pub own_read : Type 0
own_read = reader_of gray_decoder None ≡ gray_decoder

-- mistake: `reader_of` leaves the decoder as it is
abbrev pub other_read : Type 0
other_read =
    reader_of gray_decoder (Some bare)
    ≡ record gray_decoder { state = record gray_state { directory = bare } }

-- ---- reads that move nothing

-- a decoder with this number of failed reads
abbrev pub failed : ℕ → Decoding
failed n = record gray_decoder { failures = n }

-- a read of tags with the defined value 7 returns this result and leaves this decoder
abbrev pub Reads7 : Result ℕ TiffError → Decoding → Decoding → Type 0
Reads7 result old new = TagsRead (Unit {0}) (λ (n : ℕ). n) (stays old (Ok 7)) result old new

-- 7 is returned after an earlier failed read; two failed reads within the call aren't hidden
abbrev pub seven_read : Type 0
seven_read = Reads7 (Ok 7) (failed 1) (failed 1)

-- mistake: `TagsRead` passes over failed reads
abbrev pub failures_swallowed : Type 0
failures_swallowed = Reads7 (Ok 7) (failed 1) (failed 3) → ⊥

-- mistake: `TagsRead` allows any result
abbrev pub eight_read : Type 0
eight_read = Reads7 (Ok 8) (failed 1) (failed 1) → ⊥

-- mistake: `TagsRead` forgets failed reads
-- a failed read isn't forgotten, and the offset isn't moved
abbrev pub failures_forgotten : Type 0
failures_forgotten = Reads7 (Ok 7) (failed 1) (failed 0) → ⊥

-- mistake: `TagsRead` allows the decoder to move
abbrev pub offset_moved : Type 0
offset_moved =
    Reads7 (Ok 7) gray_decoder (record gray_decoder { state = record gray_state { offset = 9 } })
    → ⊥

-- an out-of-memory error; a device error, with a failed read and without one
abbrev pub seven_wanting : Type 0
seven_wanting = Reads7 (Err OutOfMemory) (failed 1) (failed 1)

-- mistake: `TagsRead` allows no read to fail
abbrev pub seven_failed : Type 0
seven_failed = Reads7 (Err (IoError Device)) (failed 1) (failed 2)

-- mistake: `TagsRead` allows a device error without a failed read
abbrev pub seven_not_failed : Type 0
seven_not_failed = Reads7 (Err (IoError Device)) (failed 1) (failed 1) → ⊥

-- a borrow of a decoder is the same one as long as nothing changes
abbrev pub held : Type 0
held = (d : MutBor Decoding) → IsBorrowed d d

-- mistake: `IsBorrowed` allows the decoder to move
-- a borrow isn't the same one if the decoder has another offset or fewer failures
abbrev pub held_moved : Type 0
held_moved = (d e : MutBor Decoding) → d.now.state.offset ≡ 8 → e.now.state.offset ≡ 9
    → IsBorrowed d e → ⊥

-- mistake: `IsBorrowed` forgets failed reads
abbrev pub held_forgotten : Type 0
held_forgotten = (d e : MutBor Decoding) → d.now.failures ≡ 1 → e.now.failures ≡ 0 → IsBorrowed d e
    → ⊥

-- a reader of tags over any source
abbrev pub TagReader : Type 0
TagReader = IfdDecoder (Unit {0})

-- without another directory a tag reader uses its decoder's directory
abbrev pub reading_own : Type 0
reading_own = (r : TagReader) → r.other ≡ None → reading r ≡ r.decoder.now

-- mistake: `KeepsReading` reads another directory afterwards
-- a tag reader doesn't change to another directory, and doesn't hide a failed read
abbrev pub reading_another : Type 0
reading_another = (r s : TagReader) (answer : Result ℕ TiffError) → (s.other ≡ r.other → ⊥)
    → KeepsReading answer r s → ⊥

-- mistake: `KeepsReading` passes over failed reads
abbrev pub reading_counted : Type 0
reading_counted = (r s : TagReader) → KeepsReading {X = ℕ} (Ok 7) r s
    → s.decoder.now.failures ≡ r.decoder.now.failures

-- mistake: `ReadsTags` allows any result
-- a read of tags doesn't return 8 if the value is 7
abbrev pub tags_eight : Type 0
tags_eight = (r s : TagReader)
    → ReadsTags (Unit {0}) (λ (n : ℕ). n) (stays gray_decoder (Ok 7)) (Ok 8) r s → ⊥

-- ---- one number

-- a number as a byte: itself below 256, else an error
abbrev pub byte : ℕ → Result ℕ (Unit {0}) → Type 0
byte n (Ok x) = (x ≡ n) × (n < 256)
byte n (Err fault) = 256 ≤ n

-- errors: the tag's number doesn't fit the type, the tag is missing, or its value isn't numeric
abbrev pub unfit : TiffError
unfit = FormatError (InvalidTagValueType tag.ImageWidth)

abbrev pub missing : TiffError
missing = FormatError (RequiredTagNotFound tag.ImageWidth)

abbrev pub no_number : TiffError
no_number = FormatError InvalidTypeForTag

abbrev pub fits : Type 0
fits = IsNumber byte tag.ImageWidth 255 (Ok 255)

-- 256 doesn't fit into a byte
abbrev pub too_great : Type 0
too_great = IsNumber byte tag.ImageWidth 256 (Err unfit)

-- mistake: `IsNumber` allows any number
-- 256 gives no other number, and the error names this tag and is no other error
abbrev pub cut_off : Type 0
cut_off = IsNumber byte tag.ImageWidth 256 (Ok 0) → ⊥

-- mistake: `IsNumber` allows any error (`other_fault` fails too)
abbrev pub other_tag : Type 0
other_tag =
    IsNumber byte tag.ImageWidth 256 (Err (FormatError (InvalidTagValueType tag.ImageLength))) → ⊥

abbrev pub other_fault : Type 0
other_fault = IsNumber byte tag.ImageWidth 256 (Err no_number) → ⊥

-- mistake: `IsNumber` refuses a number that fits
-- a number that fits isn't refused
abbrev pub fitting_refused : Type 0
fitting_refused = (e : TiffError) → IsNumber byte tag.ImageWidth 255 (Err e) → ⊥

-- a tag's number as a byte, with two failed reads before and this number after
abbrev pub AsByte : ℕ → Result ℕ TiffError → Result ℕ TiffError → Type 0
AsByte after given result = NumberAs byte (Unit {0}) (2 < after) tag.ImageWidth given result

abbrev pub number_fits : Type 0
number_fits = AsByte 2 (Ok 255) (Ok 255)

abbrev pub number_other : Type 0
number_other = AsByte 2 (Ok 255) (Ok 254) → ⊥

abbrev pub number_great : Type 0
number_great = AsByte 2 (Ok 256) (Err unfit)

-- mistake: `NumberAs` doesn't return the value's error
-- an error of the value comes before the test, whatever the type is
abbrev pub number_missing : Type 0
number_missing = AsByte 2 (Err missing) (Err missing)

-- mistake: `NumberAs` allows another error for the value's
abbrev pub number_missing_unfit : Type 0
number_missing_unfit = AsByte 2 (Err missing) (Err unfit) → ⊥

-- mistake: `NumberAs` allows a number where the result is an error
abbrev pub number_missing_given : Type 0
number_missing_given = (n : ℕ) → AsByte 2 (Err missing) (Ok n) → ⊥

-- mistake: `NumberAs` allows no out of memory
-- an out-of-memory error; a device error, with a failed read and without one
abbrev pub number_wanting : Type 0
number_wanting = AsByte 2 (Ok 255) (Err OutOfMemory)

-- no out-of-memory error if none is possible
abbrev pub missing_wanting : Type 0
missing_wanting = NumberAs byte ⊥ (2 < 2) tag.ImageWidth (Err missing) (Err OutOfMemory) → ⊥

abbrev pub number_failed : Type 0
number_failed = AsByte 3 (Ok 255) (Err (IoError Device))

-- mistake: `NumberAs` allows a device error in every case
abbrev pub number_not_failed : Type 0
number_not_failed = AsByte 2 (Ok 255) (Err (IoError Device)) → ⊥

-- the number of an optional tag as a byte, with two failed reads before and this number after
abbrev pub IfByte : ℕ → Result (Option ℕ) TiffError → Result (Option ℕ) TiffError → Type 0
IfByte after given result = NumberIfAs byte (Unit {0}) (2 < after) tag.ImageWidth given result

abbrev pub none_none : Type 0
none_none = IfByte 2 (Ok None) (Ok None)

-- mistake: `NumberIfAs` allows a number where there is none
abbrev pub none_some : Type 0
none_some = (n : ℕ) → IfByte 2 (Ok None) (Ok (Some n)) → ⊥

-- mistake: `NumberIfAs` returns the error of an unfit number where there is none
abbrev pub none_unfit : Type 0
none_unfit = IfByte 2 (Ok None) (Err unfit) → ⊥

abbrev pub some_fits : Type 0
some_fits = IfByte 2 (Ok (Some 255)) (Ok (Some 255))

-- mistake: `NumberIfAs` allows none at any time
abbrev pub some_none : Type 0
some_none = IfByte 2 (Ok (Some 255)) (Ok None) → ⊥

abbrev pub some_great : Type 0
some_great = IfByte 2 (Ok (Some 256)) (Err unfit)

abbrev pub some_great_none : Type 0
some_great_none = IfByte 2 (Ok (Some 256)) (Ok None) → ⊥

-- mistake: `NumberIfAs` doesn't return the value's error
abbrev pub if_no_number : Type 0
if_no_number = IfByte 2 (Err no_number) (Err no_number)

abbrev pub if_no_number_unfit : Type 0
if_no_number_unfit = IfByte 2 (Err no_number) (Err unfit) → ⊥

-- mistake: `NumberIfAs` allows no out of memory
abbrev pub if_wanting : Type 0
if_wanting = IfByte 2 (Ok None) (Err OutOfMemory)

abbrev pub if_failed : Type 0
if_failed = IfByte 3 (Ok None) (Err (IoError Device))

-- mistake: `NumberIfAs` allows a device error in every case
abbrev pub if_not_failed : Type 0
if_not_failed = IfByte 2 (Ok None) (Err (IoError Device)) → ⊥

-- ---- lists of numbers

abbrev pub each_fits : Type 0
each_fits = EachGives byte (7 ∷ 255 ∷ []) (7 ∷ 255 ∷ [])

-- mistake: `EachGives` refuses an empty list for an empty one
abbrev pub each_of_none : Type 0
each_of_none = EachGives byte [] []

-- mistake: `EachGives` allows a shorter one
-- a list that is shorter, longer, in another order, or with a number that doesn't fit, isn't the
-- result
abbrev pub each_fewer : Type 0
each_fewer = EachGives byte (7 ∷ 255 ∷ []) (7 ∷ []) → ⊥

-- mistake: `EachGives` allows a longer list
abbrev pub each_more : Type 0
each_more = EachGives byte (7 ∷ []) (7 ∷ 255 ∷ []) → ⊥

-- mistake: `EachGives` compares all but the first
abbrev pub each_turned : Type 0
each_turned = EachGives byte (7 ∷ 255 ∷ []) (255 ∷ 7 ∷ []) → ⊥

-- mistake: `EachGives` compares the first alone
abbrev pub each_great : Type 0
each_great = EachGives byte (7 ∷ 256 ∷ []) (7 ∷ 256 ∷ []) → ⊥

-- the second of three numbers is the first that doesn't fit
abbrev pub second_unfit : Type 0
second_unfit = FirstUnfit byte tag.ImageWidth (7 ∷ 256 ∷ 300 ∷ []) unfit

-- mistake: `FirstUnfit` doesn't test the numbers before the first
abbrev pub third_later : Type 0
third_later = (u : FirstUnfit byte tag.ImageWidth (7 ∷ 256 ∷ 300 ∷ []) unfit) → u.n ≡ 300 → ⊥

-- mistake: `FirstUnfit` doesn't test the number itself
-- no number is unfit if all fit or the list is empty
abbrev pub none_is_unfit : Type 0
none_is_unfit = (e : TiffError) → FirstUnfit byte tag.ImageWidth (7 ∷ 255 ∷ []) e → ⊥

abbrev pub no_list_unfit : Type 0
no_list_unfit = (e : TiffError) → FirstUnfit byte tag.ImageWidth [] e → ⊥

-- an unfit number gives no other error
abbrev pub unfit_otherwise : Type 0
unfit_otherwise = FirstUnfit byte tag.ImageWidth (256 ∷ []) no_number → ⊥

-- numbers as bytes
abbrev pub AsBytes : List ℕ → Result (Vec ℕ Global) TiffError → Type 0
AsBytes numbers result = NumbersAs byte tag.ImageWidth numbers result

abbrev pub numbers_fit : Type 0
numbers_fit = (v : Vec ℕ Global) → v.items ≡ 7 ∷ 255 ∷ [] → AsBytes (7 ∷ 255 ∷ []) (Ok v)

-- mistake: `NumbersAs` allows any list
abbrev pub numbers_fewer : Type 0
numbers_fewer = (v : Vec ℕ Global) → v.items ≡ 7 ∷ [] → AsBytes (7 ∷ 255 ∷ []) (Ok v) → ⊥

abbrev pub numbers_great : Type 0
numbers_great = AsBytes (7 ∷ 256 ∷ []) (Err unfit)

abbrev pub numbers_refused : Type 0
numbers_refused = AsBytes (7 ∷ 255 ∷ []) (Err unfit) → ⊥

-- mistake: `NumbersAs` allows no out of memory
-- an out-of-memory error for the list; nothing is read
abbrev pub numbers_wanting : Type 0
numbers_wanting = AsBytes (7 ∷ 255 ∷ []) (Err OutOfMemory)

-- mistake: `NumbersAs` allows a device error
abbrev pub numbers_not_failed : Type 0
numbers_not_failed = AsBytes (7 ∷ 255 ∷ []) (Err (IoError Device)) → ⊥

-- the numbers of an optional tag as bytes
abbrev pub IfBytes : ℕ → Result (Option (List ℕ)) TiffError
    → Result (Option (Vec ℕ Global)) TiffError → Type 0
IfBytes after given result = NumbersIfAs byte (Unit {0}) (2 < after) tag.ImageWidth given result

abbrev pub lists_none : Type 0
lists_none = IfBytes 2 (Ok None) (Ok None)

-- mistake: `NumbersIfAs` allows none at any time
abbrev pub list_not_none : Type 0
list_not_none = IfBytes 2 (Ok (Some [])) (Ok None) → ⊥

-- mistake: `NumbersIfAs` allows a list where there is none
abbrev pub list_of_none : Type 0
list_of_none = (v : Vec ℕ Global) → IfBytes 2 (Ok None) (Ok (Some v)) → ⊥

abbrev pub list_fits : Type 0
list_fits = (v : Vec ℕ Global) → v.items ≡ 7 ∷ 255 ∷ []
    → IfBytes 2 (Ok (Some (7 ∷ 255 ∷ []))) (Ok (Some v))

-- mistake: `NumbersIfAs` allows any list
abbrev pub list_fewer : Type 0
list_fewer = (v : Vec ℕ Global) → v.items ≡ 7 ∷ []
    → IfBytes 2 (Ok (Some (7 ∷ 255 ∷ []))) (Ok (Some v)) → ⊥

abbrev pub list_great : Type 0
list_great = IfBytes 2 (Ok (Some (7 ∷ 256 ∷ []))) (Err unfit)

-- mistake: `NumbersIfAs` doesn't return the value's error
-- an error of the value comes before the test
abbrev pub list_cut : Type 0
list_cut = IfBytes 2 (Err (IoError UnexpectedEof)) (Err (IoError UnexpectedEof))

-- mistake: `NumbersIfAs` returns the error of an unfit number before the value's
abbrev pub list_cut_unfit : Type 0
list_cut_unfit = IfBytes 2 (Err (IoError UnexpectedEof)) (Err unfit) → ⊥

-- mistake: `NumbersIfAs` allows no out of memory
abbrev pub list_wanting : Type 0
list_wanting = IfBytes 2 (Ok None) (Err OutOfMemory)

abbrev pub list_failed : Type 0
list_failed = IfBytes 3 (Ok None) (Err (IoError Device))

-- mistake: `NumbersIfAs` allows a device error in every case
abbrev pub list_not_failed : Type 0
list_not_failed = IfBytes 2 (Ok None) (Err (IoError Device)) → ⊥
