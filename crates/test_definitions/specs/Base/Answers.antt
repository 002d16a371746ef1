-- Worked examples of what a call may return, what it leaves of a source, and what a writer does.
use Rattle.std.specs.Prelude.{◌≡◌, ℕ, List, [], ◌∷◌, Some, None, Result, Ok, Err}
use Rattle.std.specs.FinMap.{empty, insert}
use Rattle.tiff_base.specs.declared.error.TiffError.{TiffError}
use Rattle.tiff_base.specs.declared.error.TiffError.TheVariants.{IoError, UsageError, LimitsExceeded, IntSizeError, OutOfMemory}
use Rattle.tiff_base.specs.declared.error.UsageError.TheVariants.{WriterFailed}
use Rattle.tiff_base.specs.declared.io.IoKind.TheVariants.{UnexpectedEof, Device}
use Rattle.tiff_base.specs.declared.io.SinkFault.TheVariants as fault
use Rattle.tiff_base.specs.declared.tags.CompressionMethod.TheVariants as method
use Rattle.tiff_base.specs.declared.tags.PhotometricInterpretation.TheVariants as meaning
use Rattle.tiff_base.specs.declared.tags.ResolutionUnit.TheVariants as unit
use Rattle.tiff_base.specs.declared.tags.SampleFormat.TheVariants as format
use Rattle.tiff_base.specs.declared.tags.Tag.TheVariants as tag
use Rattle.tiff_base.specs.Answers.{ReadsOnly, Answers, AnswersWithoutMemory, AnswersWithoutSource, Gives, IsKept, FailsFrom}
use Rattle.tiff_base.specs.declared.tags.«Type».TheVariants.{SHORT}
use Rattle.tiff_base.specs.Field.{Field, In, IsEntry, AreEntries}
use Rattle.tiff_base.specs.SourceAndSink.{sink_error}
use Rattle.tiff_base.specs.Tags.{named_tag, named_method, named_format, unit_of}
use Rattle.tiff_value.specs.ColorType.{ColorTypeRecord, IsColorType}
use Rattle.tiff_value.specs.Written.{Written, new_writer, writer_after, writer_after_counted, SinkFails, IsStopped, IsCut, WritesRaw, WritesCounted}

abbrev pub Never : Type 0 → Type 0
Never A = A → ⊥

-- ---- what a call may return

-- a call that returns the number itself
abbrev pub same : ℕ → ℕ
same n = n

-- the defined result may be returned, and no other one
abbrev pub given : Type 0
given = Answers same (Ok 1) (Ok 1) 0 0

-- mistake: `AnswersBut` allows any result
abbrev pub another : Type 0
another = Never (Answers same (Ok 1) (Ok 2) 0 0)

-- the defined error may be returned, and no other one
abbrev pub fault_given : Type 0
fault_given = Gives same (Err IntSizeError) (Err IntSizeError)

-- mistake: `AnswersBut` allows any error
abbrev pub fault_another : Type 0
fault_another = Never (Answers same (Err IntSizeError) (Err LimitsExceeded) 0 0)

abbrev pub fault_for_none : Type 0
fault_for_none = Never (Answers same (Err LimitsExceeded) (Ok 1) 0 0)

-- an out-of-memory error may be returned, but not by a call that allocates nothing
abbrev pub wanting : Type 0
wanting = Answers same (Err OutOfMemory) (Ok 1) 0 0
    × AnswersWithoutSource same (Err OutOfMemory) (Err IntSizeError)

-- mistake: `IsCause` allows out of memory in every case
-- mistake: `AnswersWithoutMemory` allows out of memory
-- mistake: `Gives` allows out of memory
abbrev pub not_wanting : Type 0
not_wanting = Never (AnswersWithoutMemory same (Err OutOfMemory) (Ok 1) 0 0)
    × Never (Gives same (Err OutOfMemory) (Ok 1))

-- a device error, with a failed read and without one, and from a call that reads nothing
abbrev pub failed : Type 0
failed = AnswersWithoutMemory same (Err (IoError Device)) (Ok 1) 0 1

-- mistake: `IsCause` allows the device error in every case
-- mistake: `Answers` allows a device error if the count didn't grow
-- mistake: `AnswersWithoutSource` allows a device error
abbrev pub not_failed : Type 0
not_failed =
    Never (Answers same (Err (IoError Device)) (Ok 1) 1 1)
    × Never (AnswersWithoutSource same (Err (IoError Device)) (Ok 1))

-- the end of the source is an error like others: it doesn't replace the defined result
abbrev pub end_given : Type 0
end_given = Never (Answers same (Err (IoError UnexpectedEof)) (Ok 1) 0 1)

-- ---- what a call leaves of a source with bytes and a count of failures

abbrev pub bytes_of : ℕ × ℕ → ℕ
bytes_of s = s.0

abbrev pub failures_of : ℕ × ℕ → ℕ
failures_of s = s.1

-- a result, and errors of the device, of the source's end and of memory
abbrev pub answered : Result ℕ TiffError
answered = Ok 1

abbrev pub device_failed : Result ℕ TiffError
device_failed = Err (IoError Device)

abbrev pub ended : Result ℕ TiffError
ended = Err (IoError UnexpectedEof)

abbrev pub memory_wanted : Result ℕ TiffError
memory_wanted = Err OutOfMemory

-- mistake: `IsKept` allows fewer failures
abbrev pub kept : Type 0
kept = IsKept bytes_of failures_of answered (7, 1) (7, 1)
    × IsKept bytes_of failures_of device_failed (7, 1) (7, 2)

-- mistake: `IsKept` allows other bytes
-- a source isn't kept if its bytes change or a failure is forgotten
abbrev pub not_kept : Type 0
not_kept = Never (IsKept bytes_of failures_of answered (7, 1) (8, 1))
    × Never (IsKept bytes_of failures_of device_failed (7, 1) (7, 0))

-- mistake: `IsKept` allows a failed read with an `Ok`, with the end of the source or with out of
--   memory
-- a failed read must be returned as a device error
abbrev pub swallowed : Type 0
swallowed =
    Never (IsKept bytes_of failures_of answered (7, 1) (7, 2))
    × Never (IsKept bytes_of failures_of ended (7, 1) (7, 2))
    × Never (IsKept bytes_of failures_of memory_wanted (7, 1) (7, 2))

-- mistake: `ReadsOnly` refuses another error
-- a call whose bytes are readable may return other errors, and else a device error too
abbrev pub asks : Type 0
asks = ReadsOnly (Unit {0}) ended × ReadsOnly (Unit {0}) memory_wanted × ReadsOnly ⊥ device_failed

-- mistake: `ReadsOnly` allows a device error if the bytes can be read
-- a call whose bytes are readable doesn't return a device error
abbrev pub asks_not : Type 0
asks_not = Never (ReadsOnly (Unit {0}) device_failed)

-- a source that can fail, and a source that can't
abbrev pub fails_from : Type 0
fails_from = FailsFrom bytes_of failures_of (7, 1)

-- mistake: `FailsFrom` allows as many failures
abbrev pub never_fails : Type 0
never_fails = Never (FailsFrom bytes_of (λ (s : ℕ × ℕ). 3) (7, 1))

-- mistake: `FailsFrom` allows other bytes
-- if failures are the bytes themselves, they can't rise while the bytes stay
abbrev pub fails_elsewhere : Type 0
fails_elsewhere = Never (FailsFrom bytes_of bytes_of (7, 1))

-- ---- what a sink and an in-memory directory contain

-- mistake: `sink_error` exchanges the two errors
-- the errors for the failures of a sink
abbrev pub sink_errors : Type 0
sink_errors = (sink_error fault.Device ≡ IoError Device)
    × (sink_error fault.OutOfMemory ≡ OutOfMemory)

-- a field with this number of SHORTs and this value field
abbrev pub shorts : ℕ → List ℕ → Field
shorts count value = record { field_type = SHORT; count = count; value = value }

abbrev pub ones : List ℕ
ones = 1 ∷ 1 ∷ 1 ∷ 1 ∷ 1 ∷ 1 ∷ 1 ∷ 1 ∷ []

-- an entry with the last tag number and the largest count
abbrev pub entry_fits : Type 0
entry_fits = IsEntry (65535, shorts 18446744073709551615 ones)

-- mistake: `IsEntry` allows 2^16 as a tag number
-- mistake: `IsEntry` allows 2^64 as a count
-- mistake: `IsEntry` allows seven bytes as a value field
-- mistake: `IsEntry` allows 256 as a byte
-- a tag number or a count that is too large, seven bytes, and a number that isn't a byte
abbrev pub entry_not : Type 0
entry_not =
    Never (IsEntry (65536, shorts 1 ones)) × Never (IsEntry (258, shorts 18446744073709551616 ones))
    × Never (IsEntry (258, shorts 1 (1 ∷ 1 ∷ 1 ∷ 1 ∷ 1 ∷ 1 ∷ 1 ∷ [])))
    × Never (IsEntry (258, shorts 1 (256 ∷ ones)))

-- mistake: `In` finds every value in the empty list
-- a list contains its items and nothing else
abbrev pub one_in : Type 0
one_in = In {A = ℕ} 2 (1 ∷ 2 ∷ []) × Never (In {A = ℕ} 3 (1 ∷ 2 ∷ [])) × Never (In {A = ℕ} 1 [])

-- mistake: `AreEntries` tests no entry
-- a directory without entries is valid, and one with an invalid entry isn't
abbrev pub entries_fit : Type 0
entries_fit = AreEntries empty × Never (AreEntries (insert empty 65536 (shorts 1 ones)))

-- ---- what a writer does

-- a writer of three bytes at offset 1
abbrev pub three : Written
three = record {
  bytes = 1 ∷ 2 ∷ 3 ∷ [];
  at = 1;
  fault = None;
  failures = 0;
  last = 0;
  method = method.None;
}

-- the writer of three bytes after a device error of its sink
abbrev pub broken : Written
broken = record three { fault = Some fault.Device; failures = 1 }

-- mistake: `new_writer` begins at offset 0
-- a new writer is at the end, whatever failed before
abbrev pub three_new : Type 0
three_new = new_writer (1 ∷ 2 ∷ 3 ∷ []) 2 ≡ record three { at = 3; failures = 2 }

-- mistake: `writer_after` keeps the offset
abbrev pub nine_moved : Type 0
nine_moved = writer_after three (9 ∷ []) ≡ record three { bytes = 1 ∷ 9 ∷ 3 ∷ []; at = 2 }

-- mistake: `writer_after_counted` drops the count
-- a counted write keeps its count, and bytes past the end are appended
abbrev pub nines_written : Type 0
nines_written =
    writer_after_counted three (9 ∷ 9 ∷ 9 ∷ []) ≡ record three {
      bytes = 1 ∷ 9 ∷ 9 ∷ 9 ∷ [];
      at = 4;
      last = 3;
    }

abbrev pub none_moved : Type 0
none_moved = writer_after three [] ≡ three

-- a failed write is counted once, and its error is returned
abbrev pub write_fails : Type 0
write_fails = SinkFails (IoError Device) three broken

-- mistake: `SinkFails` doesn't count the failure
abbrev pub write_fails_not : Type 0
write_fails_not = Never (SinkFails (IoError Device) three (record broken { failures = 0 }))

-- mistake: `SinkFails` returns the other error
abbrev pub fault_swapped : Type 0
fault_swapped = Never (SinkFails OutOfMemory three broken)

-- mistake: `IsStopped` counts a writer that didn't fail (`not_stopped` fails too)
-- after a failed write nothing is done; before one nothing is stopped
abbrev pub stopped : Type 0
stopped = IsStopped (UsageError WriterFailed) broken broken

abbrev pub not_stopped : Type 0
not_stopped = Never (IsStopped (UsageError WriterFailed) three three)

-- the sink fails after one of two bytes; if no byte is written, the offset doesn't move
abbrev pub cut : Type 0
cut = IsCut (8 ∷ 9 ∷ []) (IoError Device) three (record broken { bytes = 1 ∷ 8 ∷ 3 ∷ []; at = 2 })

-- mistake: `IsCut` allows more bytes than there are
abbrev pub not_cut : Type 0
not_cut = Never (IsCut [] (IoError Device) three (record broken { at = 2 }))

-- mistake: `IsCut` allows the other error
-- not a cut: another error, all bytes written, or two failed calls of the sink
abbrev pub cut_swapped : Type 0
cut_swapped =
    Never (IsCut (8 ∷ 9 ∷ []) OutOfMemory three (record broken { bytes = 1 ∷ 8 ∷ 3 ∷ []; at = 2 }))

-- mistake: `IsCut` allows a whole write
abbrev pub cut_whole : Type 0
cut_whole =
    Never (IsCut (8 ∷ []) (IoError Device) three (record broken { bytes = 1 ∷ 8 ∷ 3 ∷ []; at = 2 }))

-- mistake: `IsCut` allows two failed calls
abbrev pub cut_twice : Type 0
cut_twice =
    Never (IsCut (8 ∷ 9 ∷ []) (IoError Device) three
    (record broken { bytes = 1 ∷ 8 ∷ 3 ∷ []; at = 2; failures = 2 }))

-- mistake: `WritesCounted` keeps the count
-- bytes are written, with a kept count and without one
abbrev pub writes : Type 0
writes =
    WritesRaw {A = ℕ} (9 ∷ []) three (record three { bytes = 1 ∷ 9 ∷ 3 ∷ []; at = 2 }) (Ok 0)
    × WritesCounted {A = ℕ} (9 ∷ []) three
    (record three { bytes = 1 ∷ 9 ∷ 3 ∷ []; at = 2; last = 1 }) (Ok 0)

-- mistake: `WritesCounted` writes bytes after a failed write
-- nothing is written after a failed write
abbrev pub writes_not : Type 0
writes_not = Never (WritesCounted {A = ℕ} [] broken broken (Ok 0))

-- ---- names and color types

-- mistake: `named_tag` names an unknown one
abbrev pub tags_named : Type 0
tags_named = (named_tag tag.ImageWidth ≡ Some tag.ImageWidth) × (named_tag (tag.Unknown 256) ≡ None)

-- mistake: `named_method` names an unknown one
abbrev pub methods_named : Type 0
methods_named = (named_method method.None ≡ Some method.None)
    × (named_method (method.Unknown 9) ≡ None)

-- mistake: `named_format` names an unknown one
abbrev pub formats_named : Type 0
formats_named = (named_format format.Void ≡ Some format.Void)
    × (named_format (format.Unknown 5) ≡ None)

-- mistake: `unit_of` names Inch for 4
abbrev pub units_of : Type 0
units_of = (unit_of 2 ≡ Some unit.Inch) × (unit_of 4 ≡ None)

-- the color type of gray with one byte per sample, where 0 is black
abbrev pub gray_type : ColorTypeRecord
gray_type =
    record { interpretation = meaning.BlackIsZero; bits = 8 ∷ []; formats = format.Uint ∷ [] }

-- one sample or two samples of bytes are a color type; unequal or wider samples, more formats than
-- bits, no samples, and two formats aren't
abbrev pub gray_type_is : Type 0
gray_type_is = IsColorType 1 gray_type

abbrev pub two_grays : Type 0
two_grays =
    IsColorType 1 (record gray_type { bits = 8 ∷ 8 ∷ []; formats = format.Uint ∷ format.Uint ∷ [] })

-- mistake: `IsColorType` allows bits of several depths
abbrev pub uneven_bits : Type 0
uneven_bits =
    Never (IsColorType 1
    (record gray_type { bits = 8 ∷ 16 ∷ []; formats = format.Uint ∷ format.Uint ∷ [] }))

-- mistake: `IsColorType` allows bits of another size
abbrev pub narrow_bits : Type 0
narrow_bits = Never (IsColorType 2 gray_type)

-- packed pixels: one sample of 1, 2 or 4 bits, in bytes
abbrev pub packed_gray : Type 0
packed_gray = IsColorType 1 (record gray_type { bits = 4 ∷ [] })

-- mistake: `ArePacked` allows 3 bits
abbrev pub three_bits : Type 0
three_bits = Never (IsColorType 1 (record gray_type { bits = 3 ∷ [] }))

-- mistake: `ArePacked` allows numbers of two bytes
abbrev pub packed_pairs : Type 0
packed_pairs = Never (IsColorType 2 (record gray_type { bits = 1 ∷ [] }))

-- mistake: `ArePacked` allows two samples
abbrev pub packed_samples : Type 0
packed_samples =
    Never (IsColorType 1
    (record gray_type { bits = 1 ∷ 1 ∷ []; formats = format.Uint ∷ format.Uint ∷ [] }))

-- mistake: `IsColorType` allows more formats than bits
abbrev pub more_formats : Type 0
more_formats = Never (IsColorType 1 (record gray_type { formats = format.Uint ∷ format.Uint ∷ [] }))

-- mistake: `IsColorType` allows no sample
abbrev pub no_samples : Type 0
no_samples = Never (IsColorType 1 (record gray_type { bits = []; formats = [] }))

-- mistake: `IsColorType` allows several formats
abbrev pub two_formats : Type 0
two_formats =
    Never (IsColorType 1
    (record gray_type { bits = 8 ∷ 8 ∷ []; formats = format.Uint ∷ format.Int ∷ [] }))
