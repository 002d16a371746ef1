-- Worked examples of writes, and what each may leave.
use Rattle.std.specs.Prelude.{◌≡◌, true, false, [], ◌∷◌, ◌++◌, Some}
use Rattle.tiff_base.specs.declared.error.TiffError.{TiffError}
use Rattle.tiff_base.specs.declared.error.TiffError.TheVariants.{IoError, IntSizeError, UsageError, OutOfMemory}
use Rattle.tiff_base.specs.declared.error.UsageError.TheVariants.{WriterFailed}
use Rattle.tiff_base.specs.declared.io.IoKind.TheVariants.{Device}
use Rattle.tiff_base.specs.declared.io.SinkFault.TheVariants as fault
use Rattle.tiff_base.specs.declared.tags.FileKind.TheVariants.{Classic}
use Rattle.tiff_value.specs.Written.{Written}
use Rattle.tiff_value.specs.FileLaws.{IsListable}
use Rattle.tiff_encode.specs.Machine.{FileState}
use Rattle.tiff_encode.specs.Machine as machine
use Rattle.tiff_encode.specs.Encoder.{is_too_far, HeaderFails, AppendIsStopped, AppendIsCut, IsTorn}
use Rattle.tiff_encode.specs.FileWrites.{StandsAtEnd, file_with_bytes}
use Rattle.tiff_encode.specs.Shows.{LeavesHeader}
use Rattle.test_definitions.specs.OneValue.{long_field}
use Rattle.test_definitions.specs.Encode.FileBytes.{begun, fresh, at_end}
use Rattle.test_definitions.specs.Encode.Calls.{header}

-- a new encoder on an empty sink, and on a sink of two bytes
abbrev pub begins : Type 0
begins = fresh ≡ machine.begun_file Classic [] 0

abbrev pub begins_behind : Type 0
begins_behind =
    record fresh { bytes = 1 ∷ 2 ∷ header; failures = 3; chain = 6 } ≡ machine.begun_file Classic
    (1 ∷ 2 ∷ []) 3

-- an encoder with a failed write
abbrev pub failed : FileState
failed = record fresh { fault = Some fault.Device }

abbrev pub begins_failed : Type 0
begins_failed = failed ≡ machine.begun_file Classic [] 0 → ⊥

-- four bytes can hold 4294967295, and no larger offset
abbrev pub too_far : Type 0
too_far = is_too_far 4294967296 ≡ true

-- mistake: `is_too_far` is off by one
abbrev pub not_too_far : Type 0
not_too_far = is_too_far 4294967295 ≡ false

-- after a failed write nothing is done
abbrev pub stopped : Type 0
stopped = AppendIsStopped (UsageError WriterFailed) failed failed

abbrev pub not_stopped : Type 0
not_stopped = (new : FileState) → AppendIsStopped (UsageError WriterFailed) fresh new → ⊥

-- one of two bytes is written
abbrev pub cut_file : FileState
cut_file = record fresh { bytes = header ++ (1 ∷ []); failures = 1; fault = Some fault.Device }

abbrev pub cut : Type 0
cut = AppendIsCut (1 ∷ 2 ∷ []) (IoError Device) fresh cut_file

-- a write isn't cut if no write of the sink failed
abbrev pub not_cut : Type 0
not_cut = (e : TiffError) (new : FileState) → new.failures ≡ 0
    → AppendIsCut (1 ∷ 2 ∷ []) e fresh new → ⊥

-- mistake: `AppendIsCut` allows the other error (`torn_swapped` fails too)
-- not a cut: another error, or all bytes written
abbrev pub cut_swapped : Type 0
cut_swapped = AppendIsCut (1 ∷ 2 ∷ []) OutOfMemory fresh cut_file → ⊥

-- mistake: `AppendIsCut` allows that all was written
abbrev pub cut_whole : Type 0
cut_whole = AppendIsCut (1 ∷ []) (IoError Device) fresh cut_file → ⊥

-- all bytes, and one byte of the link
abbrev pub torn_file : FileState
torn_file = record fresh {
  bytes = 0x49 ∷ 0x49 ∷ 0x2a ∷ 0 ∷ 2 ∷ 0 ∷ 0 ∷ 0 ∷ 7 ∷ [];
  failures = 1;
  fault = Some fault.OutOfMemory;
}

abbrev pub torn : Type 0
torn = IsTorn (7 ∷ []) 4 258 OutOfMemory fresh torn_file

abbrev pub not_torn : Type 0
not_torn = (e : TiffError) (new : FileState) → new.failures ≡ 0 → IsTorn (7 ∷ []) 4 258 e fresh new
    → ⊥

abbrev pub torn_swapped : Type 0
torn_swapped = IsTorn (7 ∷ []) 4 258 (IoError Device) fresh torn_file → ⊥

-- a sink of two bytes takes one byte of the header; the error of a sink isn't `IntSizeError`
abbrev pub HeaderIsCut : TiffError → Type 0
HeaderIsCut = HeaderFails Classic (λ (w : Written). w.bytes) (λ w. w.failures) (λ w. w.fault) at_end

abbrev pub header_cut : Type 0
header_cut = HeaderIsCut (IoError Device)

-- mistake: `HeaderFails` allows any error
abbrev pub header_not_cut : Type 0
header_not_cut = HeaderIsCut IntSizeError → ⊥

-- the encoder of a writer is at the end, after its last link
abbrev pub placed : Type 0
placed = StandsAtEnd Classic (record at_end { bytes = header; at = 8 }) 4

abbrev pub not_placed : Type 0
not_placed = StandsAtEnd Classic at_end 4 → ⊥

-- mistake: `file_with_bytes` puts the bytes in front
abbrev pub grown_one : Type 0
grown_one = file_with_bytes fresh (7 ∷ []) ≡ begun (header ++ (7 ∷ []))

-- a field that fits into an entry, and one whose tag number is too large
abbrev pub listable : Type 0
listable = IsListable Classic 256 (long_field 5)

-- mistake: `IsListable` allows tag 65536
abbrev pub not_listable : Type 0
not_listable = IsListable Classic 65536 (long_field 5) → ⊥

-- what a header leaves
abbrev pub leaves_header : Type 0
leaves_header = LeavesHeader Classic header 4

-- mistake: `LeavesHeader` doesn't test the link
abbrev pub leaves_no_header : Type 0
leaves_no_header = LeavesHeader Classic header 5 → ⊥
