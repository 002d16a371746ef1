-- Worked examples of the steps that write a file, and of what calls leave.
use Rattle.std.specs.Prelude.{ℕ, List, [], ◌∷◌, ◌++◌, Ok, Err}
use Rattle.tiff_base.specs.declared.error.TiffError.TheVariants.{IoError, OutOfMemory}
use Rattle.tiff_base.specs.declared.io.IoKind.TheVariants.{Device}
use Rattle.tiff_base.specs.declared.io.SinkFault.TheVariants as fault
use Rattle.tiff_base.specs.declared.tags.FileKind.TheVariants.{Classic, Big}
use Rattle.tiff_base.specs.declared.tags.«Type».TheVariants.{SHORT}
use Rattle.tiff_value.specs.FileBytes.{header_bytes}
use Rattle.tiff_value.specs.Model.{header_model}
use Rattle.tiff_value.specs.FileLaws.{IsListable}
use Rattle.tiff_encode.specs.Machine.{FileState, does}
use Rattle.tiff_encode.specs.Leaves.{Leaves, LeavesLinked, LeavesTorn, IsGiven}
use Rattle.tiff_value.specs.WriteOps.{WriteOp, Appended, Linked}
use Rattle.tiff_encode.specs.FileWrites.{StandsAtEnd, AppendsToFile, PointsLink}
use Rattle.tiff_encode.specs.Kind.{WritesHeader}
use Rattle.test_definitions.specs.OneValue.{long_field}
use Rattle.test_definitions.specs.Encode.FileBytes.{begun, fresh, at_end}
use Rattle.test_definitions.specs.Encode.Calls.{header}
use Rattle.test_definitions.specs.Encode.Causes.{new_file, file_with}
use Rattle.test_definitions.specs.Encode.Jobs.{failed_with}

-- mistake: `IsListable` doesn't test the value's length
-- a field isn't valid if its value field has fewer than eight bytes
abbrev pub short_value : Type 0
short_value = IsListable Classic 256 (record (long_field 5) { value = 5 ∷ 0 ∷ 0 ∷ 0 ∷ [] }) → ⊥

-- ---- what calls leave

-- an appended byte leaves a region with this byte; a refusal leaves the header unchanged
abbrev pub left_region : Type 0
left_region =
    Leaves {X = ℕ} (does (Appended (7 ∷ []) ∷ []) (new_file Classic)) (Ok 0) (new_file Classic)
    (file_with Classic (header ++ (7 ∷ []))) (header_model Classic)

-- mistake: `Leaves` doesn't have the new region
abbrev pub left_other : Type 0
left_other =
    Leaves {X = ℕ} (does (Appended (7 ∷ []) ∷ []) (new_file Classic)) (Ok 0) (new_file Classic)
    (file_with Classic (header ++ (8 ∷ []))) (header_model Classic)
    → ⊥

-- mistake: `Leaves` lets a refusal change what the file contained
abbrev pub left_changed : Type 0
left_changed =
    Leaves {X = ℕ} (does (Appended (7 ∷ []) ∷ []) (new_file Classic)) (Err OutOfMemory)
    (new_file Classic)
    (file_with Classic (0x49 ∷ 0x49 ∷ 0x2a ∷ 0x00 ∷ 0x09 ∷ 0x00 ∷ 0x00 ∷ 0x00 ∷ []))
    (header_model Classic)
    → ⊥

-- two bytes of a link to 65544 are written: the link is 8 and the region stays; if the region is
-- broken too, nothing is left
abbrev pub torn_ops : List WriteOp
torn_ops = Appended (1 ∷ []) ∷ Linked 4 65544 ∷ []

abbrev pub torn_file : ℕ → FileState
torn_file n =
    failed_with fault.Device (0x49 ∷ 0x49 ∷ 0x2a ∷ 0x00 ∷ 0x08 ∷ 0x00 ∷ 0x00 ∷ 0x00 ∷ n ∷ [])

-- mistake: `LeavesTorn` lets the link that broke off have its target
abbrev pub left_torn : Type 0
left_torn =
    LeavesTorn (does torn_ops (new_file Classic)) (IoError Device) (new_file Classic) (torn_file 1)
    (header_model Classic)

abbrev pub left_linked : Type 0
left_linked =
    LeavesLinked {X = ℕ} (does torn_ops (new_file Classic)) (Err (IoError Device))
    (new_file Classic) (torn_file 1) (header_model Classic)

abbrev pub left_broken : Type 0
left_broken =
    LeavesLinked {X = ℕ} (does torn_ops (new_file Classic)) (Err (IoError Device))
    (new_file Classic) (torn_file 2) (header_model Classic) → ⊥

-- two SHORT numbers are given as four bytes, not as two
abbrev pub given_two : Type 0
given_two = IsGiven (Ok (record { field_type = SHORT; count = 2; bytes = 1 ∷ 0 ∷ 2 ∷ 0 ∷ [] }))

-- mistake: `IsGiven` allows bytes of any length
abbrev pub given_few : Type 0
given_few = IsGiven (Ok (record { field_type = SHORT; count = 2; bytes = 1 ∷ 0 ∷ [] })) → ⊥

-- ---- steps

-- mistake: `StandsAtEnd` has the link off by one
-- a writer isn't at the end if its last link reaches past it
abbrev pub link_past : Type 0
link_past = StandsAtEnd Classic (record at_end { bytes = header; at = 8 }) 5 → ⊥

-- mistake: `file_with_bytes` puts the bytes in front
-- a byte is appended, and isn't lost
abbrev pub appends_one : Type 0
appends_one = AppendsToFile {A = ℕ} (7 ∷ []) fresh (begun (header ++ (7 ∷ []))) (Ok 0)

-- mistake: `AppendsToFile` is done with nothing appended
abbrev pub appends_none : Type 0
appends_none = AppendsToFile {A = ℕ} (7 ∷ []) fresh fresh (Ok 0) → ⊥

-- mistake: `WritesHeader` counts the header as the last write
-- a BigTIFF header is written after two bytes; the link of a classic header is the last write
abbrev pub header_goes : Type 0
header_goes =
    WritesHeader {A = ℕ} Big at_end
    (record at_end { bytes = 1 ∷ 2 ∷ header_bytes Big; at = 18; last = 8 }) (Ok 0)

-- mistake: `WritesHeader` counts the header as the last write
abbrev pub header_counted : Type 0
header_counted =
    WritesHeader {A = ℕ} Classic at_end
    (record at_end { bytes = 1 ∷ 2 ∷ header; at = 10; last = 8 }) (Ok 0) → ⊥

-- mistake: `PointsLink` keeps the old link
-- the header's link is pointed to 25
abbrev pub links_25 : Type 0
links_25 =
    PointsLink {A = ℕ} 4 25 fresh
    (record fresh { bytes = 0x49 ∷ 0x49 ∷ 0x2a ∷ 0 ∷ 25 ∷ 0 ∷ 0 ∷ 0 ∷ [] }) (Ok 0)

-- mistake: `PointsLink` keeps the old link
abbrev pub links_stay : Type 0
links_stay = PointsLink {A = ℕ} 4 25 fresh fresh (Ok 0) → ⊥
