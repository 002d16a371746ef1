-- Where an encoder goes on behind a file: its kind, and the offset of its last link (this
-- project's).
use Rattle.std.specs.Prelude.{ℕ, ◌==◌, Bool, true, false, List, if◌then◌else◌, Option, None, Some, Result, Ok, Err}
use Rattle.std.specs.Int.{w16}
use Rattle.std.specs.List.{last_or}
use Rattle.tiff_base.specs.declared.error.TiffError.{TiffError}
use Rattle.tiff_base.specs.declared.error.TiffError.TheVariants.{FormatError, UsageError}
use Rattle.tiff_base.specs.declared.error.TiffFormatError.TheVariants.{ImageFileDirectoryNotFound}
use Rattle.tiff_base.specs.declared.error.UsageError.TheVariants.{ByteOrderMismatch}
use Rattle.tiff_base.specs.declared.tags.ByteOrder.{ByteOrder}
use Rattle.tiff_base.specs.declared.tags.ByteOrder.TheVariants.{LittleEndian, BigEndian}
use Rattle.tiff_base.specs.declared.tags.FileKind.{FileKind}
use Rattle.tiff_base.specs.declared.tags.FileKind.TheVariants.{Classic, Big}
use Rattle.tiff_base.specs.Answers.{◌>>=◌}
use Rattle.tiff_base.specs.Header.{Header, header_at}
use Rattle.tiff_base.specs.Number.{number_at}
use Rattle.tiff_ifd.specs.Chain.{Chain}
use Rattle.tiff_encode.specs.LongerChain.{last_link_at}
use Rattle.tiff_append.specs.declared.last_link.LastLink.{LastLink}

-- ---- the kind

-- an error that says that a header links to no directory
abbrev pub is_unlinked : TiffError → Bool
is_unlinked (FormatError ImageFileDirectoryNotFound) = true
is_unlinked e = false

-- the byte order of the mark of a header that is accepted, and the kind of its version
abbrev pub order_by : ℕ → ByteOrder
order_by mark = if mark == 0x4949 then LittleEndian else BigEndian

abbrev pub kind_by : ℕ → FileKind
kind_by version = if version == 43 then Big else Classic

-- the byte order and the kind of a file whose header links to no directory
abbrev pub unlinked : List ℕ → Result (ByteOrder × FileKind) TiffError
unlinked file = do
  mark ← number_at LittleEndian w16 file 0
  version ← number_at (order_by mark) w16 file 2
  Ok (order_by mark, kind_by version)

-- the byte order and the kind of a file with this header; a header that links to no directory is
-- accepted
abbrev pub by_header : Result Header TiffError → List ℕ → Result (ByteOrder × FileKind) TiffError
by_header (Ok header) file = Ok (header.order, header.kind)
by_header (Err e) file = if is_unlinked e then unlinked file else Err e

abbrev pub order_and_kind : List ℕ → Result (ByteOrder × FileKind) TiffError
order_and_kind file = by_header (header_at file) file

-- the kind, if the byte order is little-endian
abbrev pub in_little : ByteOrder → FileKind → Result FileKind TiffError
in_little LittleEndian kind = Ok kind
in_little BigEndian kind = Err (UsageError ByteOrderMismatch)

abbrev pub little_kind : List ℕ → Result FileKind TiffError
little_kind file = do
  found ← order_and_kind file
  in_little found.0 found.1

-- ---- the link

-- the last offset of a chain, if it has one; or the error by which the chain ends
abbrev pub last_by : List ℕ → Option TiffError → Result (Option ℕ) TiffError
last_by offsets None = Ok (last_or None offsets)
last_by offsets (Some e) = Err e

abbrev pub last_in : Chain → Result (Option ℕ) TiffError
last_in found = last_by found.offsets found.end

-- the kind of a file and its last link, or the first error: of the header, of a big-endian file, or
-- the one by which the chain ends
abbrev pub last_link : List ℕ → Result LastLink TiffError
last_link file = do
  kind ← little_kind file
  at ← last_link_at kind file
  Ok (record { kind = kind; at = at })
