-- The bytes of the source that the calls of a decoder read (this project's). They include bytes
-- that an earlier call has already read.
use Rattle.std.specs.Prelude.{◌≡◌, ℕ, None, Some, Result, Ok, option_map}
use Rattle.std.specs.List.{last_or, slice_get}
use Rattle.tiff_base.specs.declared.error.TiffError.{TiffError}
use Rattle.tiff_base.specs.declared.tags.Tag.{Tag}
use Rattle.tiff_base.specs.declared.tags.ByteOrder.{ByteOrder}
use Rattle.tiff_base.specs.declared.tags.FileKind.{FileKind}
use Rattle.tiff_base.specs.Answers.{ReadsOnly}
use Rattle.tiff_base.specs.Directory.{directory_at}
use Rattle.tiff_base.specs.Field.{DirectoryRecord}
use Rattle.tiff_base.specs.Header.{Header, header_at}
use Rattle.tiff_base.specs.SourceAndSink.{AreReadable, SourceRecord}
use Rattle.tiff_ifd.specs.Stretches.{DirectoryReadable, HeaderReadable, TagReadable}
use Rattle.tiff_ifd.specs.IfdChainWalk.{ChainBegins, NextReadable, Walked, WayReadable}
use Rattle.tiff_page.specs.Reach.{PageReadable}
use Rattle.tiff_decode.specs.Machine.{Decoding, source_of}
use Rattle.tiff_decode.specs.Outcome.{chain_of, next_offset}

-- the call reads at most n bytes at the offset of the low-level reads
abbrev pub AsksHere : {X : Type 0} → Decoding → ℕ → Result X TiffError → Type 0
AsksHere d n result = ReadsOnly (AreReadable (source_of d) d.state.offset n) result

-- the call reads at most the values of a tag of the page's directory, if the directory has the tag
abbrev pub AsksForTag : {X : Type 0} → Decoding → Tag → Result X TiffError → Type 0
AsksForTag d tag result =
    ReadsOnly (TagReadable (source_of d) d.kind d.order d.state.directory tag) result

-- The source can read the directory at an offset, and the tags that the checks of its page read.
pub record EntryReadable (source : SourceRecord) (kind : FileKind) (order : ByteOrder) (at : ℕ)
    : Type 0 where
  pub directory : DirectoryReadable source kind order at
  pub page : (directory : DirectoryRecord) → directory_at kind order source.bytes at ≡ Ok directory
      → PageReadable source kind order directory

-- The source can read the header, the first directory, and the tags that the checks of its page
-- read.
pub record OpenReadable (source : SourceRecord) : Type 0 where
  pub header : HeaderReadable source
  pub first : (header : Header) → header_at source.bytes ≡ Ok header
      → EntryReadable source header.kind header.order header.first

-- The source can read the counts and the links on the way to the directory of an index in the
-- chain, and this directory and its page.
pub record SeekReadable (d : Decoding) (index : ℕ) : Type 0 where
  pub way : WayReadable (source_of d) d.kind d.order d.first index
  pub entry : (at : ℕ) → slice_get (chain_of d).offsets index ≡ Some at
      → EntryReadable (source_of d) d.kind d.order at

-- The source can read the directory that follows the one entered last, and its page: the next
-- directory of the chain, or the directory that the last link leads to where the chain ends.
pub record NextPageReadable (d : Decoding) : Type 0 where
  pub entry : (at : ℕ) → next_offset d.state.pointer (chain_of d).offsets ≡ Some at
      → EntryReadable (source_of d) d.kind d.order at
  pub behind : (walk : Walked) → ChainBegins d.kind d.order d.bytes d.first walk
      → last_or None walk.offsets ≡ option_map (λ p. p.0) d.state.pointer
      → NextReadable (source_of d) d.kind d.order walk
