-- Opening by the header, and then the first page.
use Rattle.std.proofs.Common.{◌≡◌, ℕ, List, Option, None, Some, is_some, Result, Ok, Err, refl, ap}
use Rattle.std.specs.List.{slice_get}
use Rattle.tiff_base.specs.declared.error.TiffError.{TiffError}
use Rattle.tiff_base.specs.Answers.{◌>>=◌, IsCause}
use Rattle.tiff_base.specs.Directory.{directory_at}
use Rattle.tiff_base.specs.Field.{DirectoryRecord}
use Rattle.tiff_base.specs.Header.{Header, header_at}
use Rattle.tiff_base.specs.lemmas.Causes.{cause_along}
use Rattle.tiff_ifd.specs.TagLookup.{ok_or_fault}
use Rattle.tiff_page.specs.Page.{PageRecord}
use Rattle.tiff_decode.specs.DefaultLimits.{default_limits}
use Rattle.tiff_decode.specs.Machine.{Decoding}
use Rattle.tiff_decode.specs.Opened.{OpensFirst, before_first, moved, opened_by, opened_of}
use Rattle.tiff_decode.specs.Outcome.{chain_from, decoder_of, end_fault, enter, entry_outcome, first_directory, first_decoder, page_in, seek_outcome, seek_to_image, with_page}

-- ---- what `open` returns

-- a file without a header
pub opened_unread : (failed failed' : Type 0) (bytes : List ℕ) (failures : ℕ) (e : TiffError)
    → (failed → failed')
    → IsCause ⊥ failed e (header_at bytes ≡ Err e)
    → IsCause (Unit {0}) failed' e (opened_of bytes failures ≡ Err e)
unfolding opened_of
opened_unread failed failed' bytes failures e f c =
    cause_along e (λ u. absurd u) f (λ h. ap (λ (r : Result Header TiffError). r
    >>= λ header. Ok (opened_by bytes failures header)) h) c

-- a header
pub opened_header : (bytes : List ℕ) (failures : ℕ) (header : Header) → header_at bytes ≡ Ok header
    → opened_of bytes failures ≡ Ok (opened_by bytes failures header)
unfolding opened_of
opened_header bytes failures header h =
    ap (λ (r : Result Header TiffError). r >>= λ x. Ok (opened_by bytes failures x)) h

-- ---- a decoder at its first page

-- the last step of `decoder_of`
abbrev paged : List ℕ → ℕ → Header × ℕ × DirectoryRecord → Result PageRecord TiffError
    → Result Decoding TiffError
paged bytes failures found r = r >>= λ page. Ok (first_decoder bytes failures found.0 found.1 found.2 page)

abbrev page_found : List ℕ → ℕ → Result (Header × ℕ × DirectoryRecord) TiffError
    → Result Decoding TiffError
page_found bytes failures r =
    r >>= λ found. paged bytes failures found (page_in found.0.kind found.0.order bytes default_limits found.2)

-- the steps of `first_directory` behind the header
abbrev directory_found : Header → ℕ → Result DirectoryRecord TiffError
    → Result (Header × ℕ × DirectoryRecord) TiffError
directory_found header offset r = r >>= λ directory. Ok (header, offset, directory)

abbrev offset_found : List ℕ → Header → Option ℕ → Result (Header × ℕ × DirectoryRecord) TiffError
offset_found bytes header o =
    ok_or_fault o (end_fault (chain_from header bytes).end)
    >>= λ offset. directory_found header offset (directory_at header.kind header.order bytes offset)

by_page : (bytes : List ℕ) (failures : ℕ) (header : Header) (offset : ℕ)
    (directory : DirectoryRecord) (r : Result PageRecord TiffError)
    → paged bytes failures (header, offset, directory) r
    ≡ moved (opened_by bytes failures header)
    (with_page (record (before_first header.kind) { pointer = Some (record { 0 = offset }); more = is_some directory.next }) directory r)
by_page bytes failures header offset directory (Ok page) = refl
by_page bytes failures header offset directory (Err e) = refl

by_directory : (bytes : List ℕ) (failures : ℕ) (header : Header) (offset : ℕ)
    (r : Result DirectoryRecord TiffError)
    → page_found bytes failures (directory_found header offset r)
    ≡ moved (opened_by bytes failures header) (entry_outcome (opened_by bytes failures header) offset r)
by_directory bytes failures header offset (Ok directory) =
    by_page bytes failures header offset directory (page_in header.kind header.order bytes default_limits directory)
by_directory bytes failures header offset (Err e) = refl

by_offset : (bytes : List ℕ) (failures : ℕ) (header : Header) (o : Option ℕ)
    → page_found bytes failures (offset_found bytes header o)
    ≡ moved (opened_by bytes failures header) (seek_outcome (opened_by bytes failures header) o)
unfolding enter
by_offset bytes failures header (Some offset) =
    by_directory bytes failures header offset (directory_at header.kind header.order bytes offset)
by_offset bytes failures header None = refl

by_header : (bytes : List ℕ) (failures : ℕ) (r : Result Header TiffError)
    → page_found bytes failures (r >>= λ header. offset_found bytes header (slice_get (chain_from header bytes).offsets 0))
    ≡ ((r >>= λ header. Ok (opened_by bytes failures header)) >>= λ d. moved d (seek_to_image d 0))
unfolding seek_to_image
by_header bytes failures (Ok header) =
    by_offset bytes failures header (slice_get (chain_from header bytes).offsets 0)
by_header bytes failures (Err e) = refl

pub opens_first : OpensFirst
unfolding decoder_of first_directory opened_of
opens_first bytes failures = by_header bytes failures (header_at bytes)
