-- The steps of opening a file, and their results.
use Rattle.std.specs.Prelude.{◌≡◌, ℕ, List, [], Option, Some, Result, Ok, Err, length}
use Rattle.std.specs.List.{slice_get}
use Rattle.std.proofs.Common.{zero, suc, ap, sym, ◌∙◌, refl, subst}
use Rattle.tiff_base.specs.declared.error.TiffError.{TiffError}
use Rattle.tiff_base.specs.Answers.{IsCause, ◌>>=◌}
use Rattle.tiff_base.specs.Directory.{directory_at}
use Rattle.tiff_base.specs.Field.{DirectoryRecord}
use Rattle.tiff_base.specs.Header.{Header, header_at}
use Rattle.tiff_base.specs.lemmas.Causes.{cause_along}
use Rattle.tiff_ifd.specs.declared.limits.Limits.{Limits}
use Rattle.tiff_ifd.specs.Chain.{Chain, chain, walk, onto, enter_at, link_from}
use Rattle.tiff_ifd.specs.TagLookup.{ok_or_fault}
use Rattle.tiff_ifd.specs.IfdChainWalk.{Walked, Enters, NextIsRefused, WalkSteps}
use Rattle.tiff_page.specs.Page.{PageRecord}
use Rattle.tiff_decode.specs.Machine.{Decoding}
use Rattle.tiff_decode.specs.Outcome.{decoder_of, chain_from, first_directory, first_decoder, page_in, end_fault}
use Rattle.tiff_decode.specs.DefaultLimits.{default_limits}

-- the first offset of a chain, or the error where there is none
first_of : Chain → Result ℕ TiffError
first_of c = ok_or_fault (slice_get c.offsets 0) (end_fault c.end)

of_onto : (offset : ℕ) (r : Result (Option ℕ) TiffError) (rest : Option ℕ → Chain)
    → first_of (onto offset r rest) ≡ (r >>= λ _. Ok offset)
unfolding first_of
of_onto offset (Ok after) rest = refl
of_onto offset (Err e) rest = refl

of_walk : (link : ℕ → Result (Option ℕ) TiffError) (steps first : ℕ)
    → first_of (walk link steps [] (Some first)) ≡ (enter_at link [] first >>= λ _. Ok first)
unfolding first_of
of_walk link zero first = of_onto first (enter_at link [] first) _
of_walk link (suc steps) first = of_onto first (enter_at link [] first) _

-- the first offset is entered where its directory is readable and does not link to itself
first_is : (header : Header) (bytes : List ℕ)
    → first_of (chain_from header bytes)
    ≡ (enter_at (link_from header.kind header.order bytes) [] header.first
    >>= λ _. Ok header.first)
unfolding chain first_of
first_is header bytes =
    of_walk (link_from header.kind header.order bytes) (length bytes) header.first

-- the steps after the first offset is known
rest : Header → List ℕ → Result ℕ TiffError → Result (Header × ℕ × DirectoryRecord) TiffError
rest header bytes r =
    r >>= λ offset. directory_at header.kind header.order bytes offset
    >>= λ directory. Ok (header, offset, directory)

-- the steps after the header, for a chain whose first offset is entered or is not
with_header : (header : Header) (bytes : List ℕ) → header_at bytes ≡ Ok header
    → first_directory bytes
    ≡ rest header bytes (enter_at (link_from header.kind header.order bytes) [] header.first
    >>= λ _. Ok header.first)
unfolding first_directory rest first_of
with_header header bytes h =
    ap (λ (r : Result Header TiffError). r >>= λ x. rest x bytes (first_of (chain_from x bytes))) h
    ∙ ap (rest header bytes) (first_is header bytes)

pub headless : (failed : Type 0) (bytes : List ℕ) (e : TiffError)
    → IsCause ⊥ failed e (header_at bytes ≡ Err e)
    → IsCause (Unit {0}) failed e (first_directory bytes ≡ Err e)
unfolding first_directory rest first_of
headless failed bytes e c =
    cause_along e (λ u. absurd u) (λ f. f)
    (λ h. ap (λ (r : Result Header TiffError). r
    >>= λ x. rest x bytes (first_of (chain_from x bytes))) h) c

-- a walk that begins at a header's first offset
abbrev pub begun_at : Header → Walked
begun_at header = record { offsets = []; next = Some header.first }

same_offset : (header : Header) (offset : ℕ) → (begun_at header).next ≡ Some offset
    → offset ≡ header.first
same_offset header offset h = cc

-- the first offset is not entered, for a source whose bytes are unchanged
pub unentered : (failed failed' : Type 0) (bytes contents : List ℕ) (header : Header)
    (before after : Walked) (e : TiffError) → (failed → failed') → contents ≡ bytes
    → header_at bytes ≡ Ok header → before ≡ begun_at header
    → IsCause (after ≡ before) (failed × (after
    ≡ before)) e (WalkSteps header.kind header.order contents before (Err e) after)
    → IsCause (Unit {0}) failed' e (first_directory bytes ≡ Err e)
unfolding rest
unentered failed failed' bytes contents header before after e f same h b c =
    cause_along e (λ _. tt) (λ x. f x.0)
    (λ s. (let P : List ℕ → Type 0 = λ k. NextIsRefused header.kind header.order k before e in
    let Q : Walked → Type 0 = λ w. NextIsRefused header.kind header.order bytes w e in
    let r : NextIsRefused header.kind header.order bytes (begun_at header) e =
    subst Q b (subst P same s.0) in
    let E : ℕ → Type 0 = λ p. enter_at (link_from header.kind header.order bytes) [] p ≡ Err e in
    let at_first : enter_at (link_from header.kind header.order bytes) [] header.first ≡ Err e =
    subst E (same_offset header r.offset r.next) r.refused in
    with_header header bytes h
    ∙ ap (λ (x : Result (Option ℕ) TiffError). rest header bytes (x >>= λ _. Ok header.first)) at_first))
    c

-- the first offset is entered
pub first_entered : (bytes contents : List ℕ) (header : Header) (before after : Walked)
    (d : DirectoryRecord) → contents ≡ bytes
    → header_at bytes ≡ Ok header → before ≡ begun_at header
    → WalkSteps header.kind header.order contents before (Ok (Some d)) after
    → first_directory bytes ≡ Ok (header, header.first, d)
unfolding rest
first_entered bytes contents header before after d same h b s =
    let P : List ℕ → Type 0 = λ k. Enters header.kind header.order k before d after in
    let Q : Walked → Type 0 = λ w. Enters header.kind header.order bytes w d after in
    let r : Enters header.kind header.order bytes (begun_at header) d after =
    subst Q b (subst P same s) in
    let E : ℕ → Type 0 =
    λ p. enter_at (link_from header.kind header.order bytes) [] p ≡ Ok d.next in
    let at_first : enter_at (link_from header.kind header.order bytes) [] header.first ≡ Ok d.next =
    subst E (same_offset header r.offset r.next) r.entered in
    let D : ℕ → Type 0 = λ p. directory_at header.kind header.order bytes p ≡ Ok d in
    let there_is : directory_at header.kind header.order bytes header.first ≡ Ok d =
    subst D (same_offset header r.offset r.next) r.read in
    with_header header bytes h
    ∙ ap (λ (x : Result (Option ℕ) TiffError). rest header bytes (x
    >>= λ _. Ok header.first)) at_first
    ∙ ap (λ (x : Result DirectoryRecord TiffError). x
    >>= λ directory. Ok (header, header.first, directory)) there_is

-- ---- the first page

-- the decoder, after its first directory is known
page_then : List ℕ → ℕ → Result (Header × ℕ × DirectoryRecord) TiffError → Result Decoding TiffError
page_then bytes failures r =
    r >>= λ found. page_in found.0.kind found.0.order bytes default_limits found.2 >>= λ page.
    Ok (first_decoder bytes failures found.0 found.1 found.2 page)

-- a file without a first directory
pub begun_unread : (failed failed' : Type 0) (bytes : List ℕ) (failures : ℕ) (e : TiffError)
    → (failed → failed')
    → IsCause (Unit {0}) failed e (first_directory bytes ≡ Err e)
    → IsCause (Unit {0}) failed' e (decoder_of bytes failures ≡ Err e)
unfolding decoder_of page_then
begun_unread failed failed' bytes failures e f c =
    cause_along e (λ u. u) f (λ h. ap (page_then bytes failures) h) c

-- a first directory that is no page, where the reads of its tags used these bytes and limits
pub begun_unpaged : (wanting failed failed' : Type 0) (bytes contents : List ℕ) (limits : Limits)
    (failures : ℕ) (header : Header) (offset : ℕ) (directory : DirectoryRecord) (e : TiffError)
    → (failed → failed')
    → contents ≡ bytes → limits ≡ default_limits
    → first_directory bytes ≡ Ok (header, offset, directory)
    → IsCause wanting failed e (page_in header.kind header.order contents limits directory ≡ Err e)
    → IsCause (Unit {0}) failed' e (decoder_of bytes failures ≡ Err e)
unfolding decoder_of page_then
begun_unpaged wanting failed failed' bytes contents limits failures header offset directory e f same given found c =
    cause_along e (λ _. tt) f
    (λ h. ap (page_then bytes failures) found
    ∙ ap (λ (r : Result PageRecord TiffError). r >>= λ page. Ok (first_decoder bytes failures header offset directory page))
    ((λ i. page_in header.kind header.order (sym same i) (sym given i) directory) ∙ h))
    c

-- a first page
pub begun_page : (bytes contents : List ℕ) (limits : Limits) (failures : ℕ) (header : Header)
    (offset : ℕ) (directory : DirectoryRecord) (page : PageRecord)
    → contents ≡ bytes → limits ≡ default_limits
    → first_directory bytes ≡ Ok (header, offset, directory)
    → page_in header.kind header.order contents limits directory ≡ Ok page
    → decoder_of bytes failures ≡ Ok (first_decoder bytes failures header offset directory page)
unfolding decoder_of page_then
begun_page bytes contents limits failures header offset directory page same given found h =
    ap (page_then bytes failures) found
    ∙ ap (λ (r : Result PageRecord TiffError). r >>= λ page. Ok (first_decoder bytes failures header offset directory page))
    ((λ i. page_in header.kind header.order (sym same i) (sym given i) directory) ∙ h)
