-- The bytes that the steps of a decoder's calls read.
use Rattle.std.proofs.Common.{◌≡◌, ℕ, ◌-◌, ◌≤◌, List, [], ◌∷◌, length, Option, None, Some, Bool, true, false, cond, Result, Ok, refl, ap, sym, ◌∙◌, subst, arith}
use Rattle.std.proofs.lemmas.Option.{slice_get_within}
use Rattle.std.specs.Prelude.{option_map}
use Rattle.std.specs.List.{slice_get, last_or}
use Rattle.tiff_base.specs.declared.error.TiffError.{TiffError}
use Rattle.tiff_base.specs.declared.tags.ByteOrder.{ByteOrder}
use Rattle.tiff_base.specs.declared.tags.FileKind.{FileKind}
use Rattle.tiff_base.specs.declared.tags.IfdPointer.{IfdPointer}
use Rattle.tiff_base.specs.Answers.{ReadsOnly, IsNotDevice}
use Rattle.tiff_base.specs.Directory.{directory_at}
use Rattle.tiff_base.specs.Field.{DirectoryRecord}
use Rattle.tiff_base.specs.Header.{Header, header_at}
use Rattle.tiff_base.specs.SourceAndSink.{SourceRecord}
use Rattle.tiff_base.specs.lemmas.Common.{bind_ok}
use Rattle.tiff_ifd.specs.TagLookup.{ok_or_fault}
use Rattle.tiff_ifd.specs.IfdChainWalk.{ChainBegins, NextReadable, Walked, WayReadable}
use Rattle.tiff_page.specs.Reach.{PageReadable}
use Rattle.tiff_page.specs.lemmas.Requests.{asks_more}
use Rattle.tiff_decode.specs.Asked.{EntryReadable, NextPageReadable, OpenReadable, SeekReadable}
use Rattle.tiff_decode.specs.ChainPosition.{IsAt, index_behind}
use Rattle.tiff_decode.specs.Machine.{Decoding, source_of}
use Rattle.tiff_decode.specs.Outcome.{chain_from, chain_of, end_fault, first_directory, next_offset, not_found}
use Rattle.tiff_decode.specs.lemmas.ChainPosition.{last_of, none_of, past_end}

-- the bytes that a call reads, for an equal view of the decoder
pub asked_of : (P : Decoding → Type 0) (d old : Decoding) (e : TiffError) → d ≡ old
    → (P d → IsNotDevice e) → P old → IsNotDevice e
asked_of P d old e seen asked q = asked (subst P (sym seen) q)

-- an error that says that there is no directory
pub none_asks : {P : Type 0} (e : TiffError) → e ≡ not_found → P → IsNotDevice e
none_asks e h p = subst (λ (x : TiffError). IsNotDevice x) (sym h) refl

-- ---- opening

-- the first directory of a file is that of its header
first_is : (file : List ℕ) (found : Header × ℕ × DirectoryRecord) → first_directory file ≡ Ok found
    → (header_at file ≡ Ok found.0)
    × (directory_at found.0.kind found.0.order file found.1 ≡ Ok found.2)
unfolding first_directory
first_is file found h =
    let header = bind_ok (header_at file) _ found h in
    let offset =
    bind_ok (ok_or_fault (slice_get (chain_from header.0 file).offsets 0) (end_fault (chain_from header.0 file).end)) _ found header.1.1 in
    let directory =
    bind_ok (directory_at header.0.kind header.0.order file offset.0) _ found offset.1.1 in
    let P : Header × ℕ × DirectoryRecord → Type 0 =
    λ x. (header_at file ≡ Ok x.0) × (directory_at x.0.kind x.0.order file x.1 ≡ Ok x.2) in
    let same : (header.0, offset.0, directory.0) ≡ found = cc in
    subst P same (header.1.0, directory.1.0)

-- the page of the first directory
pub opened_page : (s t : SourceRecord) (header : Header) (directory : DirectoryRecord) (e : TiffError) → t ≡ s
    → first_directory s.bytes ≡ Ok (header, header.first, directory)
    → (PageReadable t header.kind header.order directory → IsNotDevice e) → OpenReadable s
    → IsNotDevice e
opened_page s t header directory e same h asked opened =
    let found = first_is s.bytes (header, header.first, directory) h in
    asked (subst (λ (x : SourceRecord). PageReadable x header.kind header.order directory) (sym same) ((opened.first header found.0).page directory found.1))

-- ---- entering

-- the page of a directory that was read
pub entered_page : {X : Type 0} (s t : SourceRecord) (kind : FileKind) (order : ByteOrder) (at : ℕ)
    (directory : DirectoryRecord) (r : Result X TiffError) → t ≡ s
    → directory_at kind order s.bytes at ≡ Ok directory
    → ReadsOnly (PageReadable t kind order directory) r
    → ReadsOnly (EntryReadable s kind order at) r
entered_page s t kind order at directory r same h asked =
    asks_more (PageReadable t kind order directory) (EntryReadable s kind order at) r
    (λ q. subst (λ (x : SourceRecord). PageReadable x kind order directory) (sym same) (q.page directory h)) asked

-- ---- along the chain

-- the directory of an index
pub sought_entry : {X : Type 0} (d old : Decoding) (t : SourceRecord) (index at : ℕ)
    (r : Result X TiffError) → d ≡ old → t ≡ source_of d
    → slice_get (chain_of d).offsets index ≡ Some at
    → ReadsOnly (EntryReadable t d.kind d.order at) r → ReadsOnly (SeekReadable old index) r
sought_entry d old t index at r seen same h asked =
    subst (λ (x : Decoding). ReadsOnly (SeekReadable x index) r) seen
    (asks_more (EntryReadable t d.kind d.order at) (SeekReadable d index) r
    (λ q. subst (λ (x : SourceRecord). EntryReadable x d.kind d.order at) (sym same) (q.entry at h)) asked)

-- the way to the directory of an index
pub sought_way : (d old : Decoding) (index : ℕ) (e : TiffError) → d ≡ old
    → (WayReadable (source_of d) d.kind d.order d.first index → IsNotDevice e)
    → SeekReadable old index → IsNotDevice e
sought_way d old index e seen asked q =
    asked ((subst (λ (x : Decoding). SeekReadable x index) (sym seen) q).way)

-- the next directory of the chain
pub next_entry : {X : Type 0} (d old : Decoding) (t : SourceRecord) (at : ℕ)
    (r : Result X TiffError) → d ≡ old → t ≡ source_of d
    → next_offset d.state.pointer (chain_of d).offsets ≡ Some at
    → ReadsOnly (EntryReadable t d.kind d.order at) r → ReadsOnly (NextPageReadable old) r
next_entry d old t at r seen same h asked =
    subst (λ (x : Decoding). ReadsOnly (NextPageReadable x) r) seen
    (asks_more (EntryReadable t d.kind d.order at) (NextPageReadable d) r
    (λ q. subst (λ (x : SourceRecord). EntryReadable x d.kind d.order at) (sym same) (q.entry at h)) asked)

-- the place of an offset that is not there
pub past_known : (offsets : List ℕ) (k : ℕ) (known : Option ℕ) → known ≡ slice_get offsets k
    → ((offset : ℕ) → known ≡ Some offset → ⊥) → length offsets ≤ k
past_known offsets k known is not_some = past_end offsets k (sym is ∙ none_of known not_some)

-- the last of some offsets, where no other offset follows it
last_is : (offsets : List ℕ) (pointer : Option IfdPointer) (at k : ℕ) → IsAt offsets pointer at
    → k ≡ index_behind pointer at → length offsets ≤ k
    → last_or None offsets ≡ option_map (λ p. p.0) pointer
last_is offsets (Some p) at k h e l =
    let w = slice_get_within offsets at p.0 h in
    let here : length offsets - 1 ≡ at = omega (arith, w, l, e) in
    last_of offsets ∙ ap (slice_get offsets) here ∙ h
last_is [] None at k h e l = refl
last_is (p ∷ ps) None at k h e l = absurd (omega (arith, l, e))

-- the same of an offset that was looked up and is not there
pub last_known : (offsets : List ℕ) (pointer : Option IfdPointer) (at k : ℕ) (known : Option ℕ)
    → IsAt offsets pointer at → k ≡ index_behind pointer at → known ≡ slice_get offsets k
    → ((offset : ℕ) → known ≡ Some offset → ⊥)
    → last_or None offsets ≡ option_map (λ p. p.0) pointer
last_known offsets pointer at k known h e is not_some =
    last_is offsets pointer at k h e (past_known offsets k known is not_some)

-- the directory that the last link leads to
pub next_behind : (d old : Decoding) (t : SourceRecord) (walk : Walked) (e : TiffError) → d ≡ old
    → t ≡ source_of d
    → ChainBegins d.kind d.order d.bytes d.first walk
    → last_or None walk.offsets ≡ option_map (λ p. p.0) d.state.pointer
    → (NextReadable t d.kind d.order walk → IsNotDevice e) → NextPageReadable old → IsNotDevice e
next_behind d old t walk e seen same b h asked q =
    asked (subst (λ (x : SourceRecord). NextReadable x d.kind d.order walk) (sym same) ((subst (λ (x : Decoding). NextPageReadable x) (sym seen) q).behind walk b h))

-- the way to the directory of an index, where the error is hidden that ends the chain
pub sought_past : (d old : Decoding) (index : ℕ) (e fault : TiffError) (open_before : Bool)
    → d ≡ old
    → (WayReadable (source_of d) d.kind d.order d.first index → IsNotDevice e)
    → fault ≡ cond open_before e not_found → SeekReadable old index → IsNotDevice fault
sought_past d old index e fault true seen asked f q =
    subst (λ (x : TiffError). IsNotDevice x) (sym f) (sought_way d old index e seen asked q)
sought_past d old index e fault false seen asked f q =
    subst (λ (x : TiffError). IsNotDevice x) (sym f) refl
