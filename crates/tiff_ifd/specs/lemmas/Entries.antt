-- Directories are read entry by entry.
use Rattle.std.proofs.Common.{◌≡◌, ℕ, ◌+◌, ◌*◌, ◌-◌, ◌≤◌, ◌<◌, Bool, true, false, cond, leb, length, List, [], ◌∷◌, ◌++◌, Option, Result, Ok, Err, refl, ap, sym, ◌∙◌, arith, add-one, lit<}
use Rattle.std.specs.List.{filter_map, range_with_len, cons_option}
use Rattle.std.proofs.lemmas.List.Elements.{filter_map-append}
use Rattle.std.proofs.lemmas.Bool.{lt-leb}
use Rattle.std.specs.Int.{Width, byte_len}
use Rattle.tiff_base.specs.lemmas.Common.{range_more}
use Rattle.tiff_base.specs.declared.error.TiffError.{TiffError}
use Rattle.tiff_base.specs.declared.error.TiffError.TheVariants.{IoError}
use Rattle.tiff_base.specs.declared.io.IoKind.TheVariants.{UnexpectedEof}
use Rattle.tiff_base.specs.declared.tags.ByteOrder.{ByteOrder}
use Rattle.tiff_base.specs.declared.tags.FileKind.{FileKind}
use Rattle.tiff_base.specs.declared.tags.FileKind.TheVariants.{Classic, Big}
use Rattle.tiff_base.specs.SourceAndSink.{bytes_at, exactly_at}
use Rattle.tiff_base.specs.Number.{number_at, number}
use Rattle.tiff_base.specs.Answers.{◌>>=◌}
use Rattle.tiff_base.specs.Field.{Field, DirectoryRecord}
use Rattle.tiff_base.specs.Directory.{count_width, offset_width, entry_len, entry_of, entries_from, last_of_each, link, first_entry, link_offset, directory_at}

pub no_entries : (kind : FileKind) (order : ByteOrder) (bytes : List ℕ) (first : ℕ)
    → entries_from kind order bytes first 0 ≡ []
unfolding entries_from
no_entries kind order bytes first = refl

-- the bytes that a read at an offset returns, through the function f
pub read_there : {A : Type 0} (bytes : List ℕ) (at len : ℕ) (f : List ℕ → A) (x : A)
    → (exactly_at bytes at len >>= λ found. Ok (f found)) ≡ Ok x → f (bytes_at bytes at len) ≡ x
read_there bytes at len f x =
    elim (leb len (length bytes - at)) as (λ b. (cond b (Ok (bytes_at bytes at len)) (Err (IoError UnexpectedEof)) >>= λ found. Ok (f found)) ≡ Ok x → f (bytes_at bytes at len) ≡ x) [
      | true ↦ λ e. cc
      | false ↦ λ e. cc
    ]

-- a read from the end on returns no bytes
pub number_past : (order : ByteOrder) (w : Width) (bytes : List ℕ) (at : ℕ) → 0 < byte_len w
    → length bytes ≤ at → number_at order w bytes at ≡ Err (IoError UnexpectedEof)
number_past order w bytes at some past =
    ap (λ (b : Bool). cond b (Ok (bytes_at bytes at (byte_len w))) (Err (IoError UnexpectedEof))
    >>= λ found. Ok (number order w found)) (lt-leb (byte_len w) (length bytes - at) (omega arith))

-- one more entry
pub entries_more : (kind : FileKind) (order : ByteOrder) (bytes : List ℕ) (first i : ℕ)
    (o : Option (ℕ × Field))
    → entry_of kind order (bytes_at bytes (first + entry_len kind * i) (entry_len kind)) ≡ o
    → entries_from kind order bytes first (i + 1) ≡ entries_from kind order bytes first i
    ++ cons_option o []
unfolding entries_from
entries_more kind order bytes first i o e =
    let h : ℕ → Option (ℕ × Field) =
    λ k. entry_of kind order (bytes_at bytes (first + entry_len kind * k) (entry_len kind)) in
    let same : 0 + i ≡ i = omega arith in
    ap (λ (n : ℕ). filter_map h (range_with_len 0 n)) (add-one i)
    ∙ ap (filter_map h) (range_more 0 i)
    ∙ filter_map-append h (range_with_len 0 i) ((0 + i) ∷ [])
    ∙ ap (λ (k : ℕ). filter_map h (range_with_len 0 i) ++ cons_option (h k) []) same
    ∙ ap (λ (x : Option (ℕ × Field)). filter_map h (range_with_len 0 i) ++ cons_option x []) e

pub some_bytes : (kind : FileKind) → 0 < byte_len (offset_width kind)
some_bytes Classic = lit< tt
some_bytes Big = lit< tt

pub directory_unlinked : (kind : FileKind) (order : ByteOrder) (bytes : List ℕ)
    (at count offset : ℕ) (e : TiffError)
    → number_at order (count_width kind) bytes at ≡ Ok count
    → offset ≡ link_offset kind at count
    → number_at order (offset_width kind) bytes offset ≡ Err e
    → directory_at kind order bytes at ≡ Err e
unfolding directory_at
directory_unlinked kind order bytes at count offset e n p l =
    let read : Result ℕ TiffError → Result DirectoryRecord TiffError =
    λ r. r >>= λ next. Ok (record { entries = last_of_each (entries_from kind order bytes (first_entry kind at) count); next = link next }) in
    ap (λ (r : Result ℕ TiffError). r >>= λ count. number_at order (offset_width kind) bytes (link_offset kind at count) >>= λ next. Ok (record { entries = last_of_each (entries_from kind order bytes (first_entry kind at) count); next = link next })) n
    ∙ ap (λ (q : ℕ). read (number_at order (offset_width kind) bytes q)) (sym p)
    ∙ ap read l

-- a directory whose entries reach the end
pub directory_cut : (kind : FileKind) (order : ByteOrder) (bytes : List ℕ) (at count : ℕ)
    → number_at order (count_width kind) bytes at ≡ Ok count
    → length bytes ≤ link_offset kind at count
    → directory_at kind order bytes at ≡ Err (IoError UnexpectedEof)
directory_cut kind order bytes at count n past =
    directory_unlinked kind order bytes at count (link_offset kind at count)
    (IoError UnexpectedEof) n refl (number_past order (offset_width kind) bytes (link_offset kind at count) (some_bytes kind) past)
