-- How a call writes a chunk.
use Rattle.std.proofs.Common.{◌≡◌, ℕ, ◌≢◌, ◌-◌, ◌*◌, ◌/◌, ◌%◌, ◌^◌, ◌<◌, ◌≤◌, min, Bool, true, false, cond, List, length, get_or, Option, Some, None, Result, Ok, Err, refl, ap, sym, ◌∙◌, subst, inl, inr, arith, append-nil, lit<, lit≤}
use Rattle.std.proofs.lemmas.Bool.{eqb-true}
use Rattle.std.proofs.lemmas.Nat.Gcd.{dvd_of_mod-eq-zero}
use Rattle.std.proofs.lemmas.List.FromFn.{fill_by_all, length-map-range_with_len}
use Rattle.std.proofs.Math.Nat.{div-mul_cancel, le-mul_of_pos_right, mul-le-mul_left, mul-mod_left, mul_assoc, zero-mod}
use Rattle.std.specs.List.{flat_map}
use Rattle.std.specs.Prelude.{◌⊎◌, ◌==◌, ◌||◌, not, IfSome, MatchResult}
use Rattle.tiff_base.specs.declared.error.TiffError.{TiffError}
use Rattle.tiff_base.specs.declared.error.TiffError.TheVariants.{IoError, IntSizeError, OutOfMemory}
use Rattle.tiff_base.specs.declared.io.IoKind.TheVariants.{InvalidData}
use Rattle.tiff_base.specs.declared.io.SinkFault.{SinkFault}
use Rattle.tiff_base.specs.declared.tags.CompressionMethod.TheVariants as method
use Rattle.tiff_base.specs.declared.tags.Predictor.TheVariants as predictor
use Rattle.tiff_base.specs.declared.tags.«Type».{«Type»}
use Rattle.tiff_base.specs.declared.tags.«Type».TheVariants.{BYTE, ASCII, SHORT, LONG, RATIONAL, SBYTE, UNDEFINED, SSHORT, SLONG, SRATIONAL, FLOAT, DOUBLE, IFD, LONG8, SLONG8, IFD8}
use Rattle.tiff_base.specs.Types.{type_size}
use Rattle.tiff_base.specs.Number.{le}
use Rattle.tiff_page.specs.Pixels.{stored_samples}
use Rattle.tiff_base.specs.declared.tags.Predictor.{Predictor}
use Rattle.tiff_value.specs.Packed.{ArePackedRows, IsPacked}
use Rattle.tiff_value.specs.Differences.{stored_difference, differences}
use Rattle.tiff_encode.specs.declared.encoder.settings.Compression.{Compression}
use Rattle.tiff_encode.specs.declared.encoder.settings.Compression.TheVariants.{Uncompressed, Packbits, PackbitsRows}
use Rattle.tiff_encode.specs.Machine.{FileState, OpenImage, WriteOutcome, WriteCall, by_cause, compression_method}
use Rattle.tiff_encode.specs.Chunks.{image_page, row_samples, chunk_rows, is_left, next_chunk_sample_count}
use Rattle.tiff_encode.specs.Causes.{is_past, is_past_chunks, unless_ended, end_of, write_chunk_cause}
use Rattle.tiff_encode.specs.Calls.{with_chunk, appends_chunk, write_chunk}
use Rattle.tiff_encode.specs.Encoder.{AppendIsStopped, AppendIsCut}
use Rattle.tiff_encode.specs.Ends.{EndsAsDefined, AppendFailed}
use Rattle.tiff_encode.specs.FileWrites.{file_with_bytes}
use Rattle.tiff_encode.specs.Stored.{IsChunkStored, IsCompressed, unpacked_chunk}
use Rattle.tiff_encode.specs.Storing.{AppendsChunk, StoresChunk, WritesStoredChunk}
use Rattle.tiff_encode.proofs.Calling.{none_some, cut_off}
use Rattle.tiff_page.specs.lemmas.WrittenNumbers.{length_written}

-- ---- a chunk is whole rows

rows_by : (left : Bool) (rows row n : ℕ) → n ≡ cond left (min (rows * row) (2 ^ 64 - 1)) 0
    → n < 2 ^ 64 - 1 → n % row ≡ 0
rows_by true rows row n h l =
    (let x : n ≡ rows * row = omega (arith, h, l) in ap (λ m. m % row) x ∙ mul-mod_left rows row)
rows_by false rows row n h l = ap (λ m. m % row) h ∙ zero-mod row

pub whole_rows : (i : OpenImage) (n row : ℕ) → n ≡ next_chunk_sample_count i → n < 2 ^ 64 - 1
    → row ≡ row_samples (image_page i) → n % row ≡ 0
unfolding next_chunk_sample_count
whole_rows i n row h l r =
    ap (λ x. n % x) r ∙ rows_by (is_left i) (chunk_rows (image_page i) (length i.chunks))
    (row_samples (image_page i)) n h l

-- ---- a chunk stored as given bytes

-- a refused call has an outcome with its error
refused_told : {A : Type 0} (cause : Option TiffError) (call : WriteCall A) (file : FileState)
    (e : TiffError) → cause ≡ Some e
    → EndsAsDefined (by_cause cause call file) (Err e) file
refused_told cause call file e c =
    let P : Option TiffError → Type 0 = λ k. EndsAsDefined (by_cause k call file) (Err e) file in
    subst P (sym c) (record { answer = refl; state = refl })

module _ (old : FileState) (i : OpenImage) (n : ℕ) (stored : List ℕ) where
  abbrev Appended : Result (Unit {0}) TiffError → FileState → OpenImage → Type 0
  Appended r new next = AppendsChunk (write_chunk i n stored old) i r old new next

  -- the outcome of the call, by the error that refuses it
  abbrev told_by : Option TiffError → WriteOutcome OpenImage
  told_by cause = by_cause cause (appends_chunk i stored) old

  abbrev AppendedBy : Option TiffError → Result (Unit {0}) TiffError → FileState → OpenImage
      → Type 0
  AppendedBy cause r new next = AppendsChunk (told_by cause) i r old new next

  by_none : (m : ℕ) (r : Result (Unit {0}) TiffError) (new : FileState) (next : OpenImage)
      → m ≡ length stored
      → write_chunk_cause old i n m ≡ None → AppendedBy None r new next → Appended r new next
  unfolding write_chunk
  by_none m r new next l c h =
      subst (λ cause. AppendedBy cause r new next) (sym c ∙ ap (write_chunk_cause old i n) l) h

  -- the call is refused
  pub append_refused : (m : ℕ) (e : TiffError) → m ≡ length stored
      → write_chunk_cause old i n m ≡ Some e → Appended (Err e) old i
  unfolding write_chunk
  append_refused m e l c =
      (refl, inl (refused_told (write_chunk_cause old i n (length stored)) (appends_chunk i stored) old e (ap (write_chunk_cause old i n) (sym l) ∙ c)))

  -- the call runs out of memory
  pub append_wanting : (m : ℕ) (next : OpenImage) → m ≡ length stored
      → write_chunk_cause old i n m ≡ None → next ≡ i
      → Appended (Err OutOfMemory) old next
  append_wanting m next l c q =
      by_none m (Err OutOfMemory) old next l c
      (q, inr (inr (refl, refl)))

  -- the sink fails
  pub append_cut : (m : ℕ) (e : TiffError) (new : FileState) (next : OpenImage) → m ≡ length stored
      → old.fault ≡ None
      → write_chunk_cause old i n m ≡ None
      → AppendIsStopped e old new ⊎ AppendIsCut stored e old new → next ≡ i
      → Appended (Err e) new next
  append_cut m e new next l f c h q =
      by_none m (Err e) new next l c (
        q,
        inr (inl (elim h as (λ _. AppendFailed (told_by None).ops e old new) [
          | inl s ↦ absurd (none_some old.fault f s.failed)
          | inr x ↦ cut_off (told_by None).ops e old new (subst (λ xs. AppendIsCut xs e old new) (sym (append-nil stored)) x)
        ])),
      )

  -- the chunk is stored
  pub append_done : (m offset : ℕ) (new : FileState) (next : OpenImage) → m ≡ length stored
      → write_chunk_cause old i n m ≡ None
      → offset ≡ end_of old → new ≡ file_with_bytes old stored
      → next ≡ with_chunk i offset (length stored) → Appended (Ok tt) new next
  append_done m offset new next l c at g q =
      by_none m (Ok tt) new next l c
      (record { answer = ap Ok (ap (λ p. with_chunk i p (length stored)) (sym at) ∙ sym q); state = g })

-- ---- samples that are compressed first

counted_by : (fault : Option SinkFault) (far left same other : Bool)
    → unless_ended fault (cond far (Some IntSizeError) (cond (not left || not same) (Some (IoError InvalidData)) (cond other (Some IntSizeError) None))) ≡ None
    → same ≡ true
counted_by None false true true other h = refl
counted_by None false true false other h = absurd cc
counted_by None false false same other h = absurd cc
counted_by None true left same other h = absurd cc
counted_by (Some f) far left same other h = absurd cc

-- a chunk that nothing refuses has the expected number of samples
pub chunk_counted : (old : FileState) (i : OpenImage) (n stored : ℕ)
    → write_chunk_cause old i n stored ≡ None → n ≡ next_chunk_sample_count i
unfolding write_chunk_cause
chunk_counted old i n stored h =
    eqb-true n (next_chunk_sample_count i)
    (counted_by old.fault (is_past_chunks i) (is_left i) (n == next_chunk_sample_count i) (is_past old.kind (end_of old) || is_past old.kind stored) h)

-- ---- samples whose bytes are made on the fly

module _ (i : OpenImage) (ns : List ℕ) (size : ℕ) (sized : i.size ≡ size) where
  -- the number of bytes of the samples
  pub unpacked_len : (n : ℕ) → n ≡ length ns * size → n ≡ length (unpacked_chunk i ns)
  unfolding unpacked_chunk differences
  unpacked_len n h =
      let p = image_page i in
      let many =
      length-map-range_with_len (stored_difference i.predictor (256 ^ i.size) (row_samples p) (stored_samples p) ns) 0 (length ns) in
      h ∙ ap (λ k. length ns * k) (sym sized) ∙ ap (λ k. k * i.size) (sym many)
      ∙ sym (length_written i.size (differences i.predictor (256 ^ i.size) (row_samples p) (stored_samples p) ns))

  -- the bytes of the samples are those of the chunk
  pub unpacked_is : (predictor : Predictor) (row stride : ℕ) → i.predictor ≡ predictor
      → row ≡ row_samples (image_page i) → stride ≡ stored_samples (image_page i)
      → flat_map (le size) (differences predictor (256 ^ size) row stride ns) ≡ unpacked_chunk i ns
  unfolding unpacked_chunk
  unpacked_is predictor row stride is wide deep =
      λ j. flat_map (le (sym sized j)) (differences (sym is j) (256 ^ sym sized j) (wide j) (deep j) ns)

-- uncompressed bytes are stored as they are
module _ (i : OpenImage) (samples : List ℕ) (packed : i.compression ≡ Uncompressed) where
  pub plain_stored : (xs : List ℕ) → xs ≡ unpacked_chunk i samples → IsChunkStored i xs samples
  plain_stored xs h =
      subst (λ c. IsCompressed c (row_samples (image_page i) * i.size) xs (unpacked_chunk i samples)) (sym packed) h

-- ---- samples that are stored

module _ (old : FileState) (i : OpenImage) (samples : List ℕ) (new : FileState) (next : OpenImage) where
  -- a chunk of samples is stored as bytes that encode them
  pub chunk_stored : (count : ℕ) (stored : List ℕ) (r : Result (Unit {0}) TiffError)
      → count ≡ length samples
      → IsChunkStored i stored samples
      → AppendsChunk (write_chunk i count stored old) i r old new next
      → StoresChunk write_chunk i samples r old new next
  chunk_stored count stored (Ok x) counted is_stored h =
      (stored, (is_stored, subst (λ t. EndsAsDefined t (Ok next) new) (ap (λ k. write_chunk i k stored old) counted) h))
  chunk_stored count stored (Err e) counted is_stored h =
      let same : write_chunk i count stored old ≡ write_chunk i (length samples) stored old =
      ap (λ k. write_chunk i k stored old) counted in (
        h.0,
        elim h.1 as (λ _. ((e ≡ OutOfMemory) × (new ≡ old))
            ⊎ ((xs : List ℕ) × (IsChunkStored i xs samples × (EndsAsDefined (write_chunk i (length samples) xs old) (Err e) new ⊎ AppendFailed (write_chunk i (length samples) xs old).ops e old new)))) [
              | inl t ↦ inr (stored, (is_stored, inl (subst (λ t. EndsAsDefined t (Err e) new) same t)))
              | inr h ↦ elim h [
                | inl c ↦ inr (stored, (is_stored, inr (subst (λ (t : WriteOutcome OpenImage). AppendFailed t.ops e old new) same c)))
                | inr w ↦ inl w
              ]
            ],
      )

  -- a chunk of samples is stored if nothing refuses it
  pub chunk_written : (n : ℕ) (r : Result (Unit {0}) TiffError) → write_chunk_cause old i n 0 ≡ None
      → StoresChunk write_chunk i samples r old new next
      → WritesStoredChunk write_chunk (write_chunk_cause old i n 0) i samples r old new next
  chunk_written n r uncaused h =
      subst (λ cause. WritesStoredChunk write_chunk cause i samples r old new next) (sym uncaused) h

-- ---- samples that are stored as they are in memory

-- without a predictor, numbers stay the same
pub left_plain : (m l s : ℕ) (ns : List ℕ) → differences predictor.None m l s ns ≡ ns
unfolding differences
left_plain m l s ns = sym (fill_by_all (λ k. get_or ns k 0) ns (length ns) 0 refl (λ k h. refl))

module _ (i : OpenImage) (samples : List ℕ) (size : ℕ)
    (packed : i.compression ≡ Uncompressed)
    (differs : i.predictor ≡ predictor.None) (sized : i.size ≡ size) where
  -- the bytes of the samples are those of the chunk
  pub lent : (xs : List ℕ) → xs ≡ flat_map (le size) samples → IsChunkStored i xs samples
  unfolding unpacked_chunk
  lent xs h =
      let p = image_page i in
      let plain =
      ap (λ q. flat_map (le i.size) (differences q (256 ^ i.size) (row_samples p) (stored_samples p) samples)) differs
      ∙ ap (flat_map (le i.size)) (left_plain (256 ^ i.size) (row_samples p) (stored_samples p) samples)
      ∙ ap (λ n. flat_map (le n) samples) sized in
      plain_stored i samples packed xs (h ∙ sym plain)

module _ {V : Type 0} (bytes : V → List ℕ) (i : OpenImage) (samples : List ℕ) (size : ℕ)
    (packed : i.compression ≡ Uncompressed)
    (differs : i.predictor ≡ predictor.None) (sized : i.size ≡ size) where
  -- borrowed bytes, if there are some, are those of the chunk
  pub lent_some : (o : Option V) → IfSome o (λ b. bytes b ≡ flat_map (le size) samples)
      → IfSome o (λ b. IsChunkStored i (bytes b) samples)
  lent_some None h = h
  lent_some (Some b) h = lent i samples size packed differs sized (bytes b) h

-- ---- samples that are packed

-- a compression that packs, but not by rows, packs as a whole
pub packs_whole : (c : Compression) → compression_method c ≡ method.PackBits → c ≢ PackbitsRows
    → c ≡ Packbits
packs_whole Uncompressed h n = absurd cc
packs_whole Packbits h n = refl
packs_whole PackbitsRows h n = absurd (n refl)

-- the packed bytes of a chunk store its samples
module _ (i : OpenImage) (samples stored bytes : List ℕ) (r : Result (Unit {0}) TiffError)
    (same : bytes ≡ unpacked_chunk i samples) where
  abbrev Packed : (List ℕ → List ℕ → Type 0) → List ℕ → Type 0
  Packed P xs = MatchResult r (λ _. P xs stored) (λ e. e ≡ OutOfMemory)

  abbrev StoredBy : Compression → Type 0
  StoredBy c =
      MatchResult r (λ _. IsCompressed c (row_samples (image_page i) * i.size) stored (unpacked_chunk i samples)) (λ e. e ≡ OutOfMemory)

  pub whole_stored : i.compression ≡ Packbits → Packed IsPacked bytes → StoredBy i.compression
  whole_stored is h = subst StoredBy (sym is) (subst (λ xs. Packed IsPacked xs) same h)

  pub rows_stored : (row : ℕ) → row ≡ row_samples (image_page i) * i.size
      → i.compression ≡ PackbitsRows → Packed (ArePackedRows row) bytes
      → StoredBy i.compression
  rows_stored row wide is h =
      subst StoredBy (sym is) (subst (λ n. Packed (ArePackedRows n) (unpacked_chunk i samples)) wide (subst (λ xs. Packed (ArePackedRows row) xs) same h))

-- as many differences as numbers
pub length_differences : (q : Predictor) (m l s : ℕ) (ns : List ℕ)
    → length (differences q m l s ns) ≡ length ns
unfolding differences
length_differences q m l s ns =
    length-map-range_with_len (stored_difference q m l s ns) 0 (length ns)

-- the bytes of whole rows are whole rows of bytes
pub whole_bytes : (size row : ℕ) (numbers : List ℕ) → length numbers % row ≡ 0
    → length (flat_map (le size) numbers) % (row * size) ≡ 0
whole_bytes size row numbers h =
    let n : ℕ = length numbers / row in
    let rows : length numbers ≡ n * row = sym (div-mul_cancel row (dvd_of_mod-eq-zero row h)) in
    let long : length (flat_map (le size) numbers) ≡ n * (row * size) =
    length_written size numbers ∙ (ap (λ m. m * size) rows ∙ mul_assoc n row size) in
    ap (λ m. m % (row * size)) long ∙ mul-mod_left n (row * size)

-- a number of each type has one to eight bytes
size_bounds : (type : «Type») → (0 < type_size type) × (type_size type ≤ 8)
size_bounds BYTE = (lit< tt, lit≤ tt)
size_bounds ASCII = (lit< tt, lit≤ tt)
size_bounds SHORT = (lit< tt, lit≤ tt)
size_bounds LONG = (lit< tt, lit≤ tt)
size_bounds RATIONAL = (lit< tt, lit≤ tt)
size_bounds SBYTE = (lit< tt, lit≤ tt)
size_bounds UNDEFINED = (lit< tt, lit≤ tt)
size_bounds SSHORT = (lit< tt, lit≤ tt)
size_bounds SLONG = (lit< tt, lit≤ tt)
size_bounds SRATIONAL = (lit< tt, lit≤ tt)
size_bounds FLOAT = (lit< tt, lit≤ tt)
size_bounds DOUBLE = (lit< tt, lit≤ tt)
size_bounds IFD = (lit< tt, lit≤ tt)
size_bounds LONG8 = (lit< tt, lit≤ tt)
size_bounds SLONG8 = (lit< tt, lit≤ tt)
size_bounds IFD8 = (lit< tt, lit≤ tt)

-- a row has some bytes, and few enough
pub some_bytes : (type : «Type») (row size : ℕ) → size ≡ type_size type → 0 < row → 0 < row * size
some_bytes type row size e h =
    let s : 0 < size =
    omega (arith, e, (size_bounds type).0) in omega (arith, h, le-mul_of_pos_right row s)

pub few_bytes : (type : «Type») (row size : ℕ) → size ≡ type_size type → row < 2 ^ 48
    → row * size < 2 ^ 64
few_bytes type row size e h =
    let s : size ≤ 8 = omega (arith, e, (size_bounds type).1) in
    omega (arith, h, mul-le-mul_left row s)
