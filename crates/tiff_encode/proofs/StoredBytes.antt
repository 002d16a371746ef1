-- Samples that are given as bytes, and are stored as they are.
use Rattle.std.proofs.Common.{◌≡◌, ℕ, ◌+◌, ◌-◌, ◌*◌, ◌%◌, ◌≤◌, true, cond, List, length, take, drop, Result, refl, ap, sym, ◌∙◌, subst, arith}
use Rattle.std.proofs.Math.Nat.{mul-le-mul_right}
use Rattle.std.proofs.lemmas.List.{length-map}
use Rattle.std.specs.Prelude.{Option, Some, None, IfSome}
use Rattle.tiff_base.specs.declared.error.TiffError.{TiffError}
use Rattle.tiff_base.specs.SourceAndSink.{AreOctets}
use Rattle.tiff_page.specs.Pixels.{numbers_in}
use Rattle.tiff_page.specs.Row.{IsSize}
use Rattle.tiff_page.specs.lemmas.Rows.{some_size}
use Rattle.tiff_value.specs.ColorType.{sample_number}
use Rattle.tiff_encode.specs.declared.encoder.image.chunks.ImageSamples.{ImageSamples}
use Rattle.tiff_encode.specs.declared.encoder.image.chunks.ImageSamples.TheVariants.{Typed, Stored}
use Rattle.tiff_encode.specs.Calls.{write_chunk}
use Rattle.tiff_encode.specs.Causes.{image_samples}
use Rattle.tiff_encode.specs.Chunks.{image_page, row_samples, chunk_samples, is_in_order, cut_out}
use Rattle.tiff_encode.specs.Given.{given_count, given_numbers, AreStorable, StoresBytes}
use Rattle.tiff_encode.specs.Machine.{FileState, OpenImage}
use Rattle.tiff_encode.specs.Parts.{next_part, next_slice, WritesPart}
use Rattle.tiff_encode.specs.Stored.{IsChunkStored}
use Rattle.tiff_encode.specs.Storing.{AppendsChunk, StoresChunk}
use Rattle.tiff_encode.proofs.Data.Pieces.{part_written}
use Rattle.tiff_encode.specs.lemmas.NumbersIn.{bytes_again, part_numbers}
use Rattle.tiff_encode.proofs.Storing.{chunk_stored, lent}

-- Samples are as many as their numbers.
pub count_given : {S : Type 0} (size : ℕ) (bits : S → ℕ) (samples : ImageSamples S)
    → given_count size samples ≡ length (given_numbers size bits samples)
count_given size bits (Typed samples) =
    sym (length-map samples.now (sample_number size bits))
count_given size bits (Stored bytes) = refl

-- Samples that an image can store as they are can be stored so after each of its chunks.
pub still_storable : {S : Type 0} (size : ℕ) (i now : OpenImage) (samples : ImageSamples S)
    → now ≡ record i { chunks = now.chunks } → AreStorable size i samples
    → AreStorable size now samples
still_storable size i now (Typed samples) same h = tt
still_storable size i now (Stored bytes) same h = (
  record {
    stores = record {
      packed = ap (λ x. x.compression) same ∙ h.0.stores.packed;
      differs = ap (λ x. x.predictor) same ∙ h.0.stores.differs;
    };
    order = ap (λ x. is_in_order x.form) same ∙ h.0.order;
  },
  h.1,
)

-- The bytes from the first to the last sample of the next strip hold the samples of this strip.
pub strip_numbers : (i : OpenImage) (k : ℕ) (bytes : List ℕ) (size len start end : ℕ) → IsSize size
    → len ≡ size → start ≡ k * (i.form.chunk_height * row_samples (image_page i))
    → end ≡ start + chunk_samples (image_page i) (length i.chunks) → end ≤ image_samples i
    → image_samples i * size ≤ length bytes
    → numbers_in size (take (end * len - start * len) (drop (start * len) bytes))
    ≡ next_slice i (numbers_in size bytes) k
strip_numbers i k bytes size len start end z same from to within whole =
    let n : ℕ = chunk_samples (image_page i) (length i.chunks) in
    let all : end * size ≤ image_samples i * size = mul-le-mul_right size within in
    let enough : end * size ≤ length bytes = omega (arith, all, whole) in
    let fits : (start + n) * size ≤ length bytes =
    subst (λ m. m * size ≤ length bytes) to enough in
    let split : (start + n) * len ≡ start * len + n * len = omega arith in
    let last : end * len ≡ (start + n) * len = ap (λ m. m * len) to in
    let gap : end * len - start * len ≡ n * len = omega (arith, split, last) in
    ap (λ m. numbers_in size (take m (drop (start * len) bytes))) gap
    ∙ ap (λ m. numbers_in size (take (n * m) (drop (start * m) bytes))) same
    ∙ part_numbers size start n bytes (some_size size z) fits
    ∙ ap (λ m. take n (drop m (numbers_in size bytes))) from

-- Where the bytes of a chunk's samples are appended, the chunk is stored.
pub bytes_stored : (i : OpenImage) (size : ℕ) (bytes : List ℕ) → StoresBytes i → i.size ≡ size
    → IsSize size → AreOctets bytes → length bytes % size ≡ 0
    → (old new : FileState) (next : OpenImage) (count : ℕ) (r : Result (Unit {0}) TiffError)
    → count ≡ length (numbers_in size bytes)
    → AppendsChunk (write_chunk i count bytes old) i r old new next
    → StoresChunk write_chunk i (numbers_in size bytes) r old new next
bytes_stored i size bytes stores sized z octets whole old new next count r counted h =
    let samples : List ℕ = numbers_in size bytes in
    let stored : IsChunkStored i bytes samples =
    lent i samples size stores.packed stores.differs sized bytes
    (sym (bytes_again size bytes z octets whole)) in
    chunk_stored old i samples new next count bytes r counted stored h

-- Where the strip is stored that is the next out of all samples, after k strips of them, the next
-- part of these is written.
pub strip_written : (i : OpenImage) (all part : List ℕ) (k : ℕ) → is_in_order i.form ≡ true
    → part ≡ next_slice i all k
    → (old new : FileState) (next : OpenImage) (r : Result (Unit {0}) TiffError)
    → StoresChunk write_chunk i part r old new next
    → WritesPart i (next_part i all k) r old new next
strip_written i all part k order is old new next r h =
    let same : part ≡ next_part i all k =
    is
    ∙ ap (λ b. cond b (next_slice i all k) (cut_out (image_page i) all (length i.chunks))) (sym order) in
    part_written i part (next_part i all k) same old new next r h

-- What a value that is there keeps may be told in other words.
pub some_also : {V : Type 0} (o : Option V) (P Q : V → Type 0) → ((v : V) → P v → Q v)
    → IfSome o P → IfSome o Q
some_also None P Q f h = h
some_also (Some v) P Q f h = f v h
