-- The file of an image without compression and predictor is the bytes of its samples in a frame,
-- which depends only on how
-- many samples there are.
use Rattle.std.proofs.Common.{◌≡◌, ℕ, ◌+◌, ◌*◌, ◌<◌, ◌≤◌, inl, inr, List, [], ◌∷◌, ◌++◌, length, map, take, drop, Some, None, Result, Ok, refl, ap, ap₂, sym, ◌∙◌, subst, arith, lit<, append_assoc, length-append, append-nil}
use Rattle.std.proofs.lemmas.List.{take-append-le, drop-append-le, length-take-le, length-drop, length-map}
use Rattle.std.specs.List.{flat_map}
use Rattle.tiff_base.specs.declared.error.TiffError.{TiffError}
use Rattle.tiff_base.specs.declared.tags.FileKind.{FileKind}
use Rattle.tiff_base.specs.declared.tags.FileKind.TheVariants.{Classic, Big}
use Rattle.tiff_base.specs.declared.tags.Predictor.TheVariants as predictor
use Rattle.tiff_base.specs.Number.{le}
use Rattle.tiff_base.specs.SourceAndSink.{put}
use Rattle.tiff_value.specs.ColorType.{columns_of}
use Rattle.tiff_value.specs.ColorTypes.{color_type, inner_size}
use Rattle.tiff_encode.specs.declared.encoder.settings.Compression.TheVariants.{Uncompressed}
use Rattle.tiff_value.specs.FileBytes.{offset_len, directory_bytes, header_mark}
use Rattle.tiff_value.specs.Model.{header_link}
use Rattle.tiff_value.specs.WriteOps.{WriteOp, Appended, Supplied, Listed, Linked, bytes_after}
use Rattle.tiff_encode.specs.Machine.{FileState, OpenDirectory, OpenImage, WriteOutcome, after_ops, by_cause, ◌>>=◌}
use Rattle.tiff_encode.specs.Causes.{end_of, image_samples, write_image_data_cause}
use Rattle.tiff_encode.specs.Chunks.{image_page, row_samples, parts_left}
use Rattle.tiff_encode.specs.Calls.{Offsets, image_in, new_image, finish_image, write_image_data}
use Rattle.tiff_encode.specs.Ends.{EndsAsDefined}
use Rattle.tiff_encode.specs.ImageData.{WritesImage, WritesDataBy}
use Rattle.tiff_encode.specs.Open.{IsOpen}
use Rattle.tiff_encode.specs.Stored.{AreStored, IsCompressed, unpacked_chunk}
use Rattle.tiff_base.specs.lemmas.Slices.{length-le}
use Rattle.tiff_page.specs.lemmas.WrittenNumbers.{length_written}
use Rattle.tiff_encode.proofs.Joining.{bind_told}
use Rattle.tiff_encode.proofs.Data.Begun.{new_adding, new_is}
use Rattle.tiff_encode.proofs.Data.Calls.{AreAt}
use Rattle.tiff_encode.proofs.Data.Chunks.{chunks_adding, chunks_done, data_chunks, data_mid, image_patches, same_directory}
use Rattle.tiff_encode.proofs.Data.Leaves.{IsWritten}
use Rattle.tiff_encode.proofs.Data.Shows.{data_ended}
use Rattle.tiff_ffi.specs.declared.writer.Settings.{Settings}
use Rattle.tiff_ffi.specs.Writer.{file_by, front_len}
use Rattle.tiff_ffi.proofs.FrameFront.{new_front}
use Rattle.tiff_ffi.proofs.FrameStrips.{joined, strips_appended, strips_are, unpacked_plain, parts_are, parts_alike}
use Rattle.tiff_ffi.proofs.FrameAlike.{TellsAlike, other, sizes, image_alike, image_kept, chunks_alike}

-- ---- a frame

-- The bytes that are left of a file when some writes were made to it: a frame around the bytes in
-- its middle, whatever these are.
record HasFrame (kind : FileKind) (front behind : List ℕ) (ops : List WriteOp) : Type 0 where
  before : List ℕ
  after : List ℕ
  as_long : length before ≡ length front
  is : (middle : List ℕ) → bytes_after kind (front ++ (middle ++ behind)) ops ≡ before
      ++ (middle ++ after)

put_within : (q : ℕ) (over front rest : List ℕ) → q + length over ≤ length front
    → put (front ++ rest) q over ≡ put front q over ++ rest
put_within q over front rest l =
    ap₂ (λ xs ys. xs ++ (over ++ ys)) (take-append-le q front rest (omega (arith, l)))
    (drop-append-le (q + length over) front rest l)
    ∙ ap (λ ys. take q front ++ ys) (sym (append_assoc over (drop (q + length over) front) rest))
    ∙ sym (append_assoc (take q front) (over ++ drop (q + length over) front) rest)

put_len : (q : ℕ) (over xs : List ℕ) → q + length over ≤ length xs
    → length (put xs q over) ≡ length xs
put_len q over xs l =
    omega (arith, l, length-append (take q xs) (over ++ drop (q + length over) xs), length-append over (drop (q + length over) xs), length-take-le q xs (omega (arith, l)), length-drop (q + length over) xs)

appended : (front behind more : List ℕ) (middle : List ℕ)
    → (front ++ (middle ++ behind)) ++ more ≡ front ++ (middle ++ (behind ++ more))
appended front behind more middle =
    append_assoc front (middle ++ behind) more
    ∙ ap (λ xs. front ++ xs) (append_assoc middle behind more)

-- Writes that append, and set a link in front of the middle, leave a frame.
framed_by : (kind : FileKind) (q : ℕ) (front behind : List ℕ) (ops : List WriteOp)
    → AreAt (Some q) ops → q + offset_len kind ≤ length front
    → HasFrame kind front behind ops
framed_by kind q front behind [] a l =
    record { before = front; after = behind; as_long = refl; is = λ middle. refl }
framed_by kind q front behind (Appended more ∷ ops) a l =
    let h = framed_by kind q front (behind ++ more) ops a l in
    record { before = h.before; after = h.after; as_long = h.as_long; is = λ middle. ap (λ bs. bytes_after kind bs ops) (appended front behind more middle) ∙ h.is middle }
framed_by kind q front behind (Supplied s ∷ ops) a l =
    let h =
    framed_by kind q front behind ops a l in
    record { before = h.before; after = h.after; as_long = h.as_long; is = h.is }
framed_by kind q front behind (Listed fields ∷ ops) a l =
    let more : List ℕ = directory_bytes kind fields in
    let h = framed_by kind q front (behind ++ more) ops a l in
    record { before = h.before; after = h.after; as_long = h.as_long; is = λ middle. ap (λ bs. bytes_after kind bs ops) (appended front behind more middle) ∙ h.is middle }
framed_by kind q front behind (Linked offset target ∷ ops) a l =
    let over : List ℕ = le (offset_len kind) target in
    let size : length over ≡ offset_len kind = length-le 0 (offset_len kind) target in
    let given = a.0 in
    let here : q ≡ offset = cc in
    let fits : offset + length over ≤ length front = omega (arith, l, size, here) in
    let len : length (put front offset over) ≡ length front = put_len offset over front fits in
    let h = framed_by kind q (put front offset over) behind ops a.1 (omega (arith, l, len)) in
    record {
      before = h.before;
      after = h.after;
      as_long = h.as_long ∙ len;
      is =
          λ middle. ap (λ bs. bytes_after kind bs ops) (put_within offset over front (middle
          ++ behind) fits) ∙ h.is middle;
    }

-- ---- the whole file

-- The link of an empty file is the header's.
pub chain_of : (kind : FileKind) → length {A = ℕ} [] + length (header_mark kind) ≡ header_link kind
chain_of Classic = refl
chain_of Big = refl

-- the link of a header is before the first strip
link_before : (kind : FileKind) → header_link kind + offset_len kind ≤ front_len kind
link_before Classic = lit< tt
link_before Big = lit< tt

-- the bytes of the strips of samples, as they are stored
abbrev pub given_for : OpenImage → List ℕ → List (List ℕ)
given_for i samples = map (unpacked_chunk i) (parts_left i samples)

all_stored : (i : OpenImage) (parts : List (List ℕ)) → i.compression ≡ Uncompressed
    → AreStored i parts (map (unpacked_chunk i) parts)
all_stored i [] m = tt
all_stored i (part ∷ parts) m =
    (subst (λ k. IsCompressed k (row_samples (image_page i) * i.size) (unpacked_chunk i part) (unpacked_chunk i part)) (sym m) refl, all_stored i parts m)

-- strips of as many samples have as many bytes
stored_sizes : (i : OpenImage) (parts others stored : List (List ℕ)) → i.compression ≡ Uncompressed
    → i.predictor ≡ predictor.None
    → sizes others ≡ sizes parts → length stored ≡ length parts → AreStored i parts stored
    → sizes (map (unpacked_chunk i) others) ≡ sizes stored
stored_sizes i [] [] [] m p s n a = refl
stored_sizes i [] (o ∷ others) stored m p s n a = absurd cc
stored_sizes i (part ∷ parts) [] stored m p s n a = absurd cc
stored_sizes i [] [] (b ∷ stored) m p s n a = absurd (omega (arith, n))
stored_sizes i (part ∷ parts) (o ∷ others) [] m p s n a = absurd (omega (arith, n))
stored_sizes i (part ∷ parts) (o ∷ others) (b ∷ stored) m p s n a =
    let is : b ≡ unpacked_chunk i part =
    subst (λ k. IsCompressed k (row_samples (image_page i) * i.size) b (unpacked_chunk i part)) m a.0 in
    let first : length o ≡ length part = cc in
    let rest : sizes others ≡ sizes parts = cc in
    let len : (xs : List ℕ) → length (unpacked_chunk i xs) ≡ length xs * i.size =
    λ xs. ap (λ (bs : List ℕ). length bs) (unpacked_plain i xs p) ∙ length_written i.size xs in
    ap₂ ◌∷◌ (len o ∙ ap (λ k. k * i.size) first ∙ sym (len part)
    ∙ ap (λ (bs : List ℕ). length bs) (sym is))
    (stored_sizes i parts others stored m p rest (omega (arith, n)) a.1)

-- ---- the same image with other samples

-- The samples are all of an image, and their bytes are in its file as they are.
pub record IsKept (s : Settings) (all count : ℕ) : Type 0 where
  pub packs : s.compression ≡ Uncompressed
  pub differs : s.predictor ≡ predictor.None
  pub whole : count ≡ all

module _ (s : Settings) (width height failures : ℕ) (zeros samples : List ℕ)
    (same : length samples ≡ length zeros)
    (kept : IsKept s (columns_of (color_type s.color) width * height * length (color_type s.color).bits) (length zeros))
    (i : OpenImage) (mid last : FileState)
    (begun : EndsAsDefined (new_image (color_type s.color) (inner_size s.color) width height (file_by s failures)) (Ok i) mid)
    (o : IsOpen i) (w : IsWritten i zeros mid last) where
  abbrev old : FileState
  old = file_by s failures

  -- the bytes of samples
  abbrev pub raw : List ℕ → List ℕ
  raw xs = flat_map (le (inner_size s.color)) xs

  abbrev d : OpenDirectory
  d = (new_is (color_type s.color) (inner_size s.color) width height old i begun.answer).0

  abbrev here : OpenImage
  here = image_in old d (color_type s.color) (inner_size s.color) width height

  is : here ≡ i
  is = (new_is (color_type s.color) (inner_size s.color) width height old i begun.answer).1.0

  plain : i.compression ≡ Uncompressed
  plain = ap (λ j. j.compression) (sym is) ∙ kept.packs

  whole : i.predictor ≡ predictor.None
  whole = ap (λ j. j.predictor) (sym is) ∙ kept.differs

  parts_sizes : sizes (parts_left i samples) ≡ sizes (parts_left i zeros)
  parts_sizes =
      subst (λ j. sizes (parts_left j samples) ≡ sizes (parts_left j zeros)) is
      (parts_alike old d (color_type s.color) (inner_size s.color) width height zeros samples same)

  -- the strips of zeros, and those of the samples
  abbrev given : List (List ℕ)
  given = given_for i samples

  abbrev ended : (end : OpenImage) × (((data_chunks i zeros w.stored mid mid).answer ≡ Ok end)
      × (write_image_data i zeros w.stored mid ≡ after_ops (data_chunks i zeros w.stored mid mid).ops (finish_image end (data_mid i zeros w.stored mid))))
  ended = data_ended i zeros mid last w

  abbrev end : OpenImage
  end = ended.0

  abbrev then : FileState
  then = data_mid i zeros w.stored mid

  abbrev pub then_given : FileState
  then_given = data_mid i samples given mid

  answered : (data_chunks i samples given mid mid).answer ≡ Ok end
  answered =
      chunks_alike i end (parts_left i zeros) (parts_left i samples) w.stored given mid mid.bytes refl parts_sizes
      (stored_sizes i (parts_left i zeros) (parts_left i samples) w.stored plain whole parts_sizes w.all w.are_stored) ended.1.0

  -- what the samples of these strips are in bytes
  strips_in : (xs : List ℕ) (stored : List (List ℕ)) (end : OpenImage) → length xs ≡ length zeros
      → AreStored i (parts_left i xs) stored
      → length stored ≡ length (parts_left i xs) → (data_chunks i xs stored mid mid).answer ≡ Ok end
      → (data_mid i xs stored mid).bytes ≡ mid.bytes ++ (raw xs ++ [])
  strips_in xs stored end as_many are all h =
      let samples_are : length xs ≡ image_samples here =
      let k = kept.whole in omega (arith, k, as_many) in
      let wide : 0 < here.width = subst (λ j. 0 < j.width) (sym is) o.wide.0 in
      let high : 0 < here.form.chunk_height =
      subst (λ j. 0 < j.form.chunk_height) (sym is) o.form.high.0 in
      let parts : joined (parts_left i xs) ≡ xs =
      subst (λ j. joined (parts_left j xs) ≡ xs) is (parts_are old d (color_type s.color) (inner_size s.color) width height wide high xs samples_are) in
      let size : i.size ≡ inner_size s.color = ap (λ j. j.size) (sym is) in
      strips_appended i end (parts_left i xs) stored mid all h
      ∙ ap (λ bs. mid.bytes ++ bs)
      (strips_are i (parts_left i xs) stored plain whole all are
      ∙ (λ k. flat_map (le (size k)) (parts k)) ∙ sym (append-nil (raw xs)))

  abbrev given_stored : AreStored i (parts_left i samples) given
  given_stored = all_stored i (parts_left i samples) plain

  given_many : length given ≡ length (parts_left i samples)
  given_many = length-map (parts_left i samples) (unpacked_chunk i)

  zeros_in : then.bytes ≡ mid.bytes ++ (raw zeros ++ [])
  zeros_in = strips_in zeros w.stored end refl w.are_stored w.all ended.1.0

  samples_in : then_given.bytes ≡ mid.bytes ++ (raw samples ++ [])
  samples_in = strips_in samples given end same given_stored given_many answered

  raw_long : length (raw samples) ≡ length (raw zeros)
  raw_long =
      let a = length_written (inner_size s.color) samples in
      let b = length_written (inner_size s.color) zeros in
      a ∙ ap (λ n. n * inner_size s.color) same ∙ sym b

  -- the two files differ in their bytes alone, which are as many
  then_is : then_given ≡ other then then_given.bytes
  then_is =
      let a = (chunks_adding i (parts_left i samples) given mid).next in
      let b = (chunks_adding i (parts_left i zeros) w.stored mid).next in
      a ∙ sym (λ j. other (b j) (a j).bytes)

  long : length then_given.bytes ≡ end_of then
  long =
      let a : length then_given.bytes ≡ length (mid.bytes ++ (raw samples ++ [])) =
      ap (λ (bs : List ℕ). length bs) samples_in in
      let b : end_of then ≡ length (mid.bytes ++ (raw zeros ++ [])) =
      ap (λ (bs : List ℕ). length bs) zeros_in in
      omega (arith, a, b, raw_long, length-append mid.bytes (raw samples ++ []), length-append mid.bytes (raw zeros ++ []), length-append (raw samples) [], length-append (raw zeros) [])

  abbrev told : WriteOutcome Offsets
  told = finish_image end then

  abbrev pub told_given : WriteOutcome Offsets
  told_given = finish_image end then_given

  alike : TellsAlike told told_given
  alike =
      subst (λ f. TellsAlike told (finish_image end f)) (sym then_is) (image_alike end then
      then_given.bytes long)

  uncaused : write_image_data_cause mid i (length samples) ≡ None
  uncaused = ap (λ n. write_image_data_cause mid i n) same ∙ w.uncaused

  written : EndsAsDefined (write_image_data i samples given mid) (Ok w.offsets) told_given.next
  unfolding write_image_data
  written =
      let chunks = data_chunks i samples given mid in
      let finished : told.answer ≡ Ok w.offsets =
      ap (λ t. t.answer) (sym ended.1.1) ∙ w.told.answer in
      subst (λ c. EndsAsDefined (by_cause c (chunks
      >>= finish_image) mid) (Ok w.offsets) told_given.next) (sym uncaused)
      (bind_told chunks finish_image end (Ok w.offsets) mid then_given told_given.next
      (record { answer = answered; state = refl }) (record { answer = alike.answer ∙ finished; state = refl }))

  -- The samples are written as the zeros were.
  pub samples_written : (let r : Result (Unit {0}) TiffError = Ok tt in WritesImage (color_type s.color) (inner_size s.color) width height samples r old told_given.next)
  samples_written =
      let strips : (let r : Result (Unit {0}) TiffError = Ok tt in WritesDataBy None i samples r mid told_given.next) =
      inl (given, (given_stored, (given_many, (w.offsets, written)))) in
      inr (i, (mid, (begun, subst (λ c. let r : Result (Unit {0}) TiffError = Ok tt in WritesDataBy c i samples r mid told_given.next) (sym uncaused) strips)))

  -- No write of the sink failed.
  pub samples_fault : told_given.next.fault ≡ None
  samples_fault =
      image_kept end then_given ∙ ap (λ f. f.fault) (chunks_adding i (parts_left i samples) given mid).next ∙ ap (λ f. f.fault) begun.state
      ∙ ap (λ f. f.fault) (new_adding (color_type s.color) (inner_size s.color) width height old).next

  -- The two files are the same frame around the bytes of the samples.
  pub record IsFramed : Type 0 where
    pub before : List ℕ
    pub after : List ℕ
    pub as_long : length before ≡ front_len s.kind
    pub with_zeros : last.bytes ≡ before ++ (raw zeros ++ after)
    pub with_samples : told_given.next.bytes ≡ before ++ (raw samples ++ after)

  pub framed_alike : IsFramed
  framed_alike =
      let patches = image_patches end then in
      let at : AreAt (Some (header_link s.kind)) told.ops =
      subst (λ p. AreAt p told.ops)
      (ap (λ x. x.parent) (same_directory i zeros w.stored mid end ended.1.0)
      ∙ ap (λ j. j.directory.parent) (sym is)
      ∙ (new_is (color_type s.color) (inner_size s.color) width height old i begun.answer).1.1.parent ∙ ap Some (chain_of s.kind))
      patches.at in
      let kind : then.kind ≡ s.kind =
      (chunks_done i (parts_left i zeros) w.stored mid).kind ∙ ap (λ f. f.kind) begun.state
      ∙ ap (λ f. f.kind) (new_adding (color_type s.color) (inner_size s.color) width height old).next in
      let begins : length mid.bytes ≡ front_len s.kind =
      ap (λ f. end_of f) begun.state
      ∙ new_front (color_type s.color) (inner_size s.color) width height old i begun.answer refl in
      let before : header_link s.kind + offset_len then.kind ≤ length mid.bytes =
      (let b = link_before s.kind in let k : offset_len then.kind
      ≡ offset_len s.kind = ap offset_len kind in omega (arith, b, k, begins)) in
      let h = framed_by then.kind (header_link s.kind) mid.bytes [] told.ops at before in
      let ends : last.bytes ≡ bytes_after then.kind then.bytes told.ops =
      ap (λ f. f.bytes) w.told.state ∙ ap (λ t. t.next.bytes) ended.1.1 ∙ patches.done.bytes in
      let given_kind : then_given.kind ≡ then.kind = ap (λ f. f.kind) then_is in
      let given_ends : told_given.next.bytes ≡ bytes_after then.kind then_given.bytes told.ops =
      (image_patches end then_given).done.bytes
      ∙ (λ j. bytes_after (given_kind j) then_given.bytes (alike.ops j)) in
      record {
        before = h.before;
        after = h.after;
        as_long = h.as_long ∙ begins;
        with_zeros =
            ends ∙ ap (λ bs. bytes_after then.kind bs told.ops) zeros_in ∙ h.is (raw zeros);
        with_samples =
            given_ends ∙ ap (λ bs. bytes_after then.kind bs told.ops) samples_in
            ∙ h.is (raw samples);
      }
