-- A call writes the samples of a whole image.
use Rattle.std.proofs.Common.{◌≡◌, ℕ, ◌+◌, ◌*◌, ◌^◌, ◌<◌, ◌≤◌, Bool, true, false, cond, List, [], ◌∷◌, ◌++◌, length, take, drop, get_or, Option, Some, None, Result, Ok, Err, refl, ap, sym, ◌∙◌, subst, inl, inr, arith, append-nil}
use Rattle.std.proofs.Math.Seq.{take-length}
use Rattle.std.proofs.lemmas.Bool.{leb-false, ltb-false}
use Rattle.std.proofs.lemmas.List.{length-append, drop_more}
use Rattle.std.proofs.lemmas.List.FromFn.{length-map-range_with_len, get_or-map-range_with_len}
use Rattle.std.specs.Prelude.{◌&&◌, ◌||◌, not, nat_le, nat_lt}
use Rattle.tiff_base.specs.declared.error.TiffError.{TiffError}
use Rattle.tiff_base.specs.declared.error.TiffError.TheVariants.{IoError, IntSizeError, OutOfMemory}
use Rattle.tiff_base.specs.declared.io.IoKind.TheVariants.{InvalidData, InvalidInput}
use Rattle.tiff_base.specs.declared.io.SinkFault.{SinkFault}
use Rattle.tiff_page.specs.Rect.{rect}
use Rattle.tiff_encode.specs.Calls.{Offsets, with_chunk, appends_chunk, finish_image, write_chunk, write_chunks, write_image_data}
use Rattle.tiff_encode.specs.Causes.{unless_ended, image_samples, is_past_chunks, write_chunk_cause, write_image_data_cause}
use Rattle.tiff_encode.specs.Chunks.{image_page, row_samples, chunk_samples, is_begun, is_in_order, chunks_left, cut_out, part, parts_left}
use Rattle.tiff_value.specs.WriteOps.{WriteOp, all_appended}
use Rattle.tiff_encode.specs.Ends.{EndsAsDefined, AppendFailed, IsShortOfMemory, HasBegun, CallFails, Ends}
use Rattle.tiff_encode.specs.ImageData.{StopsWithin, WritesChunks, WritesDataBy, WritesImageData}
use Rattle.tiff_encode.specs.Machine.{FileState, Chunk, OpenImage, WriteOutcome, WriteCall, gives, answers, by_cause, and_then, ◌>>=◌}
use Rattle.tiff_encode.specs.Parts.{next_part, WritesPart}
use Rattle.tiff_encode.specs.FileWrites.{file_with_bytes}
use Rattle.tiff_encode.specs.Stored.{AreStored, unpacked_chunk, IsChunkStored}
use Rattle.tiff_encode.proofs.Calling.{uncaused}
use Rattle.tiff_encode.proofs.Joining.{IsAdding, appended_len, begun_both, bind_told, bind_ends}
use Rattle.tiff_encode.proofs.Leaving.{ok_err}
use Rattle.tiff_encode.proofs.Data.Chunks.{chunks_adding}
use Rattle.tiff_encode.proofs.Tagging.{going_alike, going_further}

-- The first k parts are written as chunks, one after another, and the image has these chunks.
pub record HasWritten (i : OpenImage) (parts : List (List ℕ)) (k : ℕ) (old new : FileState)
    (next : OpenImage) : Type 0 where
  pub stored : List (List ℕ)
  pub are : AreStored i parts stored
  pub count : length stored ≡ k
  pub told : EndsAsDefined (write_chunks i parts stored old) (Ok next) new
  pub same : next ≡ record i { chunks = next.chunks }
  pub chunks : length next.chunks ≡ length i.chunks + k

-- ---- one chunk more

ok_same : {A : Type 0} (x y : A) → (let r : Result A TiffError = Ok x in r) ≡ Ok y → x ≡ y
ok_same {A} x y h =
    let value : Result A TiffError → A = λ r. elim r as (λ _. A) [
      | Ok v ↦ v
      | Err e ↦ x
    ] in
    ap value h

-- after a call stores a chunk, the image has that chunk
added_by : (cause : Option TiffError) (i next : OpenImage) (stored : List ℕ) (old : FileState)
    → (by_cause cause (appends_chunk i stored) old).answer ≡ Ok next
    → (offset : ℕ) × (next ≡ with_chunk i offset (length stored))
added_by None i next stored old h =
    (length old.bytes, sym (ok_same (with_chunk i (length old.bytes) (length stored)) next h))
added_by (Some e) i next stored old h = absurd (ok_err (sym h))

pub chunk_added : (i next : OpenImage) (n : ℕ) (stored : List ℕ) (old : FileState)
    → (write_chunk i n stored old).answer ≡ Ok next
    → (offset : ℕ) × (next ≡ with_chunk i offset (length stored))
unfolding write_chunk
chunk_added i next n stored old h =
    added_by (write_chunk_cause old i n (length stored)) i next stored old h

-- without stored bytes, no chunk is written
none_stored : (i : OpenImage) (parts : List (List ℕ)) (file : FileState)
    → write_chunks i parts [] file ≡ answers (Ok i) file
none_stored i [] file = refl
none_stored i (p ∷ ps) file = refl

ends_giving : {A : Type 0} (r : Result A TiffError) (ops : List WriteOp) (next : FileState)
    → and_then r ops next (λ x. gives x)
    ≡ (let told : WriteOutcome A = record { answer = r; ops = ops; next = next } in told)
ends_giving (Ok x) ops next =
    ap (λ ds. record { answer = Ok x; ops = ds; next = next }) (append-nil ops)
ends_giving (Err e) ops next = refl

chunks_joined : (i : OpenImage) (parts stored : List (List ℕ)) (samples : List ℕ)
    (others : List (List ℕ)) (s : List ℕ) (file : FileState)
    → drop (length stored) parts ≡ samples ∷ others
    → write_chunks i parts (stored ++ s ∷ []) file
    ≡ (write_chunks i parts stored >>= (λ next. write_chunk next (length samples) s)) file
chunks_joined i [] [] samples others s file h = absurd cc
chunks_joined i (p ∷ ps) [] samples others s file h =
    let first : WriteOutcome OpenImage = write_chunk i (length p) s file in
    let same : p ≡ samples = ap (λ xs. get_or xs 0 []) h in
    going_alike first.answer first.ops first.next (λ next. write_chunks next ps [])
    (λ next. gives next) (λ next now. none_stored next ps now)
    ∙ ends_giving first.answer first.ops first.next
    ∙ ap (λ xs. write_chunk i (length xs) s file) same
chunks_joined i [] (x ∷ xs) samples others s file h = absurd cc
chunks_joined i (p ∷ ps) (x ∷ xs) samples others s file h =
    let first : WriteOutcome OpenImage = write_chunk i (length p) x file in
    let rest : OpenImage → WriteCall OpenImage = λ next. write_chunk next (length samples) s in
    going_alike first.answer first.ops first.next (λ next. write_chunks next ps (xs ++ s
    ∷ [])) (λ next. write_chunks next ps xs >>= rest)
    (λ next now. chunks_joined next ps xs samples others s now h)
    ∙ going_further first.answer first.ops first.next (λ next. write_chunks next ps xs) rest

stored_more : (i : OpenImage) (parts stored : List (List ℕ)) (samples : List ℕ)
    (others : List (List ℕ)) (s : List ℕ)
    → drop (length stored) parts ≡ samples ∷ others → AreStored i parts stored
    → IsChunkStored i s samples
    → AreStored i parts (stored ++ s ∷ [])
stored_more i [] [] samples others s h a b = absurd cc
stored_more i (p ∷ ps) [] samples others s h a b =
    (subst (λ xs. IsChunkStored i s xs) (sym (ap (λ xs. get_or xs 0 []) h)) b, tt)
stored_more i [] (x ∷ xs) samples others s h a b = absurd a
stored_more i (p ∷ ps) (x ∷ xs) samples others s h a b =
    (a.0, stored_more i ps xs samples others s h a.1 b)

-- ---- where it stops

-- If the first call succeeds and the sink fails in the second call, the sink fails in both.
cut_after : {A B : Type 0} (rest : A → WriteCall B) (r : Result A TiffError) (ops : List WriteOp)
    (next : FileState) (x : A) (e : TiffError)
    (old mid new : FileState) → next ≡ file_with_bytes old (all_appended old.kind ops) → r ≡ Ok x
    → mid ≡ next
    → AppendFailed (rest x mid).ops e mid new
    → AppendFailed (and_then r ops next rest).ops e old new
cut_after {A} rest r ops next x e old mid new n a m h =
    let more : List WriteOp = (rest x next).ops in
    let at_next : AppendFailed more e mid new =
    subst (λ f. AppendFailed (rest x f).ops e mid new) m h in
    let c : AppendFailed more e (file_with_bytes old (all_appended old.kind ops)) new =
    subst (λ f. AppendFailed more e f new) (m ∙ n) at_next in
    let done : AppendFailed (ops ++ more) e old new = record {
      fresh = c.fresh;
      fault = c.fault;
      answer = c.answer;
      count = length (all_appended old.kind ops) + c.count;
      within = (let w = c.within in let l = appended_len old.kind ops more in omega (arith, w, l));
      state =
          c.state ∙ ap (λ bytes. record old { bytes = bytes; failures = old.failures + 1; fault = Some c.fault }) (begun_both old.kind old.bytes ops more c.count);
    } in
    let P : Result A TiffError → Type 0 =
    λ q. AppendFailed (and_then q ops next rest).ops e old new in
    subst P (sym a) done

-- If the first call succeeds and no memory is available for the second call, both run out of
-- memory.
short_after : {A : Type 0} (told : WriteOutcome A) (x : A) (e : TiffError) (old new : FileState)
    → IsAdding told old → EndsAsDefined told (Ok x) new
    → old.fault ≡ None → e ≡ OutOfMemory → IsShortOfMemory told e old new
short_after told x e old new a t f q =
    let all : List ℕ = all_appended old.kind told.ops in
    record {
      fresh = f;
      fault = q;
      begun = subst (λ r. HasBegun r told.ops) (sym t.answer) tt;
      count = length all;
      within = omega arith;
      state = t.state ∙ a.next ∙ ap (file_with_bytes old) (sym (take-length all));
    }

-- ---- the chunks that are left

module _ (i : OpenImage) (samples : List ℕ) where
  abbrev parts : List (List ℕ)
  parts = parts_left i samples

  pub parts_len : length parts ≡ chunks_left i
  unfolding parts_left
  parts_len = length-map-range_with_len (part i samples) 0 (chunks_left i)

  next_at : (k : ℕ) → k < chunks_left i → drop k parts ≡ part i samples k ∷ drop (k + 1) parts
  unfolding parts_left
  next_at k l =
      drop_more parts k [] (subst (λ n. k < n) (sym parts_len) l)
      ∙ ap (λ xs. xs ∷ drop (k + 1) parts) (get_or-map-range_with_len (part i samples) 0 (chunks_left i) k k [] l (omega arith))

  -- the samples that the image passes to its next chunk
  part_same : (now : OpenImage) (k : ℕ) → now ≡ record i { chunks = now.chunks }
      → length now.chunks ≡ length i.chunks + k
      → next_part now samples k ≡ part i samples k
  unfolding cut_out rect
  part_same now k same counted =
      let p = image_page i in
      ap (λ x. next_part x samples k) same
      ∙ ap (λ c. cond (is_in_order i.form) (take (chunk_samples p c) (drop (k * (p.chunk_height * row_samples p)) samples)) (cut_out p samples c)) counted

  stored_same : (now : OpenImage) (xs s : List ℕ) → now ≡ record i { chunks = now.chunks }
      → IsChunkStored now s xs → IsChunkStored i s xs
  unfolding unpacked_chunk
  stored_same now xs s same h = subst (λ x. IsChunkStored x s xs) same h

  -- at the start, no chunk is written
  pub none_written : (old : FileState) → HasWritten i parts 0 old old i
  none_written old = record {
    stored = [];
    are = tt;
    count = refl;
    told =
        subst (λ told. EndsAsDefined told (Ok i) old) (sym (none_stored i parts old))
        (record { answer = refl; state = refl });
    same = refl;
    chunks = omega arith;
  }

  module _ (k : ℕ) (old mid new : FileState) (now next : OpenImage) (l : k < chunks_left i)
      (h : HasWritten i parts k old mid now) where
    abbrev this : List ℕ
    this = part i samples k

    follows : drop (length h.stored) parts ≡ this ∷ drop (k + 1) parts
    follows = ap (λ n. drop n parts) h.count ∙ next_at k l

    same_part : next_part now samples k ≡ this
    same_part = part_same now k h.same h.chunks

    abbrev IsGiven : List ℕ → List ℕ → Type 0
    IsGiven s xs = IsChunkStored now s xs

    more_are : (s : List ℕ) → IsGiven s (next_part now samples k)
        → AreStored i parts (h.stored ++ s ∷ [])
    more_are s b =
        let at : IsGiven s this = subst (IsGiven s) same_part b in
        stored_more i parts h.stored this (drop (k
        + 1) parts) s follows h.are (stored_same now this s h.same at)

    abbrev rest : List ℕ → OpenImage → WriteCall OpenImage
    rest s n = write_chunk n (length this) s

    joined : (s : List ℕ) → write_chunks i parts (h.stored ++ s ∷ []) old
        ≡ (write_chunks i parts h.stored >>= rest s) old
    joined s = chunks_joined i parts h.stored this (drop (k + 1) parts) s old follows

    told_more : (s : List ℕ) (r : Result OpenImage TiffError)
        → EndsAsDefined (write_chunk now (length (next_part now samples k)) s mid) r new
        → EndsAsDefined (write_chunks i parts (h.stored ++ s ∷ []) old) r new
    told_more s r t =
        subst (λ told. EndsAsDefined told r new) (sym (joined s))
        (bind_told (write_chunks i parts h.stored) (rest s) now r old mid new h.told
        (subst (λ (xs : List ℕ). EndsAsDefined (write_chunk now (length xs) s mid) r new) same_part t))

    -- one more chunk is written
    pub more_written : (let r : Result (Unit {0}) TiffError = Ok tt in WritesPart now (next_part now samples k) r mid new next) → HasWritten i parts (k + 1) old new next
    more_written w =
        let s : List ℕ = w.0 in
        let added = chunk_added now next (length (next_part now samples k)) s mid w.1.1.answer in
        let chunks : length next.chunks ≡ length now.chunks + 1 =
        ap (λ x. length x.chunks) added.1
        ∙ length-append now.chunks (record { offset = added.0; stored = length s } ∷ []) in
        let by_chunks : List Chunk → OpenImage = λ chunks. record i { chunks = chunks } in
        let longer : OpenImage → OpenImage =
        λ x. record x { chunks = now.chunks ++ (record { offset = added.0; stored = length s }) ∷ [] } in
        record {
          stored = h.stored ++ s ∷ [];
          are = more_are s w.1.0;
          count = length-append h.stored (s ∷ []) ∙ ap (λ n. n + 1) h.count;
          told = told_more s (Ok next) w.1.1;
          same =
              added.1 ∙ ap longer h.same
              ∙ ap by_chunks (sym (ap (λ x. x.chunks) added.1));
          chunks = (let c = h.chunks in omega (arith, chunks, c));
        }

    -- if the next chunk fails, the call stops within the chunks
    pub stops_written : (e : TiffError) → old.fault ≡ None
        → (let r : Result (Unit {0}) TiffError = Err e in WritesPart now (next_part now samples k) r mid new next)
        → StopsWithin i parts e old new
    stops_written e f w = elim w as (λ _. StopsWithin i parts e old new) [
      | inl short ↦
          (let told : WriteOutcome OpenImage = write_chunks i parts h.stored old in
          let here : EndsAsDefined told (Ok now) new =
          subst (λ file. EndsAsDefined told (Ok now) file) (sym short.1) h.told in
          let fewer : length h.stored < length parts =
          (let c = h.count in let n = parts_len in omega (arith, c, n, l)) in
          (h.stored, (h.are, inr (inr (fewer, short_after told now e old new (chunks_adding i parts h.stored old) here f short.0)))))
      | inr done ↦
          (let s : List ℕ = done.0 in
          elim done.1.1 as (λ _. StopsWithin i parts e old new) [
            | inl t ↦ (h.stored ++ s ∷ [], (more_are s done.1.0, inl (told_more s (Err e) t)))
            | inr c ↦
                (let told : WriteOutcome OpenImage = write_chunks i parts h.stored old in
                let cut : AppendFailed (rest s now mid).ops e mid new =
                subst (λ (xs : List ℕ). AppendFailed (write_chunk now (length xs) s mid).ops e mid new) same_part c in
                let both =
                cut_after (rest s) told.answer told.ops told.next now e old mid new
                (chunks_adding i parts h.stored old).next h.told.answer h.told.state cut in (
                  h.stored ++ s ∷ [],
                  (more_are s done.1.0, inr (inl (subst (λ (told : WriteOutcome OpenImage). AppendFailed told.ops e old new) (sym (joined s)) both))),
                ))
          ])
    ]

  -- all chunks that are left are written
  pub all_written : (k : ℕ) (old new : FileState) (now : OpenImage) → k ≡ chunks_left i
      → HasWritten i parts k old new now
      → (let r : Result (Unit {0}) TiffError = Ok tt in WritesChunks i parts r old new now)
  all_written k old new now l h = (h.stored, (h.are, (h.count ∙ l ∙ sym parts_len, h.told)))

-- ---- errors that refuse a call

uncaused_by : (fault : Option SinkFault) (far begun few past : Bool)
    → unless_ended fault (cond (far || begun) (Some (IoError InvalidInput)) (cond few (Some (IoError InvalidData)) (cond past (Some IntSizeError) None))) ≡ None
    → (fault ≡ None) × ((far ≡ false) × ((few ≡ false) × (past ≡ false)))
uncaused_by None false false false false h = (refl, (refl, (refl, refl)))
uncaused_by None false false false true h = absurd cc
uncaused_by None false false true past h = absurd cc
uncaused_by None false true few past h = absurd cc
uncaused_by None true begun few past h = absurd cc
uncaused_by (Some f) far begun few past h = absurd cc

-- what holds if nothing refuses the samples of an image
module _ (file : FileState) (i : OpenImage) (count : ℕ) (h : write_image_data_cause file i count ≡ None) where
  known : (file.fault ≡ None) × ((nat_le (2 ^ 64) (image_samples i) ≡ false)
      × ((nat_lt count (image_samples i) ≡ false) × (is_past_chunks i ≡ false)))
  unfolding write_image_data_cause
  known =
      uncaused_by file.fault (nat_le (2 ^ 64) (image_samples i)) (is_begun i && not (is_in_order i.form)) (nat_lt count (image_samples i)) (is_past_chunks i) h

  pub data_fresh : file.fault ≡ None
  data_fresh = known.0

  pub data_few : is_past_chunks i ≡ false
  data_few = known.1.1.1

  pub data_fits : (now : OpenImage) → now ≡ record i { chunks = now.chunks }
      → image_samples now < 2 ^ 64
  data_fits now same =
      subst (λ n. n < 2 ^ 64) (sym (ap image_samples same)) (leb-false (2 ^ 64) (image_samples i) known.1.0)

  pub data_whole : (now : OpenImage) → now ≡ record i { chunks = now.chunks }
      → image_samples now ≤ count
  data_whole now same =
      subst (λ n. n ≤ count) (sym (ap image_samples same)) (ltb-false count (image_samples i) known.1.1.0)

-- ---- the end of the image

module _ (i : OpenImage) (samples : List ℕ) (n : ℕ) (counted : n ≡ length samples)
    (old start mid : FileState) (next : OpenImage)
    (uncaused_at : write_image_data_cause old i n ≡ None) (same : start ≡ old) where
  no_cause : write_image_data_cause old i (length samples) ≡ None
  no_cause = ap (write_image_data_cause old i) (sym counted) ∙ uncaused_at

  from_old : (r : Result (Unit {0}) TiffError)
      → WritesChunks i (parts_left i samples) r start mid next
      → WritesChunks i (parts_left i samples) r old mid next
  from_old r h = subst (λ o. WritesChunks i (parts_left i samples) r o mid next) same h

  -- where a chunk failed
  pub data_stopped : (e : TiffError)
      → (let r : Result (Unit {0}) TiffError = Err e in WritesChunks i (parts_left i samples) r start mid next)
      → (let r : Result (Unit {0}) TiffError = Err e in WritesImageData i samples r old mid)
  data_stopped e h =
      let r : Result (Unit {0}) TiffError = Err e in
      subst (λ cause. WritesDataBy cause i samples r old mid) (sym no_cause)
      (inr (from_old r h))

  module _ (new : FileState)
      (h : (let r : Result (Unit {0}) TiffError = Ok tt in WritesChunks i (parts_left i samples) r start mid next)) where
    abbrev all : (let r : Result (Unit {0}) TiffError = Ok tt in WritesChunks i (parts_left i samples) r old mid next)
    all = from_old (Ok tt) h

    ends_whole : (r : Result Offsets TiffError) → Ends (λ d. d) (finish_image next mid) r mid new
        → Ends (λ d. d) (write_image_data i samples all.0 old) r old new
    unfolding write_image_data
    ends_whole r f =
        let chunks : WriteCall OpenImage = write_chunks i (parts_left i samples) all.0 in
        uncaused (λ d. d) (write_image_data_cause old i (length samples)) (chunks
        >>= (λ last. finish_image last)) r old new no_cause
        (bind_ends (λ d. d) chunks (λ last. finish_image last) next r old mid new (chunks_adding i (parts_left i samples) all.0 old) all.1.1.1 f)

    pub data_done : (offsets : Offsets) → EndsAsDefined (finish_image next mid) (Ok offsets) new
        → (let r : Result (Unit {0}) TiffError = Ok tt in WritesImageData i samples r old new)
    data_done offsets f =
        let r : Result (Unit {0}) TiffError = Ok tt in
        subst (λ cause. WritesDataBy cause i samples r old new) (sym no_cause)
        (inl (all.0, (all.1.0, (all.1.1.0, (offsets, ends_whole (Ok offsets) f)))))

    pub data_fails : (e : TiffError) → CallFails (finish_image next mid) e mid new
        → (let r : Result (Unit {0}) TiffError = Err e in WritesImageData i samples r old new)
    data_fails e f =
        let r : Result (Unit {0}) TiffError = Err e in
        subst (λ cause. WritesDataBy cause i samples r old new) (sym no_cause)
        (inl (all.0, (all.1.0, (all.1.1.0, ends_whole (Err e) f))))
