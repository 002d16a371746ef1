-- An open image stays held while a call writes the chunks that are left, and its end shows it.
use Rattle.std.proofs.Common.{◌≡◌, ℕ, ◌+◌, ◌^◌, ◌<◌, List, [], ◌∷◌, ◌++◌, length, Ok, refl, ap, sym, ◌∙◌, subst, arith, append_assoc, append-nil}
use Rattle.std.proofs.lemmas.List.{length-append}
use Rattle.tiff_page.specs.Rect.{rect}
use Rattle.tiff_value.specs.Model.{Model}
use Rattle.tiff_encode.specs.Machine.{FileState, Chunk, OpenImage, WriteCall}
use Rattle.tiff_encode.specs.Chunks.{image_page, chunk_samples}
use Rattle.tiff_encode.specs.Causes.{end_of, write_chunk_cause}
use Rattle.tiff_encode.specs.Calls.{with_chunk, appends_chunk, write_chunk, write_chunks}
use Rattle.tiff_encode.specs.Stored.{unpacked_chunk, AreStored}
use Rattle.tiff_encode.specs.Open.{RecordsImage, model_by}
use Rattle.tiff_base.specs.lemmas.Slices.{ok_inj}
use Rattle.tiff_encode.proofs.Open.Chunks.{chunk_keeps_open}
use Rattle.tiff_encode.proofs.Joining.{adding}
use Rattle.tiff_encode.proofs.Image.FitsCalls.{done_longer}
use Rattle.tiff_encode.proofs.Data.Calls.{bind_answered, cause_answered, behind_model}
use Rattle.tiff_encode.proofs.Image.FitsCalls.{adding_done}
use Rattle.tiff_encode.proofs.Data.Chunks.{chunk_adds, chunk_is, chunks_done}
use Rattle.tiff_encode.proofs.Data.Parts.{AreReady}

-- ---- one more chunk

-- the stored bytes of some parts encode them also if the image has one more chunk
stored_more : (i : OpenImage) (offset n : ℕ) (parts stored : List (List ℕ))
    → AreStored i parts stored
    → AreStored (with_chunk i offset n) parts stored
unfolding unpacked_chunk
stored_more i offset n [] [] s = tt
stored_more i offset n (part ∷ parts) [] s = tt
stored_more i offset n [] (bytes ∷ stored) s = absurd s
stored_more i offset n (part ∷ parts) (bytes ∷ stored) s =
    (s.0, stored_more i offset n parts stored s.1)

ready_more : (i : OpenImage) (offset n most k : ℕ) (parts : List (List ℕ))
    → AreReady (chunk_samples (image_page i)) most k parts
    → AreReady (chunk_samples (image_page (with_chunk i offset n))) most k parts
unfolding rect
ready_more i offset n most k [] r = tt
ready_more i offset n most k (part ∷ parts) r = (r.0, ready_more i offset n most (k + 1) parts r.1)

-- after a call stores a chunk, the file is longer by the stored bytes
chunk_longer : (i next : OpenImage) (count : ℕ) (stored : List ℕ) (file : FileState)
    → (write_chunk i count stored file).answer ≡ Ok next
    → end_of (write_chunk i count stored file).next ≡ end_of file + length stored
unfolding write_chunk
chunk_longer i next count stored file h =
    let c =
    cause_answered (write_chunk_cause file i count (length stored))
    (appends_chunk i stored) file next h in
    ap (λ told. end_of told.next) c.1 ∙ length-append file.bytes stored

-- ---- all chunks

-- the image with other chunks
abbrev pub rechunked : OpenImage → List Chunk → OpenImage
rechunked i chunks = record i { chunks = chunks }

-- the returned image has the given number of chunks more
pub record IsLast (i : OpenImage) (many : ℕ) (last : OpenImage) : Type 0 where
  pub same : last ≡ rechunked i last.chunks
  pub count : length last.chunks ≡ length i.chunks + many

pub chunks_last : (i : OpenImage) (parts stored : List (List ℕ)) (last : OpenImage)
    (file : FileState) → length stored ≡ length parts
    → (write_chunks i parts stored file).answer ≡ Ok last → IsLast i (length parts) last
chunks_last i [] stored last file l h =
    let e = ok_inj i last h in
    let no : length i.chunks ≡ length last.chunks = ap (λ j. length j.chunks) e in
    record { same = subst (λ j. j ≡ rechunked i j.chunks) e refl; count = omega (arith, no) }
chunks_last i (part ∷ parts) [] last file l h = absurd (omega (arith, l))
chunks_last i (part ∷ parts) (bytes ∷ stored) last file l h =
    let call : WriteCall OpenImage = write_chunk i (length part) bytes in
    let a = bind_answered call (λ next. write_chunks next parts stored) file last h in
    let rest =
    chunks_last a.0 parts stored last (call file).next (omega (arith, l))
    (ap (λ told. told.answer) (sym a.1.1) ∙ h) in
    let first : with_chunk i (end_of file) (length bytes) ≡ a.0 =
    chunk_is i a.0 (length part) bytes file a.1.0 in
    let one : length a.0.chunks ≡ length i.chunks + 1 =
    ap (λ j. length j.chunks) (sym first) ∙ length-append i.chunks _ in
    let more = rest.count in
    record {
      same = rest.same ∙ ap (λ j. rechunked j last.chunks) (sym first);
      count = omega (arith, one, more);
    }

pub chunks_held : (i last : OpenImage) (parts stored : List (List ℕ)) (file : FileState) (m : Model)
    (before : List (List ℕ))
    → length stored ≡ length parts → AreStored i parts stored
    → AreReady (chunk_samples (image_page i)) (256 ^ i.size) (length i.chunks) parts
    → RecordsImage file.kind m i before → end_of (write_chunks i parts stored file).next < 2 ^ 64
    → (write_chunks i parts stored file).answer ≡ Ok last
    → RecordsImage file.kind (model_by file m (write_chunks i parts stored file)) last (before
    ++ parts)
chunks_held i last [] stored file m before l s r h short a =
    subst (λ xs. RecordsImage file.kind m last xs) (sym (append-nil before))
    (subst (λ j. RecordsImage file.kind m j before) (ok_inj i last a) h)
chunks_held i last (part ∷ parts) [] file m before l s r h short a = absurd (omega (arith, l))
chunks_held i last (part ∷ parts) (bytes ∷ stored) file m before l s r h short a =
    let call : WriteCall OpenImage = write_chunk i (length part) bytes in
    let mid : FileState = (call file).next in
    let n : Model = model_by file m (call file) in
    let adds = adding (call file) file (chunk_adds i (length part) bytes file) in
    let first = bind_answered call (λ x. write_chunks x parts stored) file last a in
    let next : OpenImage = first.0 in
    let same : mid.kind ≡ file.kind = (adding_done (call file) file adds).kind in
    let is : with_chunk i (end_of file) (length bytes) ≡ next =
    chunk_is i next (length part) bytes file first.1.0 in
    let rest : end_of (write_chunks next parts stored mid).next < 2 ^ 64 =
    subst (λ told. end_of told.next < 2 ^ 64) first.1.1 short in
    let longer =
    done_longer (write_chunks next parts stored mid) mid (chunks_done next parts stored mid) in
    let sum = chunk_longer i next (length part) bytes file first.1.0 in
    let held : RecordsImage file.kind n next (before ++ part ∷ []) =
    chunk_keeps_open file m i next before part bytes h r.0.1 r.0.0 s.0
    (omega (arith, rest, longer, sum)) (omega (arith, rest, longer, sum)) first.1.0 in
    let many : length next.chunks ≡ length i.chunks + 1 =
    ap (λ j. length j.chunks) (sym is) ∙ length-append i.chunks _ in
    let ready : AreReady (chunk_samples (image_page next)) (256 ^ next.size) (length next.chunks) parts =
    subst (λ k. AreReady (chunk_samples (image_page next)) (256 ^ next.size) k parts) (sym many)
    (subst (λ j. AreReady (chunk_samples (image_page j)) (256 ^ j.size) (length i.chunks
    + 1) parts) is
    (ready_more i (end_of file) (length bytes) (256 ^ i.size) (length i.chunks + 1) parts r.1)) in
    let stored_so : AreStored next parts stored =
    subst (λ j. AreStored j parts stored) is (stored_more i (end_of file) (length bytes) parts stored s.1) in
    let all =
    chunks_held next last parts stored mid n (before ++ part
    ∷ []) (omega (arith, l)) stored_so ready
    (subst (λ kind. RecordsImage kind n next (before ++ part ∷ [])) (sym same) held) rest
    (ap (λ told. told.answer) (sym first.1.1) ∙ a) in
    let P : Model → Type 0 = λ x. RecordsImage file.kind x last (before ++ part ∷ parts) in
    let more : List (List ℕ) = before ++ part ∷ [] in
    let joined : model_by file m (write_chunks i (part ∷ parts) (bytes ∷ stored) file)
    ≡ model_by mid n (write_chunks next parts stored mid) =
    ap (λ told. model_by file m told) first.1.1
    ∙ behind_model (call file) (write_chunks next parts stored mid) file m
    (adding_done (call file) file adds) in
    subst P (sym joined)
    (subst (λ kind. RecordsImage kind (model_by mid n (write_chunks next parts stored mid)) last (before ++ part ∷ parts)) same
    (subst (λ xs. RecordsImage mid.kind (model_by mid n (write_chunks next parts stored mid)) last xs) (append_assoc before (part ∷ []) parts) all))
