-- Reads in several parts.
use Rattle.std.proofs.Common.{◌≡◌, ℕ, ◌+◌, ◌-◌, ◌≤◌, ◌<◌, List, ◌++◌, length, take, drop, Bool, true, false, cond, leb, Ok, Err, ap, sym, ◌∙◌, arith, ⊎_elim, length-append, length-drop, append_assoc}
use Rattle.std.proofs.lemmas.Bool.{cases_Bool, lt-leb, leb-false}
use Rattle.tiff_base.specs.declared.error.TiffError.{TiffError}
use Rattle.tiff_base.specs.declared.error.TiffError.TheVariants.{IoError}
use Rattle.tiff_base.specs.declared.io.IoKind.TheVariants.{UnexpectedEof}
use Rattle.std.proofs.lemmas.List.{take_at, drop-drop, length-take-le}
use Rattle.std.proofs.Math.Seq.{take-add}
use borrow.Rule.Slice.PartMut.{put_mid, post_of}
use Rattle.tiff_base.specs.SourceAndSink.{bytes_at, exactly_at, Reads}

-- A read returns as many bytes as it says.
pub length-bytes_at : (bytes : List ℕ) (at n : ℕ) → n ≤ length bytes - at
    → length (bytes_at bytes at n) ≡ n
length-bytes_at bytes at n h =
    length-take-le n (drop at bytes) (omega (arith, length-drop at bytes))

-- two reads in a row
pub bytes_at-add : (bytes : List ℕ) (at m n : ℕ)
    → bytes_at bytes at (m + n) ≡ bytes_at bytes at m ++ bytes_at bytes (at + m) n
bytes_at-add bytes at m n =
    take-add m n (drop at bytes) ∙ ap (λ l. take m (drop at bytes)
    ++ take n l) (drop-drop m at bytes)

-- the contents of a buffer after a read into its part from `done` on
pub next_read : (bytes buf new old : List ℕ) (at done n k offset : ℕ) → offset ≡ at + done
    → take done buf ≡ bytes_at bytes at done → done ≤ length buf
    → Reads bytes offset old n new
    → take (done + n) (put_mid done k buf new) ≡ bytes_at bytes at (done + n)
next_read bytes buf new old at done n k offset p sofar fits r =
    let part = bytes_at bytes offset n in
    let post = post_of done k buf in
    let len : length (take done buf ++ part) ≡ done + n =
    length-append (take done buf) part
    ∙ omega (arith, length-take-le done buf fits, length-bytes_at bytes offset n r.in_bytes) in
    let regroup : put_mid done k buf new ≡ (take done buf ++ part) ++ (drop n old ++ post) =
    ap (λ l. take done buf ++ (l ++ post)) r.next
    ∙ ap (λ l. take done buf ++ l) (append_assoc part (drop n old) post)
    ∙ sym (append_assoc (take done buf) part (drop n old ++ post)) in
    ap (take (done + n)) regroup
    ∙ take_at (take done buf ++ part) (drop n old ++ post) (done + n) len
    ∙ ap (λ l. l ++ part) sofar
    ∙ ap (λ q. bytes_at bytes at done ++ bytes_at bytes q n) p
    ∙ sym (bytes_at-add bytes at done n)

-- no bytes are returned if they reach past the end
pub cut_past : (bytes : List ℕ) (at len : ℕ) → length bytes - at < len
    → exactly_at bytes at len ≡ Err (IoError UnexpectedEof)
cut_past bytes at len past =
    ap (λ (b : Bool). cond b (Ok (bytes_at bytes at len)) (Err (IoError UnexpectedEof)))
    (lt-leb len (length bytes - at) past)

-- if bytes are missing, there are fewer than the call asks for, and the error is `UnexpectedEof`
pub missing : (bytes : List ℕ) (at len : ℕ) (e : TiffError) → exactly_at bytes at len ≡ Err e
    → (length bytes - at < len) × (IoError UnexpectedEof ≡ e)
missing bytes at len e =
    ⊎_elim
    (λ (t : leb len (length bytes - at) ≡ true). rw t (λ h. cc))
    (λ (f : leb len (length bytes - at) ≡ false). rw f (λ h. (leb-false len (length bytes - at) f, cc)))
    (cases_Bool (leb len (length bytes - at)))

-- no bytes are returned if the last of them is missing
pub cut_at_last : (bytes : List ℕ) (at len offset : ℕ) (e : TiffError) → offset ≡ at + (len - 1)
    → 0 < len
    → exactly_at bytes offset 1 ≡ Err e → exactly_at bytes at len ≡ Err e
cut_at_last bytes at len offset e there some h =
    let m : (length bytes - offset < 1) × (IoError UnexpectedEof ≡ e) =
    missing bytes offset 1 e h in
    cut_past bytes at len (omega (arith, m.0)) ∙ ap Err m.1
