-- The bytes of a file that an encoder goes on behind stay, except those of its last link.
use Rattle.std.proofs.Common.{◌≡◌, ℕ, ◌+◌, ◌-◌, ◌≤◌, ◌⊎◌, List, [], ◌∷◌, ◌++◌, length, take, drop, ap, sym, ◌∙◌, inl, inr, arith, append_assoc, append-nil, length-append, length-drop}
use Rattle.std.proofs.lemmas.List.{drop-drop, take_at, drop-append-le, take-append-drop, length-take-le}
use Rattle.std.proofs.Math.Seq.{take-append-add, drop-append-add}
use Rattle.tiff_base.specs.declared.tags.FileKind.{FileKind}
use Rattle.tiff_base.specs.Number.{le}
use Rattle.tiff_base.specs.SourceAndSink.{put}
use Rattle.tiff_value.specs.FileBytes.{offset_len, directory_bytes}
use Rattle.tiff_value.specs.WriteOps.{WriteOp, Appended, Supplied, Listed, Linked, bytes_after}
use Rattle.tiff_encode.specs.Appending.{Continues, LinksFrom, FormerBytesStay}
use Rattle.tiff_base.specs.lemmas.Slices.{length_put, length-le}

-- bytes that are written behind the first bytes leave these
pub put_past : (front more : List ℕ) (k : ℕ) (xs : List ℕ)
    → put (front ++ more) (length front + k) xs ≡ front ++ put more k xs
put_past front more k xs =
    let sum : length front + k + length xs ≡ length front + (k + length xs) = omega arith in
    let t : take (length front + k) (front ++ more) ≡ front ++ take k more =
    take-append-add front more k in
    let d : drop (length front + k + length xs) (front ++ more) ≡ drop (k + length xs) more =
    ap (λ n. drop n (front ++ more)) sum ∙ drop-append-add front more (k + length xs) in
    (λ i. t i ++ (xs ++ d i)) ∙ append_assoc front (take k more) (xs ++ drop (k + length xs) more)

-- bytes that are written at the place of others, and are no more, take the place of the first of
-- these
pub put_over : (file : List ℕ) (q : ℕ) (over more xs : List ℕ) → q + length over ≤ length file
    → length xs ≤ length over
    → put (put file q over ++ more) q xs ≡ put file q (xs ++ drop (length xs) over) ++ more
put_over file q over more xs fit short =
    let T : List ℕ = take q file in
    let D : List ℕ = drop (q + length over) file in
    let t : length T ≡ q = length-take-le q file (omega (arith, fit)) in
    let left : List ℕ = drop (length xs) over in
    let whole : (T ++ (over ++ D)) ++ more ≡ T ++ (over ++ (D ++ more)) =
    append_assoc T (over ++ D) more ∙ ap (λ l. T ++ l) (append_assoc over D more) in
    let size : length (xs ++ left) ≡ length over =
    omega (arith, length-append xs left, length-drop (length xs) over, short) in
    let past : drop (q + length xs) (T ++ (over ++ (D ++ more))) ≡ left ++ (D ++ more) =
    ap (λ n. drop (n + length xs) (T ++ (over ++ (D ++ more)))) (sym t)
    ∙ drop-append-add T (over ++ (D ++ more)) (length xs)
    ∙ drop-append-le (length xs) over (D ++ more) short in
    ap (λ f. put f q xs) whole
    ∙ (λ i. take_at T (over ++ (D ++ more)) q t i ++ (xs ++ past i))
    ∙ ap (λ l. T ++ l) (sym (append_assoc xs left (D ++ more))
    ∙ sym (append_assoc (xs ++ left) D more))
    ∙ sym (append_assoc T ((xs ++ left) ++ D) more)
    ∙ ap (λ n. (T ++ ((xs ++ left) ++ drop (q + n) file)) ++ more) (sym size)

-- a file continues itself
pub begun : (kind : FileKind) (q : ℕ) (file : List ℕ) → q + offset_len kind ≤ length file
    → Continues kind q file file
begun kind q file room =
    let k : ℕ = offset_len kind in
    let over : List ℕ = take k (drop q file) in
    let w : length over ≡ k =
    length-take-le k (drop q file) (omega (arith, length-drop q file, room)) in
    let rest : drop (q + length over) file ≡ drop k (drop q file) =
    ap (λ n. drop (q + n) file) w ∙ sym (drop-drop k q file) in
    let same : put file q over ≡ file =
    ap (λ l. take q file ++ (over ++ l)) rest
    ∙ ap (λ l. take q file ++ l) (take-append-drop k (drop q file)) ∙ take-append-drop q file in
    record {
      over = over;
      whole = w;
      more = [];
      bytes = sym (append-nil (put file q over) ∙ same);
    }

-- a file goes on behind more bytes
pub cut : (kind : FileKind) (q : ℕ) (file bytes more : List ℕ) → Continues kind q file bytes
    → Continues kind q file (bytes ++ more)
cut kind q file bytes more c = record {
  over = c.over;
  whole = c.whole;
  more = c.more ++ more;
  bytes = ap (λ l. l ++ more) c.bytes ∙ append_assoc (put file q c.over) c.more more;
}

-- bytes are written at the link, or behind the former file
pub torn : (kind : FileKind) (q : ℕ) (file : List ℕ) → q + offset_len kind ≤ length file
    → (bytes over : List ℕ) (offset : ℕ) → Continues kind q file bytes
    → length over ≤ offset_len kind → (offset ≡ q) ⊎ (length file ≤ offset)
    → Continues kind q file (put bytes offset over)
torn kind q file room bytes over offset c short place =
    let fit : q + length c.over ≤ length file = omega (arith, c.whole, room) in
    let front : List ℕ = put file q c.over in
    let size : length front ≡ length file = length_put file q c.over fit in
    elim place as (λ _. Continues kind q file (put bytes offset over)) [
      | inl s ↦ record {
        over = over ++ drop (length over) c.over;
        whole =
            omega (arith, length-append over (drop (length over) c.over), length-drop (length over) c.over, c.whole, short);
        more = c.more;
        bytes =
            (λ i. put (c.bytes i) (s i) over)
            ∙ put_over file q c.over c.more over fit (omega (arith, c.whole, short));
      }
      | inr b ↦
          (let k : ℕ = offset - length front in
          let sum : offset ≡ length front + k = omega (arith, size, b) in
          record {
            over = c.over;
            whole = c.whole;
            more = put c.more k over;
            bytes = (λ i. put (c.bytes i) (sum i) over) ∙ put_past front c.more k over;
          })
    ]

-- writes that change no other link of the former file
pub written : (kind : FileKind) (q : ℕ) (file : List ℕ) → q + offset_len kind ≤ length file
    → (bytes : List ℕ) (ops : List WriteOp) → Continues kind q file bytes
    → LinksFrom q (length file) ops → Continues kind q file (bytes_after kind bytes ops)
written kind q file room bytes [] c l = c
written kind q file room bytes (Appended more ∷ ops) c l =
    written kind q file room (bytes ++ more) ops (cut kind q file bytes more c) l
written kind q file room bytes (Supplied supplied ∷ ops) c l =
    written kind q file room bytes ops c l
written kind q file room bytes (Listed fields ∷ ops) c l =
    written kind q file room (bytes ++ directory_bytes kind fields) ops
    (cut kind q file bytes (directory_bytes kind fields) c) l
written kind q file room bytes (Linked offset target ∷ ops) c l =
    let over : List ℕ = le (offset_len kind) target in
    written kind q file room (put bytes offset over) ops (torn kind q file room bytes over offset c (omega (arith, length-le 0 (offset_len kind) target)) l.0) l.1

pub former_bytes_stay : FormerBytesStay
former_bytes_stay kind q file room = record {
  begun = begun kind q file room;
  written = written kind q file room;
  cut = cut kind q file;
  torn = torn kind q file room;
}
