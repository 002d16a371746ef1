-- A header is written in two pieces.
use Rattle.std.proofs.Common.{◌≡◌, ℕ, ◌+◌, ◌<◌, ◌⊎◌, List, ◌++◌, length, take, Some, None, IsSome, leb, ap, sym, subst, ◌∙◌, arith, append_assoc, length-append, inl, inr}
use Rattle.std.proofs.lemmas.Bool.{false≢true, leb-true, leb-false, cases_Bool}
use Rattle.std.proofs.lemmas.List.{take-append-le}
use Rattle.std.proofs.Math.Seq.{take-append-add}
use Rattle.tiff_base.specs.declared.error.TiffError.{TiffError}
use Rattle.tiff_base.specs.declared.tags.FileKind.{FileKind}
use Rattle.tiff_base.specs.Number.{le}
use Rattle.tiff_base.specs.SourceAndSink.{put}
use Rattle.tiff_value.specs.lemmas.Put.{put-put, put_end}
use Rattle.tiff_value.specs.Written.{Written, writer_after, writer_after_counted, IsStopped, IsCut}
use Rattle.tiff_value.specs.FileBytes.{offset_len, header_mark, header_bytes}
use Rattle.tiff_base.specs.lemmas.Slices.{length-le}

put_behind : (file : List ℕ) (at : ℕ) (xs ys : List ℕ) → length file < at
    → put (put file at xs) (at + length xs) ys ≡ put file at (xs ++ ys)
put_behind file at xs ys h =
    ap (λ d. put d (at + length xs) ys) (put_end file xs at (omega (arith, h)))
    ∙ put_end (file ++ xs) ys (at + length xs) (omega (arith, h, length-append file xs))
    ∙ append_assoc file xs ys
    ∙ sym (put_end file (xs ++ ys) at (omega (arith, h)))

-- a second piece right behind the first, at each offset
put_on : (file : List ℕ) (at : ℕ) (xs ys : List ℕ)
    → put (put file at xs) (at + length xs) ys ≡ put file at (xs ++ ys)
put_on file at xs ys = elim (cases_Bool (leb at (length file))) [
  | inl t ↦ put-put file at xs ys (leb-true _ _ t)
  | inr f ↦ put_behind file at xs ys (leb-false _ _ f)
]

-- the header is written
pub header_written : (kind : FileKind) (old mid new : Written)
    → mid ≡ writer_after old (header_mark kind)
    → new ≡ writer_after_counted mid (le (offset_len kind) 0)
    → new ≡ record (writer_after old (header_bytes kind)) { last = offset_len kind }
header_written kind old mid new s t =
    let mark : List ℕ = header_mark kind in
    let zeros : List ℕ = le (offset_len kind) 0 in
    let at : old.at + length mark + length zeros ≡ old.at + length (mark ++ zeros) =
    omega (arith, length-append mark zeros) in
    let l : length zeros ≡ offset_len kind = length-le 0 (offset_len kind) 0 in
    t ∙ ap (λ m. writer_after_counted m zeros) s
    ∙ λ i. record old { bytes = put_on old.bytes old.at mark zeros i; at = at i; last = l i }

-- writing the first piece of the header fails
pub mark_fails : (kind : FileKind) (old new : Written) (e : TiffError)
    → IsStopped e old new ⊎ IsCut (header_mark kind) e old new
    → IsStopped e old new ⊎ IsCut (header_bytes kind) e old new
mark_fails kind old new e h = elim h [
  | inl s ↦ inl s
  | inr c ↦ inr (record {
    fresh = c.fresh;
    fault = c.fault;
    answer = c.answer;
    count = c.count;
    within =
        let w : c.count < length (header_mark kind) =
        c.within in omega (arith, length-append (header_mark kind) (le (offset_len kind) 0));
    state = let w : c.count < length (header_mark kind) = c.within in c.state ∙ λ i. record old {
      bytes =
          put old.bytes old.at (sym (take-append-le c.count (header_mark kind) (le (offset_len kind) 0) (omega (arith, w))) i);
      at = old.at + c.count;
      fault = Some c.fault;
      failures = old.failures + 1;
    };
  })
]

-- writing the link of the header fails
pub link_fails : (kind : FileKind) (old mid new : Written) (e : TiffError) → old.fault ≡ None
    → mid ≡ writer_after old (header_mark kind)
    → IsStopped e mid new ⊎ IsCut (le (offset_len kind) 0) e mid new
    → IsStopped e old new ⊎ IsCut (header_bytes kind) e old new
link_fails kind old mid new e fresh s f = elim f [
  | inl r ↦ absurd (false≢true (subst IsSome (ap (λ (m : Written). m.fault) s ∙ fresh) r.failed))
  | inr c ↦ (
      let mark : List ℕ = header_mark kind in
      let zeros : List ℕ = le (offset_len kind) 0 in
      let bytes =
      put_on old.bytes old.at mark (take c.count zeros)
      ∙ ap (λ l. put old.bytes old.at l) (sym (take-append-add mark zeros c.count)) in
      let at : old.at + length mark + c.count ≡ old.at + (length mark + c.count) = omega arith in
      inr (record {
        fresh = fresh;
        fault = c.fault;
        answer = c.answer;
        count = length mark + c.count;
        within =
            let w : c.count < length zeros = c.within in omega (arith, length-append mark zeros);
        state = c.state
            ∙ (λ i. record (s i) { bytes = put (s i).bytes (s i).at (take c.count zeros); at = (s i).at + c.count; fault = Some c.fault; failures = (s i).failures + 1 })
            ∙ (λ i. record old { bytes = bytes i; at = at i; fault = Some c.fault; failures = old.failures + 1 });
      }))
]
