-- Bytes written one piece after another.
use Rattle.std.proofs.Common.{◌≡◌, ℕ, ◌+◌, ◌<◌, ◌≤◌, List, [], ◌++◌, length, take, drop, Some, None, refl, ap, sym, ◌∙◌, arith, append-nil, length-append, replicate, ◌∷◌}
use Rattle.std.proofs.lemmas.List.{take_all, drop_all, drop-take, take-take, length-take-le, take-append-drop, take-replicate}
use Rattle.std.proofs.lemmas.List.Edits.{paste_all, paste-paste}
use lib.Seq.{paste}
use Rattle.tiff_base.specs.SourceAndSink.{put}
use Rattle.tiff_base.specs.declared.error.TiffError.{TiffError}
use Rattle.std.proofs.Math.Seq.{take-append-add}
use Rattle.std.proofs.lemmas.List.{take-append-le}
use Rattle.tiff_value.specs.Written.{Written, writer_after, SinkFails, IsCut}

-- a second piece right after the first
pub put-put : (file : List ℕ) (at : ℕ) (xs ys : List ℕ) → at ≤ length file
    → put (put file at xs) (at + length xs) ys ≡ put file at (xs ++ ys)
put-put file at xs ys h =
    ap (λ d. put d (at + length xs) ys) (sym (paste_all file at xs (length xs) refl))
    ∙ sym (paste_all _ (at + length xs) ys (length ys) refl)
    ∙ paste-paste file at xs ys (length xs) (length ys) refl refl h
    ∙ ap (λ n. paste file at (xs ++ ys) n) (sym (length-append xs ys))
    ∙ paste_all file at (xs ++ ys) (length (xs ++ ys)) refl

-- a piece at the end
pub put_end : (file xs : List ℕ) (at : ℕ) → length file ≤ at → put file at xs ≡ file ++ xs
put_end file xs at h =
    let t : take at file ≡ file = take_all at file h in
    let d : drop (at + length xs) file ≡ [] = drop_all _ file (omega (arith, h)) in
    ap (λ p. p ++ (xs ++ drop (at + length xs) file)) t ∙ ap (λ q. file ++ (xs ++ q)) d
    ∙ ap (λ q. file ++ q) (append-nil xs)

pub take_split : (xs : List ℕ) (d n : ℕ) → take d xs ++ take n (drop d xs) ≡ take (d + n) xs
take_split xs d n =
    ap (λ q. take d xs ++ q) (sym (drop-take d n xs))
    ∙ ap (λ p. p ++ drop d (take (d + n) xs)) (sym (take-take d (d + n) xs (omega arith)))
    ∙ take-append-drop d (take (d + n) xs)

pub moved-moved : (w : Written) (xs ys : List ℕ) → w.at ≤ length w.bytes
    → writer_after (writer_after w xs) ys ≡ writer_after w (xs ++ ys)
moved-moved w xs ys h =
    let e1 : put (put w.bytes w.at xs) (w.at + length xs) ys ≡ put w.bytes w.at (xs ++ ys) =
    put-put w.bytes w.at xs ys h in
    let e2 : w.at + length xs + length ys ≡ w.at + length (xs ++ ys) =
    omega (arith, length-append xs ys) in
    λ i. record w { bytes = e1 i; at = e2 i }

-- the bytes written so far, and then n more bytes of the rest
pub moved_more : (w : Written) (xs : List ℕ) (d n : ℕ) → w.at ≤ length w.bytes
    → writer_after (writer_after w (take d xs)) (take n (drop d xs))
    ≡ writer_after w (take (d + n) xs)
moved_more w xs d n h =
    moved-moved w (take d xs) (take n (drop d xs)) h ∙ ap (writer_after w) (take_split xs d n)

-- an error of the sink after a part of the bytes, from the front
pub cut_from : (w v new : Written) (xs : List ℕ) (d : ℕ) (e : TiffError) → w.fault ≡ None
    → d < length xs → v ≡ writer_after w (take d xs) → SinkFails e v new → IsCut xs e w new
cut_from w v new xs d e a h s f = record {
  fresh = a;
  fault = f.fault;
  answer = f.answer;
  count = d;
  within = h;
  state = f.state ∙ (λ i. record (s i) { fault = Some f.fault; failures = (s i).failures + 1 })
      ∙ (λ i. record w { bytes = put w.bytes w.at (take d xs); at = w.at + length-take-le d xs (omega (arith, h)) i; fault = Some f.fault; failures = w.failures + 1 });
}

pub zeros : (n : ℕ) → n ≤ 3 → let z : List ℕ = 0 ∷ 0 ∷ 0 ∷ [] in take n z ≡ replicate n 0
zeros n h = take-replicate n 3 0 h

-- an error of the sink during the write of a later piece of the bytes
pub cut_behind : (w v new : Written) (xs ys zs whole : List ℕ) (e : TiffError)
    → w.at ≤ length w.bytes → w.fault ≡ None → v ≡ writer_after w xs
    → whole ≡ xs ++ (ys ++ zs) → IsCut ys e v new → IsCut whole e w new
cut_behind w v new xs ys zs whole e h a s all c =
    let n : ℕ = c.count in
    let front : xs ++ take n ys ≡ take (length xs + n) whole =
    ap (λ p. xs ++ p) (sym (take-append-le n ys zs (omega (arith, c.within))))
    ∙ sym (take-append-add xs (ys ++ zs) n) ∙ ap (take (length xs + n)) (sym all) in
    let put_is : put (put w.bytes w.at xs) (w.at + length xs) (take n ys)
    ≡ put w.bytes w.at (take (length xs + n) whole) =
    put-put w.bytes w.at xs (take n ys) h ∙ ap (put w.bytes w.at) front in
    let at_is : w.at + length xs + n ≡ w.at + (length xs + n) = omega arith in
    record {
      fresh = a;
      fault = c.fault;
      answer = c.answer;
      count = length xs + n;
      within =
          omega (arith, c.within, ap length all, length-append xs (ys ++ zs), length-append ys zs);
      state =
          c.state ∙ (λ i. record (s i) { bytes = put (s i).bytes (s i).at (take n ys); at = (s i).at + n; fault = Some c.fault; failures = (s i).failures + 1 })
          ∙ (λ i. record w { bytes = put_is i; at = at_is i; fault = Some c.fault; failures = w.failures + 1 });
    }

-- nothing is written
pub writer_none : (w : Written) → w ≡ writer_after w []
writer_none w =
    let same : w.at + 0 ≡ w.at = omega arith in
    let bytes_is : w.bytes ≡ put w.bytes w.at [] =
    sym (ap (λ n. take w.at w.bytes ++ drop n w.bytes) same ∙ take-append-drop w.at w.bytes) in
    λ i. record w { bytes = bytes_is i; at = sym same i }
