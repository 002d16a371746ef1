-- The parts of a file that has other bytes over one of its links, and more bytes behind it.
use Rattle.std.proofs.Common.{◌≡◌, ℕ, ◌+◌, ◌-◌, ◌^◌, ◌<◌, ◌≤◌, inl, inr, zero, suc, List, [], ◌∷◌, ◌++◌, length, take, drop, Result, Ok, Err, IfOk, refl, ap, sym, ◌∙◌, arith, append_assoc, append-nil, length-append, length-drop}
use Rattle.std.proofs.lemmas.Bool.{cases_lt}
use Rattle.std.proofs.lemmas.List.{get_or_append_left, get_or-append_right, get_or-drop, drop-drop, drop_at, take-append-le, take-append-drop, take_all, drop-append-le, length-take-le}
use Rattle.tiff_base.specs.declared.io.DeviceFault.{DeviceFault}
use Rattle.tiff_base.specs.SourceAndSink.{AreOctets, Reads, put}
use Rattle.tiff_append.specs.Added.{HasPart, added_to}

module _ (file : List ℕ) (q : ℕ) (link more : List ℕ) where
  -- the bytes, as four parts
  parts : added_to file q link more ≡ take q file ++ (link ++ (drop (q + length link) file ++ more))
  parts =
      append_assoc (take q file) (link ++ drop (q + length link) file) more
      ∙ ap (λ l. take q file ++ l) (append_assoc link (drop (q + length link) file) more)

  pub length_parts : q + length link ≤ length file
      → length (added_to file q link more) ≡ length file + length more
  length_parts fit =
      let t : length (take q file) ≡ q = length-take-le q file (omega (arith, fit)) in
      ap length parts
      ∙ omega (
        arith,
        length-append (take q file) (link ++ (drop (q + length link) file ++ more)),
        length-append link (drop (q + length link) file ++ more),
        length-append (drop (q + length link) file) more,
        length-drop (q + length link) file,
        t,
        fit,
      )

  pub length_short : q + length link ≤ length file → length file + length more < 2 ^ 64
      → length (added_to file q link more) < 2 ^ 64
  length_short fit short = omega (arith, length_parts fit, short)

  pub front_part : (at : ℕ) → q + length link ≤ length file → at < q
      → HasPart (added_to file q link more) (take q file) 0 at
  front_part at fit here =
      let t : length (take q file) ≡ q = length-take-le q file (omega (arith, fit)) in
      record { before = omega arith; rest = link ++ (drop (q + length link) file ++ more); is = parts; here = inl (omega (arith, t, here)) }

  from_link : q + length link ≤ length file
      → drop q (added_to file q link more) ≡ link ++ (drop (q + length link) file ++ more)
  from_link fit =
      ap (λ l. drop q l) parts ∙ drop_at (take q file) (link
      ++ (drop (q + length link) file ++ more)) q (length-take-le q file (omega (arith, fit)))

  pub link_part : (at : ℕ) → q + length link ≤ length file → q ≤ at → at < q + length link
      → HasPart (added_to file q link more) link q at
  link_part at fit from here =
      record { before = from; rest = drop (q + length link) file ++ more; is = from_link fit; here = inl here }

  from_back : q + length link ≤ length file
      → drop (q + length link) (added_to file q link more) ≡ drop (q + length link) file ++ more
  from_back fit =
      sym (drop-drop (length link) q (added_to file q link more))
      ∙ ap (λ l. drop (length link) l) (from_link fit)
      ∙ drop_at link (drop (q + length link) file ++ more) (length link) refl

  pub back_part : (at : ℕ) → q + length link ≤ length file → q + length link ≤ at → at < length file
      → HasPart (added_to file q link more) (take (length file - (q + length link)) (drop (q
      + length link) file)) (q + length link) at
  back_part at fit from here =
      let n : ℕ = length file - (q + length link) in
      let size : length (drop (q + length link) file) ≡ n = length-drop (q + length link) file in
      let whole : take n (drop (q + length link) file) ≡ drop (q + length link) file =
      take_all n (drop (q + length link) file) (omega (arith, size)) in
      record {
        before = from;
        rest = more;
        is = from_back fit ∙ ap (λ l. l ++ more) (sym whole);
        here =
            inl (let w : length (take n (drop (q + length link) file)) ≡ n = ap length whole ∙ size in omega (arith, w, fit, here));
      }

  from_more : q + length link ≤ length file → drop (length file) (added_to file q link more) ≡ more
  from_more fit =
      let n : ℕ = length file - (q + length link) in
      let s : q + length link + n ≡ length file = omega (arith, fit) in
      ap (λ k. drop k (added_to file q link more)) (sym s)
      ∙ sym (drop-drop n (q + length link) (added_to file q link more))
      ∙ ap (λ l. drop n l) (from_back fit)
      ∙ drop_at (drop (q + length link) file) more n (length-drop (q + length link) file)

  pub more_part : (at : ℕ) → q + length link ≤ length file → length file ≤ at
      → HasPart (added_to file q link more) more (length file) at
  more_part at fit from =
      record { before = from; rest = []; is = from_more fit ∙ sym (append-nil more); here = inr refl }

-- nothing over the end of a file, and nothing behind it
pub none_added : (file : List ℕ) (q : ℕ) → q ≡ length file → added_to file q [] [] ≡ file
none_added file q is =
    let e : q + 0 ≡ q = omega arith in
    append-nil (take q file ++ drop (q + 0) file) ∙ ap (λ k. take q file ++ drop k file) e
    ∙ take-append-drop q file

-- ---- a read of a part

read_near : (bytes part rest : List ℕ) (from at n : ℕ) → from ≤ at → drop from bytes ≡ part ++ rest
    → (at - from ≤ length part) → n ≤ length part - (at - from)
    → take n (drop at bytes) ≡ take n (drop (at - from) part)
read_near bytes part rest from at n before is near fits =
    let s : from + (at - from) ≡ at = omega (arith, before) in
    ap (λ k. take n (drop k bytes)) (sym s)
    ∙ ap (λ l. take n l) (sym (drop-drop (at - from) from bytes) ∙ ap (λ l. drop (at - from) l) is
    ∙ drop-append-le (at - from) part rest near)
    ∙ take-append-le n (drop (at - from) part) rest (omega (arith, length-drop (at - from) part, fits))

read_all : (bytes part rest : List ℕ) (from at n : ℕ) → from ≤ at → drop from bytes ≡ part ++ rest
    → rest ≡ [] → take n (drop at bytes) ≡ take n (drop (at - from) part)
read_all bytes part rest from at n before is none =
    let s : from + (at - from) ≡ at = omega (arith, before) in
    let all : drop from bytes ≡ part = is ∙ ap (λ l. part ++ l) none ∙ append-nil part in
    ap (λ k. take n (drop k bytes)) (sym s)
    ∙ ap (λ l. take n l) (sym (drop-drop (at - from) from bytes)
    ∙ ap (λ l. drop (at - from) l) all)

-- A read of a part is one of the bytes.
pub reads_part : (bytes part : List ℕ) (from at : ℕ) (old : List ℕ) (n : ℕ) (new : List ℕ)
    → HasPart bytes part from at → Reads part (at - from) old n new → Reads bytes at old n new
reads_part bytes part from at old n new h r =
    let l : length part + length h.rest ≡ length bytes - from =
    sym (length-append part h.rest) ∙ ap length (sym h.is) ∙ length-drop from bytes in
    let Near : Type 0 = at < from + length part in
    record {
      in_buffer = r.in_buffer;
      in_bytes = (let i = r.in_bytes in let b = h.before in omega (arith, l, i, b));
      some =
          λ room more. r.some room (elim h.here [ inl near ↦ (let b = h.before in omega (arith, near, b)) | inr none ↦ (let z : length h.rest ≡ 0 = ap length none in let b = h.before in omega (arith, l, z, more, b)) ]);
      next =
          r.next
          ∙ ap (λ l. l ++ drop n old)
          (sym (elim h.here [
            | inl near ↦ (let b = h.before in let i = r.in_bytes in
                read_near bytes part h.rest from at n h.before h.is (omega (arith, near, b)) i)
            | inr none ↦ read_all bytes part h.rest from at n h.before h.is none
          ]));
    }

-- the same, as the result of a call
pub told_part : (bytes part : List ℕ) (from at : ℕ) (old : List ℕ) (r : Result ℕ DeviceFault)
    (new : List ℕ) → HasPart bytes part from at
    → IfOk r (λ n. Reads part (at - from) old n new) → IfOk r (λ n. Reads bytes at old n new)
told_part bytes part from at old (Ok n) new h r = reads_part bytes part from at old n new h r
told_part bytes part from at old (Err e) new h r = tt

-- ---- bytes

octets_append : (xs ys : List ℕ) → AreOctets xs → AreOctets ys → AreOctets (xs ++ ys)
octets_append xs ys f g k =
    elim (cases_lt k (length xs)) [
      | inl below ↦ omega (arith, get_or_append_left xs ys 0 k below, f k)
      | inr above ↦ omega (arith, get_or-append_right xs ys (length xs) k 0 refl above, g (k - length xs))
    ]

octets_take : (n : ℕ) (xs : List ℕ) → AreOctets xs → AreOctets (take n xs)
octets_take zero xs f k = omega arith
octets_take (suc n) [] f k = f k
octets_take (suc n) (x ∷ xs) f zero = f zero
octets_take (suc n) (x ∷ xs) f (suc k) = octets_take n xs (λ j. f (suc j)) k

octets_drop : (n : ℕ) (xs : List ℕ) → AreOctets xs → AreOctets (drop n xs)
octets_drop n xs f k = omega (arith, get_or-drop n xs k 0, f (n + k))

pub octets_added : (file : List ℕ) (q : ℕ) (link more : List ℕ) → AreOctets file → AreOctets link
    → AreOctets more → AreOctets (added_to file q link more)
octets_added file q link more f l m =
    octets_append (put file q link) more
    (octets_append (take q file) (link ++ drop (q + length link) file) (octets_take q file f)
    (octets_append link (drop (q + length link) file) l (octets_drop (q + length link) file f)))
    m
