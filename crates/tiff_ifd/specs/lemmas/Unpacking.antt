-- A packed list, block by block, in pieces.
use Rattle.std.proofs.Common.{◌≡◌, ◌⊎◌, inl, inr, ℕ, zero, suc, ◌+◌, ◌-◌, ◌<◌, ◌≤◌, Bool, true, false, cond, eqb, ltb, leb, List, [], ◌∷◌, ◌++◌, length, take, drop, get_or, Ok, Err, refl, ap, sym, ◌∙◌, subst, arith, ⊎_elim, append_assoc, zero-add, length-append, length-drop}
use Rattle.std.proofs.lemmas.Bool.{cases_Bool, cases_lt, lt-ltb, le-ltb, leb-true, ne_eqb}
use Rattle.std.proofs.lemmas.List.{append-nil, drop_more, drop_all, drop-append-le, take-append-le, take-append-drop, length-replicate, replicate-append-replicate, drop-drop, drop-take, length-take, take-take, nil_from_length, take_at, drop_at, length-take-le}
use Rattle.std.proofs.Math.Seq.{take-add, take-append-add}
use borrow.Rule.Slice.PartMut.{put_mid, post_of}
use lib.ListN.{replicate}
use Rattle.tiff_base.specs.declared.error.TiffError.{TiffError}
use Rattle.tiff_base.specs.declared.error.TiffError.TheVariants.{IoError}
use Rattle.tiff_base.specs.declared.io.IoKind.TheVariants.{UnexpectedEof}
use Rattle.tiff_base.specs.Answers.{IsCause}
use Rattle.tiff_base.specs.Runs.{End, Plain, Broken, Unpacked, with_front, runs, runs_after}
use Rattle.tiff_base.specs.SourceAndSink.{exactly_at, bytes_at, Reads}
use Rattle.tiff_base.specs.lemmas.Blocks.{runs_cons, runs_no_op, runs_run, runs_broken}
use Rattle.tiff_base.specs.lemmas.Bytes.{missing}
use Rattle.tiff_base.specs.lemmas.Causes.{cause_along}
use Rattle.tiff_ifd.specs.declared.packbits.Block.{Block}
use Rattle.tiff_ifd.specs.declared.packbits.Block.TheVariants.{Literal, Run}
use Rattle.tiff_ifd.specs.declared.packbits.PackBitsCursor.{PackBitsCursor}
use Rattle.tiff_ifd.specs.Unpacking.{unpacked_at, nothing_left, left_in, left_at, count_of, GivesNext, IsBroken, HasTooFew}

-- ---- a byte of the source

pub byte_missing : (failed : Type 0) (s : List ℕ) (at : ℕ) (e : TiffError)
    → IsCause ⊥ failed e (exactly_at s at 1 ≡ Err e)
    → IsCause ⊥ failed e ((e ≡ IoError UnexpectedEof) × (length s ≤ at))
byte_missing failed s at e h =
    cause_along e (λ w. w) (λ f. f) (λ g. (let m = missing s at 1 e g in
    (sym m.1, omega (arith, m.0)))) h

one_byte : (s v : List ℕ) (at : ℕ) → at < length s → take 1 (drop at s) ≡ v
    → get_or v 0 0 ≡ get_or s at 0
one_byte s v at a e = ap (λ (l : List ℕ). get_or l 0 0) (sym e ∙ ap (take 1) (drop_more s at 0 a))

pub byte_there : (s v : List ℕ) (at : ℕ) → exactly_at s at 1 ≡ Ok v
    → (at < length s) × (get_or v 0 0 ≡ get_or s at 0)
byte_there s v at =
    ⊎_elim
    (λ (t : leb 1 (length s - at) ≡ true). rw t (λ h. (let a : at < length s = omega (arith, leb-true 1 (length s - at) t) in (a, one_byte s v at a cc))))
    (λ (f : leb 1 (length s - at) ≡ false). rw f (λ h. cc))
    (cases_Bool (leb 1 (length s - at)))

-- a byte of a source whose bytes are unchanged
pub same_byte : (s t : List ℕ) (at byte : ℕ) → t ≡ s → (at < length t) × (byte ≡ get_or t at 0)
    → (at < length s) × (byte ≡ get_or s at 0)
same_byte s t at byte e h = subst (λ (l : List ℕ). (at < length l) × (byte ≡ get_or l at 0)) e h

-- ---- the packed bytes from a later offset on

pub early_next : (s : List ℕ) (at len k : ℕ) → k ≤ len → k ≤ length s - at
    → ltb (length s - (at + k)) (len - k) ≡ ltb (length s - at) len
early_next s at len k a b =
    ⊎_elim
    (λ h. lt-ltb (length s - (at + k)) (len - k) (omega (arith, h, a, b))
    ∙ sym (lt-ltb (length s - at) len h))
    (λ h. le-ltb (length s - (at + k)) (len - k) (omega (arith, h, a, b))
    ∙ sym (le-ltb (length s - at) len h))
    (cases_lt (length s - at) len)

pub packed_next : (s : List ℕ) (at len k : ℕ) → k ≤ len
    → bytes_at s (at + k) (len - k) ≡ drop k (bytes_at s at len)
packed_next s at len k a =
    let e : k + (len - k) ≡ len = omega (arith, a) in
    sym (ap (λ (m : ℕ). drop k (take m (drop at s))) (sym e)
    ∙ (drop-take k (len - k) (drop at s) ∙ ap (λ (x : List ℕ). take (len - k) x) (drop-drop k at s)))

packed_length : (s : List ℕ) (at len k : ℕ) → k ≤ len → k ≤ length s - at
    → k ≤ length (bytes_at s at len)
packed_length s at len k a b = omega (arith, length-take len (drop at s), length-drop at s, a, b)

packed_cons : (s : List ℕ) (at len : ℕ) → 0 < len → at < length s
    → bytes_at s at len ≡ get_or s at 0 ∷ bytes_at s (at + 1) (len - 1)
packed_cons s at len a b =
    let e : len ≡ suc (len - 1) = omega (arith, a) in
    ap (λ (m : ℕ). take m (drop at s)) e ∙ rw (drop_more s at 0 b) refl

packed_nil : (s : List ℕ) (at len : ℕ) → (len ≡ 0) ⊎ (length s ≤ at) → bytes_at s at len ≡ []
packed_nil s at len (inl a) =
    nil_from_length (bytes_at s at len) (omega (arith, length-take len (drop at s), a))
packed_nil s at len (inr a) =
    nil_from_length (bytes_at s at len) (omega (arith, length-take len (drop at s), length-drop at s, a))

-- ---- at a header

pub before_before : (xs ys : List ℕ) (u : Unpacked)
    → with_front xs (with_front ys u) ≡ with_front (xs ++ ys) u
before_before xs ys u =
    ap (λ (zs : List ℕ). let r : Unpacked = record { out = zs; end = u.end } in
    r) (sym (append_assoc xs ys u.out))

runs_nil : (early : Bool) → runs early [] ≡ nothing_left (cond early Broken Plain)
unfolding runs_after
runs_nil early = refl

at_header : (s : List ℕ) (at len : ℕ) → 0 < len → at < length s
    → unpacked_at s at len ≡ runs (ltb (length s - (at + 1)) (len - 1)) (get_or s at 0
    ∷ bytes_at s (at + 1) (len - 1))
at_header s at len a b =
    rw (packed_cons s at len a b, early_next s at len 1 (omega (arith, a)) (omega (arith, b))) refl

pub nothing_told : (s : List ℕ) (at len : ℕ) → 0 < len → at < length s → get_or s at 0 ≡ 128
    → unpacked_at s at len ≡ unpacked_at s (at + 1) (len - 1)
nothing_told s at len a b e =
    at_header s at len a b ∙ rw e (runs_no_op (ltb (length s - (at + 1)) (len - 1)) (bytes_at s (at
    + 1) (len - 1)))

pub literal_begun : (s : List ℕ) (at len n : ℕ) → 0 < len → at < length s → n ≡ get_or s at 0
    → n < 128
    → unpacked_at s at len ≡ left_at s (record { block = Literal (n + 1); at = at + 1; len = len - 1 })
literal_begun s at len n a b e h =
    let ne : eqb n 128 ≡ false = ne_eqb n 128 (λ d. omega (arith, d, h)) in
    at_header s at len a b ∙ (runs_cons (ltb (length s - (at + 1)) (len - 1)) (get_or s at 0) (bytes_at s (at + 1) (len - 1)) ∙ rw (← e, lt-ltb n 128 h, ne) refl)

pub run_begun : (s : List ℕ) (at len n value : ℕ) → 1 < len → at + 1 < length s → n ≡ get_or s at 0
    → 128 < n → value ≡ get_or s (at + 1) 0
    → unpacked_at s at len ≡ left_at s (record { block = Run value (257 - n); at = at + 1 + 1; len = len - 1 - 1 })
run_begun s at len n value a b e h v =
    at_header s at len (omega (arith, a)) (omega (arith, b))
    ∙ rw (packed_cons s (at + 1) (len - 1) (omega (arith, a)) b, ← e, ← v)
    (runs_run (ltb (length s - (at + 1)) (len - 1)) n value (bytes_at s (at + 1
    + 1) (len - 1 - 1)) h
    ∙ rw (early_next s (at + 1) (len - 1) 1 (omega (arith, a)) (omega (arith, b))) refl)

-- the source ends where a header would be
pub header_missing : (s : List ℕ) (at len : ℕ) → 0 < len → length s ≤ at
    → unpacked_at s at len ≡ nothing_left Broken
header_missing s at len a b =
    rw (packed_nil s at len (inr b), lt-ltb (length s - at) len (omega (arith, a, b))) (runs_nil true)

-- the header of a run is the last byte, of the source or of the packed bytes
pub value_missing : (s : List ℕ) (at len n : ℕ) → 0 < len → at < length s → n ≡ get_or s at 0
    → 128 < n → (len - 1 ≡ 0) ⊎ (length s ≤ at + 1)
    → unpacked_at s at len ≡ nothing_left Broken
value_missing s at len n a b e h m =
    at_header s at len a b ∙ rw (packed_nil s (at + 1) (len - 1) m, ← e)
    (runs_broken (ltb (length s - (at + 1)) (len - 1)) n h)

pub all_read : (s : List ℕ) (at len : ℕ) → len ≡ 0 → unpacked_at s at len ≡ nothing_left Plain
all_read s at len a =
    rw (packed_nil s at len (inl a), le-ltb (length s - at) len (omega (arith, a))) (runs_nil false)

-- the error where there is no next block
pub header_cause : (failed failed' : Type 0) (s t : List ℕ) (at len : ℕ) (left : Unpacked)
    (e : TiffError) → t ≡ s → (failed → failed') → left ≡ unpacked_at s at len → 0 < len
    → IsCause ⊥ failed e ((e ≡ IoError UnexpectedEof) × (length t ≤ at))
    → IsCause ⊥ failed' e (IsBroken left 1 e)
header_cause failed failed' s t at len left e b f l a h = cause_along e (λ w. w) f
    (λ g. (let m : length s ≤ at = omega (arith, g.1, ap length b) in record { fault = g.0; broken = l ∙ header_missing s at len a m; some = omega arith })) h

pub value_cause : (failed failed' : Type 0) (s t : List ℕ) (at len n : ℕ) (left : Unpacked)
    (e : TiffError) → t ≡ s → (failed → failed') → left ≡ unpacked_at s at len → 0 < len
    → at < length s → n ≡ get_or s at 0 → 128 < n
    → IsCause ⊥ failed e ((e ≡ IoError UnexpectedEof) × (length t ≤ at + 1))
    → IsCause ⊥ failed' e (IsBroken left 1 e)
value_cause failed failed' s t at len n left e b f l a c d k h = cause_along e (λ w. w) f
    (λ g. (let m : length s ≤ at + 1 = omega (arith, g.1, ap length b) in record { fault = g.0; broken = l ∙ value_missing s at len n a c d k (inr m); some = omega arith })) h

-- ---- in a block

used_in : (block : Block) (early : Bool) (P : List ℕ) → count_of block ≡ 0
    → left_in block early P ≡ runs early P
used_in (Literal n) early P e = ap (λ (m : ℕ). left_in (Literal m) early P) e
used_in (Run value n) early P e = ap (λ (m : ℕ). left_in (Run value m) early P) e

pub used_up : (s : List ℕ) (offset : PackBitsCursor) → count_of offset.block ≡ 0
    → left_at s offset ≡ unpacked_at s offset.at offset.len
used_up s offset e =
    used_in offset.block (ltb (length s - offset.at) offset.len) (bytes_at s offset.at offset.len) e

literal_nil : (n : ℕ) (early : Bool) → 0 < n → left_in (Literal n) early [] ≡ nothing_left Plain
unfolding runs_after
literal_nil zero early a = absurd (omega (arith, a))
literal_nil (suc n) early a = refl

runs_after_add : (n m : ℕ) (early : Bool) (P : List ℕ) → n ≤ length P
    → runs_after (n + m) early P ≡ runs_after m early (drop n P)
unfolding runs_after
runs_after_add zero m early P h = rw zero-add refl
runs_after_add (suc n) m early [] h = absurd (omega (arith, h))
runs_after_add (suc n) m early (b ∷ P) h =
    let e : suc n + m ≡ suc (n + m) =
    omega arith in rw e (runs_after_add n m early P (omega (arith, h)))

pub literal_part : (s : List ℕ) (at len c n : ℕ) → n ≤ c → n ≤ len → n ≤ length s - at
    → left_at s (record { block = Literal c; at = at; len = len })
    ≡ with_front (bytes_at s at n) (left_at s (record { block = Literal (c - n); at = at + n; len = len - n }))
literal_part s at len c n d a b =
    let f : c ≡ n + (c - n) = omega (arith, d) in
    ap (λ (m : ℕ). left_at s (record { block = Literal m; at = at; len = len })) f
    ∙ rw (early_next s at len n a b, packed_next s at len n a, runs_after_add n (c - n) (ltb (length s - at) len) (bytes_at s at len) (packed_length s at len n a b), take-add n (c - n) (bytes_at s at len), take-take n len (drop at s) a)
    (sym (before_before (take n (drop at s)) (take (c - n) (drop n (bytes_at s at len))) (runs_after (c - n) (ltb (length s - at) len) (drop n (bytes_at s at len)))))

pub literal_cut : (s : List ℕ) (at len c : ℕ) → 0 < c → (len ≡ 0) ⊎ (length s ≤ at)
    → left_at s (record { block = Literal c; at = at; len = len }) ≡ nothing_left Plain
literal_cut s at len c a e = rw (packed_nil s at len e) (literal_nil c (ltb (length s - at) len) a)

-- ---- into a buffer

behind_part : (old : List ℕ) (n most : ℕ) → n ≤ most → most ≤ length old
    → drop n (take most old) ++ drop most old ≡ drop n old
behind_part old n most a b =
    let l : n ≤ length (take most old) = omega (arith, length-take-le most old b, a) in
    sym (drop-append-le n (take most old) (drop most old) l)
    ∙ ap (drop n) (take-append-drop most old)

gives : (left rest : Unpacked) (old xs part : List ℕ) (n most : ℕ) → n ≤ most → most ≤ length old
    → part ≡ xs ++ drop n (take most old) → length xs ≡ n
    → left ≡ with_front xs rest → (n ≡ 0 → left ≡ nothing_left Plain)
    → GivesNext left old n (part ++ drop most old) rest
gives left rest old xs part n most a b p l g z =
    let e : part ++ drop most old ≡ xs ++ drop n old =
    ap (λ (ys : List ℕ). ys ++ drop most old) p
    ∙ append_assoc xs (drop n (take most old)) (drop most old)
    ∙ ap (λ (ys : List ℕ). xs ++ ys) (behind_part old n most a b) in
    record {
      in_buffer = omega (arith, a, b);
      next =
          g ∙ ap (λ (ys : List ℕ). with_front ys rest) (sym (ap (take n) e
          ∙ take_at xs (drop n old) n l));
      behind = ap (drop n) e ∙ drop_at xs (drop n old) n l;
      none = λ _ h. z h;
    }

block_is : (s : List ℕ) (offset : PackBitsCursor) (block : Block) → offset.block ≡ block
    → left_at s offset ≡ left_at s (record offset { block = block })
block_is s offset block e =
    ap (λ (b : Block). left_in b (ltb (length s - offset.at) offset.len) (bytes_at s offset.at offset.len)) e

no_byte : (s old part : List ℕ) (at len most n : ℕ) → 0 < length old → most ≤ length old
    → (most ≡ 0 → len ≡ 0) → Reads s at (take most old) n part → n ≡ 0
    → (at < length s) ⊎ (length s ≤ at) → (len ≡ 0) ⊎ (length s ≤ at)
no_byte s old part at len most n o b z r e (inr h) = inr h
no_byte s old part at len most n o b z r e (inl h) =
    ⊎_elim (λ (m : most < 1). inl (z (omega (arith, m))))
    (λ (m : 1 ≤ most). absurd (let f : 0 < n = r.some (omega (arith, length-take-le most old b, m)) h in omega (arith, f, e)))
    (cases_lt most 1)

pub literal_gives : (s old part : List ℕ) (offset : PackBitsCursor) (count most n : ℕ)
    → offset.block ≡ Literal count → 0 < count → 0 < length old
    → most ≤ count → most ≤ length old → most ≤ offset.len → (most ≡ 0 → offset.len ≡ 0)
    → Reads s offset.at (take most old) n part
    → GivesNext (left_at s offset) old n (part
    ++ drop most old) (left_at s (record { block = Literal (count - n); at = offset.at + n; len = offset.len - n }))
literal_gives s old part offset count most n e c o a b d z r =
    let l : n ≤ most = omega (arith, r.in_buffer, length-take-le most old b) in
    gives (left_at s offset) (left_at s (record { block = Literal (count - n); at = offset.at + n; len = offset.len - n })) old (bytes_at s offset.at n) part n most l b r.next
    (length-take-le n (drop offset.at s) (omega (arith, r.in_bytes, length-drop offset.at s)))
    (block_is s offset (Literal count) e ∙ literal_part s offset.at offset.len count n (omega (arith, l, a)) (omega (arith, l, d)) r.in_bytes)
    (λ h. block_is s offset (Literal count) e
    ∙ literal_cut s offset.at offset.len count c (no_byte s old part offset.at offset.len most n o b z r h (cases_lt offset.at (length s))))

run_part : (s : List ℕ) (offset : PackBitsCursor) (value c n : ℕ) → n ≤ c
    → left_at s (record offset { block = Run value c })
    ≡ with_front (replicate n value) (left_at s (record offset { block = Run value (c - n) }))
run_part s offset value c n a =
    let f : c ≡ n + (c - n) = omega (arith, a) in
    ap (λ (m : ℕ). left_at s (record offset { block = Run value m })) f
    ∙ rw (← replicate-append-replicate n (c - n) value)
    (sym (before_before (replicate n value) (replicate (c - n) value) (unpacked_at s offset.at offset.len)))

pub run_gives : (s old part : List ℕ) (offset : PackBitsCursor) (value count n : ℕ)
    → offset.block ≡ Run value count → n ≤ count → n ≤ length old → 0 < n → part ≡ replicate n value
    → GivesNext (left_at s offset) old n (part
    ++ drop n old) (left_at s (record { block = Run value (count - n); at = offset.at; len = offset.len }))
run_gives s old part offset value count n e a b o p =
    let w : n ≤ n = omega arith in
    let d : drop n (take n old) ≡ [] =
    drop_all n (take n old) (omega (arith, length-take-le n old b)) in
    gives (left_at s offset) (left_at s (record { block = Run value (count - n); at = offset.at; len = offset.len })) old (replicate n value) part n n w b
    (p ∙ sym (ap (λ (ys : List ℕ). replicate n value ++ ys) d
    ∙ append-nil (replicate n value))) (length-replicate n value)
    (block_is s offset (Run value count) e ∙ run_part s offset value count n a)
    (λ h. absurd (omega (arith, o, h)))

-- ---- reads in a row

-- the front of a buffer after a read into its part from `done` on
pub read_behind : (buf part : List ℕ) (done k n : ℕ) → done ≤ length buf → n ≤ length part
    → take (done + n) (put_mid done k buf part) ≡ take done buf ++ take n part
read_behind buf part done k n h g =
    let l : length (take done buf) ≡ done = length-take-le done buf h in
    ap (λ (m : ℕ). take (m + n) (put_mid done k buf part)) (sym l)
    ∙ (take-append-add (take done buf) (part ++ post_of done k buf) n
    ∙ ap (λ (x : List ℕ). take done buf ++ x) (take-append-le n part (post_of done k buf) g))

more_read : (first mid last : Unpacked) (buf part old : List ℕ) (done k n : ℕ) → done ≤ length buf
    → length part ≡ length old → first ≡ with_front (take done buf) mid
    → GivesNext mid old n part last
    → first ≡ with_front (take (done + n) (put_mid done k buf part)) last
more_read first mid last buf part old done k n h l e r =
    e ∙ ap (with_front (take done buf)) r.next ∙ before_before (take done buf) (take n part) last
    ∙ ap (λ (xs : List ℕ). with_front xs last) (sym (read_behind buf part done k n h (omega (arith, r.in_buffer, l))))

-- the front of a buffer, for a source whose bytes are unchanged
pub more_read_at : (s t u : List ℕ) (first mid last : PackBitsCursor) (buf part old : List ℕ)
    (done k n : ℕ) → t ≡ s → u ≡ s → done ≤ length buf → length part ≡ length old
    → left_at s first ≡ with_front (take done buf) (left_at s mid)
    → GivesNext (left_at t mid) old n part (left_at u last)
    → left_at s first ≡ with_front (take (done + n) (put_mid done k buf part)) (left_at s last)
more_read_at s t u first mid last buf part old done k n e f h l g r =
    let R : List ℕ → Type 0 = λ xs. GivesNext (left_at xs mid) old n part (left_at u last) in
    let Q : List ℕ → Type 0 = λ xs. GivesNext (left_at s mid) old n part (left_at xs last) in
    more_read (left_at s first) (left_at s mid) (left_at s last) buf part old done k n h l g
    (subst Q f (subst R e r))

pub room_behind : (buf part old : List ℕ) (done k n : ℕ) → done ≤ length buf
    → length part ≡ length old → n ≤ length old → done + n ≤ length (put_mid done k buf part)
room_behind buf part old done k n h l g =
    omega (arith, length-append (take done buf) (part ++ post_of done k buf), length-append part (post_of done k buf), length-take-le done buf h, h, l, g)

-- at an end, fewer bytes are left than the buffer has room for
pub short_by : (first left : Unpacked) (end : End) (buf : List ℕ) (done : ℕ) → done < length buf
    → first ≡ with_front (take done buf) left → left ≡ nothing_left end
    → length first.out < length buf
short_by first left end buf done h e f =
    let l : length first.out ≡ length (take done buf ++ left.out) =
    ap (λ (u : Unpacked). length u.out) e in
    let m : left.out ≡ [] = ap (λ (u : Unpacked). u.out) f in
    omega (arith, l, length-append (take done buf) left.out, ap length m, length-take-le done buf (omega (arith, h)), h)

pub short_cause : (failed failed' : Type 0) (first left : Unpacked) (buf : List ℕ) (done wanted : ℕ)
    (e : TiffError) → done < length buf → (failed → failed')
    → first ≡ with_front (take done buf) left
    → IsCause ⊥ failed e (IsBroken left wanted e)
    → IsCause ⊥ failed' e (HasTooFew first (length buf) e)
short_cause failed failed' first left buf done wanted e h f b g =
    cause_along e (λ w. w) f (λ k. record { fault = k.fault; short = short_by first left Broken buf done h b k.broken }) g
