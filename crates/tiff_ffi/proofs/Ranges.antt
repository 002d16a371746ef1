-- Chunks that are read one behind the other.
use Rattle.std.proofs.Common.{◌≡◌, ℕ, zero, suc, ◌+◌, ◌-◌, ◌^◌, ◌≤◌, ◌<◌, List, ◌++◌, length, take, drop, Bool, true, Ok, Err, refl, ap, sym, subst, arith, ◌∙◌, append_assoc}
use Rattle.std.specs.Prelude.{Result, if◌then◌else◌, nat_lt}
use Rattle.std.proofs.lemmas.Bool.{le-leb, lt-leb, lt-ltb}
use Rattle.std.proofs.lemmas.Grind.{common_steps}
use Rattle.std.proofs.lemmas.List.{take-append-drop}
use borrow.Rule.Slice.PartMut.{put_mid}
use Rattle.tiff_base.specs.declared.error.TiffError.{TiffError}
use Rattle.tiff_base.specs.declared.error.TiffError.TheVariants.{UsageError}
use Rattle.tiff_base.specs.declared.error.UsageError.TheVariants.{InsufficientOutputBufferSize, InvalidChunkIndex}
use Rattle.tiff_base.specs.Answers.{◌>>=◌}
use Rattle.tiff_ffi.specs.Calls.{chunks_from, chunks_in, room_for, ChunkReading}

-- a result behind some bytes
abbrev pub behind : List ℕ → Result (List ℕ) TiffError → Result (List ℕ) TiffError
behind front r = r >>= λ rest. Ok (front ++ rest)

behind_both : (a b : List ℕ) (r : Result (List ℕ) TiffError)
    → behind a (behind b r) ≡ behind (a ++ b) r
behind_both a b (Ok rest) = ap (λ (l : List ℕ). Ok l) (sym (append_assoc a b rest))
behind_both a b (Err e) = refl

roomy : (len : ℕ) (s : List ℕ) → len ≤ length s → room_for len s ≡ Ok (take len s)
roomy len s l =
    ap (λ (b : Bool). if b then
    Ok (take len s) else Err (UsageError (InsufficientOutputBufferSize len (length s))))
    (le-leb len (length s) l)

short : (len : ℕ) (s : List ℕ) → length s < len
    → room_for len s ≡ Err (UsageError (InsufficientOutputBufferSize len (length s)))
short len s l =
    ap (λ (b : Bool). if b then
    Ok (take len s) else Err (UsageError (InsufficientOutputBufferSize len (length s))))
    (lt-leb len (length s) l)

module _ (by : ChunkReading) (n i : ℕ) (s : List ℕ) where
  abbrev read : ℕ → Result (List ℕ) TiffError → Result (List ℕ) TiffError
  read len r = r >>= λ chunk. behind chunk (chunks_in by n (i + 1) (drop len s))

  abbrev placed : ℕ → Result (List ℕ) TiffError → Result (List ℕ) TiffError
  placed len room = room >>= λ r. read len (by.read i r)

  one_more : chunks_in by (suc n) i s ≡ (by.len_of i >>= λ len. placed len (room_for len s))
  unfolding chunks_in
  one_more = refl

  pub no_chunk : (e : TiffError) → by.len_of i ≡ Err e → chunks_in by (suc n) i s ≡ Err e
  no_chunk e h =
      one_more ∙ ap (λ (r : Result ℕ TiffError). r >>= λ len. placed len (room_for len s)) h

  module _ (len : ℕ) (h : by.len_of i ≡ Ok len) where
    known : chunks_in by (suc n) i s ≡ placed len (room_for len s)
    known = one_more ∙ ap (λ (r : Result ℕ TiffError). r >>= λ len. placed len (room_for len s)) h

    pub no_room : length s < len → chunks_in by (suc n) i s
        ≡ Err (UsageError (InsufficientOutputBufferSize len (length s)))
    no_room l = known ∙ ap (placed len) (short len s l)

    pub not_read : (e : TiffError) → len ≤ length s → by.read i (take len s) ≡ Err e
        → chunks_in by (suc n) i s ≡ Err e
    not_read e l a = known ∙ ap (placed len) (roomy len s l) ∙ ap (read len) a

    pub one_read : (chunk : List ℕ) → len ≤ length s → by.read i (take len s) ≡ Ok chunk
        → chunks_in by (suc n) i s ≡ behind chunk (chunks_in by n (i + 1) (drop len s))
    one_read chunk l a = known ∙ ap (placed len) (roomy len s l) ∙ ap (read len) a

-- ---- the chunks from one up to another, so many bytes in

module _ (by : ChunkReading) (first end chunk at : ℕ) (old buf : List ℕ) (more : chunk < end)
    (room : at ≤ length buf)
    (left : chunks_in by (end - first) first old ≡ behind (take at buf) (chunks_in by (end - chunk) chunk (drop at buf))) where
  count : end - chunk ≡ suc (end - (chunk + 1))
  count = omega (arith, more)

  so_far : chunks_in by (end - first) first old
      ≡ behind (take at buf) (chunks_in by (suc (end - (chunk + 1))) chunk (drop at buf))
  so_far = left ∙ ap (λ (k : ℕ). behind (take at buf) (chunks_in by k chunk (drop at buf))) count

  pub stops_at_none : (e : TiffError) → by.len_of chunk ≡ Err e
      → chunks_in by (end - first) first old ≡ Err e
  stops_at_none e h =
      so_far ∙ ap (behind (take at buf)) (no_chunk by (end - (chunk + 1)) chunk (drop at buf) e h)

  module _ (len : ℕ) (h : by.len_of chunk ≡ Ok len) where
    pub stops_short : length buf - at < len
        → chunks_in by (end - first) first old
        ≡ Err (UsageError (InsufficientOutputBufferSize len (length buf - at)))
    stops_short l =
        let is : length (drop at buf) ≡ length buf - at = grind (arith, common_steps) in
        so_far ∙ ap (behind (take at buf)) (no_room by (end - (chunk
        + 1)) chunk (drop at buf) len h (omega (arith, l, is)))
        ∙ ap (λ (k : ℕ). Err (UsageError (InsufficientOutputBufferSize len k))) is

    pub stops_unread : (e : TiffError) (m : ℕ) → m ≡ len → len ≤ length buf - at
        → by.read chunk (take m (drop at buf)) ≡ Err e
        → chunks_in by (end - first) first old ≡ Err e
    stops_unread e m w l a =
        let is : length (drop at buf) ≡ length buf - at = grind (arith, common_steps) in
        so_far ∙ ap (behind (take at buf)) (not_read by (end - (chunk
        + 1)) chunk (drop at buf) len h e (omega (arith, l, is)) (subst (λ (k : ℕ). by.read chunk (take k (drop at buf)) ≡ Err e) w a))

    pub goes_on : (new : List ℕ) (m : ℕ) → m ≡ len → length new ≡ len → len ≤ length buf - at
        → by.read chunk (take m (drop at buf)) ≡ Ok new
        → chunks_in by (end - first) first old
        ≡ behind (take (at + len) (put_mid at m buf new)) (chunks_in by (end - (chunk + 1)) (chunk
        + 1) (drop (at + len) (put_mid at m buf new)))
    goes_on new m w e l a =
        let is : length (drop at buf) ≡ length buf - at = grind (arith, common_steps) in
        let front : take (at + len) (put_mid at m buf new) ≡ take at buf ++ new =
        grind (arith, common_steps) in
        let back : drop (at + len) (put_mid at m buf new) ≡ drop len (drop at buf) =
        grind (arith, common_steps) in
        so_far ∙ ap (behind (take at buf)) (one_read by (end - (chunk
        + 1)) chunk (drop at buf) len h new (omega (arith, l, is)) (subst (λ (k : ℕ). by.read chunk (take k (drop at buf)) ≡ Ok new) w a))
        ∙ behind_both (take at buf) new (chunks_in by (end - (chunk + 1)) (chunk
        + 1) (drop len (drop at buf)))
        ∙ (λ t. behind (sym front t) (chunks_in by (end - (chunk + 1)) (chunk + 1) (sym back t)))

-- All chunks are read.
pub all_read : (by : ChunkReading) (first end chunk at : ℕ) (old buf : List ℕ) → end ≤ chunk
    → chunks_in by (end - first) first old
    ≡ behind (take at buf) (chunks_in by (end - chunk) chunk (drop at buf))
    → chunks_in by (end - first) first old ≡ Ok buf
unfolding chunks_in
all_read by first end chunk at old buf l left =
    let none : end - chunk ≡ zero = omega (arith, l) in
    left ∙ ap (λ (k : ℕ). behind (take at buf) (chunks_in by k chunk (drop at buf))) none
    ∙ ap (λ (x : List ℕ). Ok x) (take-append-drop at buf)

-- The chunks up to an end are those that are counted, where all their numbers are below 2^32.
pub are_counted : (by : ChunkReading) (first count end : ℕ) (slice : List ℕ) → end ≡ first + count
    → first + count < 2 ^ 32
    → chunks_in by (end - first) first slice ≡ chunks_from by first count slice
are_counted by first count end slice e l =
    let counted : end - first ≡ count = omega (arith, e) in
    let some : nat_lt (first + count) (2 ^ 32) ≡ true = lt-ltb (first + count) (2 ^ 32) l in
    ap (λ (k : ℕ). chunks_in by k first slice) counted
    ∙ sym (ap (λ (b : Bool). if b then
    chunks_in by count first slice else Err (UsageError (InvalidChunkIndex (2 ^ 32 - 1)))) some)

-- ---- the same chunks, read in two ways

then_alike : {A : Type 0} (r : Result A TiffError) (f g : A → Result (List ℕ) TiffError)
    → ((x : A) → f x ≡ g x) → (r >>= f) ≡ (r >>= g)
then_alike (Ok x) f g h = h x
then_alike (Err e) f g h = refl

-- Each chunk has as many bytes, and is the same in a slice.
pub record AreAlike (a b : ChunkReading) : Type 0 where
  pub len_of : (i : ℕ) → a.len_of i ≡ b.len_of i
  pub read : (i : ℕ) (slice : List ℕ) → a.read i slice ≡ b.read i slice

module _ (a b : ChunkReading) (h : AreAlike a b) where
  chunks_alike : (n i : ℕ) (s : List ℕ) → chunks_in a n i s ≡ chunks_in b n i s
  unfolding chunks_in
  chunks_alike zero i s = refl
  chunks_alike (suc n) i s =
      let rest : (len : ℕ) (chunk : List ℕ)
      → behind chunk (chunks_in a n (i + 1) (drop len s))
      ≡ behind chunk (chunks_in b n (i + 1) (drop len s))
      = λ len chunk. ap (behind chunk) (chunks_alike n (i + 1) (drop len s)) in
      let one : (len : ℕ) (room : List ℕ)
      → (a.read i room >>= λ chunk. behind chunk (chunks_in a n (i + 1) (drop len s)))
      ≡ (b.read i room >>= λ chunk. behind chunk (chunks_in b n (i + 1) (drop len s)))
      = λ len room. then_alike (a.read i room) (λ chunk. behind chunk (chunks_in a n (i + 1) (drop len s))) (λ chunk. behind chunk (chunks_in b n (i + 1) (drop len s))) (rest len)
      ∙ ap (λ (r : Result (List ℕ) TiffError). r
      >>= λ chunk. behind chunk (chunks_in b n (i + 1) (drop len s))) (h.read i room) in
      then_alike (a.len_of i) _ _ (λ len. then_alike (room_for len s) _ _ (one len))
      ∙ ap (λ (r : Result ℕ TiffError). r >>= λ len. room_for len s >>= λ room. b.read i room
      >>= λ chunk. behind chunk (chunks_in b n (i + 1) (drop len s))) (h.len_of i)

  pub ranges_alike : (first count : ℕ) (slice : List ℕ)
      → chunks_from a first count slice ≡ chunks_from b first count slice
  ranges_alike first count slice =
      ap (λ (r : Result (List ℕ) TiffError). if nat_lt (first + count) (2 ^ 32) then
      r else Err (UsageError (InvalidChunkIndex (2 ^ 32 - 1)))) (chunks_alike count first slice)
