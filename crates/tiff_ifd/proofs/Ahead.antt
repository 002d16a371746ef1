-- Blocks of packed bytes that were read ahead are unpacked.
use Rattle.std.proofs.Common.{◌≡◌, ℕ, ◌+◌, ◌-◌, ◌<◌, ◌≤◌, ltb, List, [], ◌∷◌, ◌++◌, length, take, drop, get_or, refl, ap, sym, ◌∙◌, subst, arith, append_assoc, add-one, length-append, length-drop}
use Rattle.std.proofs.lemmas.List.{append-nil, nil_from_length, drop-append-le, take-append-le, take-append-drop, length-replicate, drop-drop, take-take, take_all, take_at, drop_at, length-take-le}
use borrow.Rule.Slice.PartMut.{put_mid, post_of}
use lib.ListN.{replicate}
use Rattle.tiff_base.specs.Runs.{Unpacked, with_front, runs}
use Rattle.tiff_base.specs.SourceAndSink.{bytes_at, Reads}
use Rattle.tiff_base.specs.lemmas.Blocks.{runs_after_drop, runs_literal, runs_no_op, runs_run}
use Rattle.tiff_ifd.specs.declared.packbits.PackBitsCursor.{PackBitsCursor}
use Rattle.tiff_ifd.specs.Unpacking.{left_at, count_of, GivesNext, UnpacksFront}
use Rattle.tiff_ifd.specs.lemmas.Unpacking.{before_before, early_next, packed_next, read_behind, used_up}

-- ---- the first block

pub front_literal : (packed old part : List ℕ) (header n : ℕ) → header ≡ get_or packed 0 0
    → header < 128 → n ≡ header + 1 → n < length packed → n ≤ length old
    → part ≡ take n (drop 1 packed) → UnpacksFront packed old (n + 1) n (part ++ drop n old)
front_literal [] old part header n e h m a b c = absurd (omega (arith, a))
front_literal (x ∷ P) old part header n e h m a b c =
    let q : n ≤ length P = omega (arith, a) in
    let l : length part ≡ n = ap (λ (z : List ℕ). length z) c ∙ length-take-le n P q in
    let xh : x < 128 = omega (arith, e, h) in
    let nx : x + 1 ≡ n = omega (arith, e, m) in
    let front : take n (part ++ drop n old) ≡ take n P = take_at part (drop n old) n l ∙ c in
    let behind : drop n P ≡ drop (n + 1) (x ∷ P) =
    ap (λ (k : ℕ). drop k (x ∷ P)) (sym (add-one n)) in
    record {
      in_packed = omega (arith, a);
      in_buffer = b;
      next = λ early rest.
          runs_literal early x (P ++ rest) xh
          ∙ ap (λ (u : Unpacked). with_front (take (x + 1) (P ++ rest)) u) (runs_after_drop (x
          + 1) early (P ++ rest) (omega (arith, nx, q, length-append P rest)))
          ∙ (λ z. with_front (take (nx z) (P ++ rest)) (runs early (drop (nx z) (P ++ rest))))
          ∙ (λ z. with_front (take-append-le n P rest q z) (runs early (drop-append-le n P rest q z)))
          ∙ (λ z. with_front (sym front z) (runs early (behind z ++ rest)));
      behind = drop_at part (drop n old) n l;
    }

pub front_run : (packed old part : List ℕ) (header value n : ℕ) → 1 < length packed
    → header ≡ get_or packed 0 0 → value ≡ get_or packed 1 0 → 128 < header
    → n ≡ 257 - header → n ≤ length old → part ≡ replicate n value
    → UnpacksFront packed old 2 n (part ++ drop n old)
front_run [] old part header value n s e v h m b c = absurd (omega (arith, s))
front_run (x ∷ []) old part header value n s e v h m b c = absurd (omega (arith, s))
front_run (x ∷ y ∷ P) old part header value n s e v h m b c =
    let l : length part ≡ n = ap (λ (z : List ℕ). length z) c ∙ length-replicate n value in
    let nx : 257 - x ≡ n = omega (arith, e, m) in
    record {
      in_packed = omega (arith, s);
      in_buffer = b;
      next = λ early rest.
          runs_run early x y (P ++ rest) (omega (arith, e, h))
          ∙ (λ z. with_front (replicate (nx z) (sym v z)) (runs early (P ++ rest)))
          ∙ (λ z. with_front (sym (take_at part (drop n old) n l ∙ c) z) (runs early (P ++ rest)));
      behind = drop_at part (drop n old) n l;
    }

pub front_nothing : (packed old : List ℕ) (header : ℕ) → 1 < length packed
    → header ≡ get_or packed 0 0 → header ≡ 128 → UnpacksFront packed old 1 0 old
front_nothing [] old header s e h = absurd (omega (arith, s))
front_nothing (x ∷ P) old header s e h =
    let q : x ≡ 128 = omega (arith, e, h) in
    record {
      in_packed = omega (arith, s);
      in_buffer = omega arith;
      next = λ early rest. (λ z. runs early (q z ∷ (P ++ rest))) ∙ runs_no_op early (P ++ rest);
      behind = refl;
    }

-- ---- blocks in a row

pub front_none : (packed old : List ℕ) → UnpacksFront packed old 0 0 old
front_none packed old =
    record { in_packed = omega arith; in_buffer = omega arith; next = λ early rest. refl; behind = refl }

pub front_more : (packed old mid before_part part : List ℕ) (used done more n k : ℕ)
    → UnpacksFront packed old used done mid → length mid ≡ length old → done + k ≡ length mid
    → before_part ≡ drop done mid → length part ≡ length before_part
    → UnpacksFront (drop used packed) before_part more n part
    → UnpacksFront packed old (used + more) (done + n) (put_mid done k mid part)
front_more packed old mid before_part part used done more n k a m d e l b =
    let dl : done ≤ length mid = omega (arith, d) in
    let nl : n ≤ length part = omega (arith, b.in_buffer, l) in
    let taken : take (done + n) (put_mid done k mid part) ≡ take done mid ++ take n part =
    read_behind mid part done k n dl nl in
    let none : post_of done k mid ≡ [] =
    nil_from_length (post_of done k mid) (omega (arith, length-drop (done + k) mid, length-drop done mid, length-drop k (drop done mid), d)) in
    record {
      in_packed = omega (arith, a.in_packed, b.in_packed, length-drop used packed);
      in_buffer =
          omega (arith, a.in_buffer, b.in_buffer, ap (λ (z : List ℕ). length z) e, length-drop done mid, m);
      next = λ early rest.
          a.next early rest
          ∙ ap (with_front (take done mid)) (b.next early rest)
          ∙ before_before (take done mid) (take n part) (runs early (drop more (drop used packed)
          ++ rest))
          ∙ (λ z. with_front (sym taken z) (runs early (drop-drop more used packed z ++ rest)));
      behind = sym (drop-drop n done (put_mid done k mid part))
          ∙ ap (drop n) (drop_at (take done mid) (part
          ++ post_of done k mid) done (length-take-le done mid dl))
          ∙ ap (λ (z : List ℕ). drop n (part ++ z)) none
          ∙ ap (drop n) (append-nil part)
          ∙ b.behind
          ∙ ap (drop n) (e ∙ a.behind)
          ∙ drop-drop n done old;
    }

-- blocks in a row, with the parts in the form that a call has them
pub front_step : (packed old mid part : List ℕ) (used done more n : ℕ)
    → UnpacksFront packed old used done mid → length mid ≡ length old
    → length part ≡ length (take (length mid - done) (drop done mid))
    → UnpacksFront (take (length packed - used) (drop used packed))
    (take (length mid - done) (drop done mid)) more n part
    → UnpacksFront packed old (used + more) (done + n) (put_mid done (length mid - done) mid part)
front_step packed old mid part used done more n a m l b =
    let p : take (length packed - used) (drop used packed) ≡ drop used packed =
    take_all (length packed - used) (drop used packed) (omega (arith, length-drop used packed)) in
    let q : take (length mid - done) (drop done mid) ≡ drop done mid =
    take_all (length mid - done) (drop done mid) (omega (arith, length-drop done mid)) in
    front_more packed old mid (take (length mid - done) (drop done mid)) part used done more n
    (length mid - done) a m (omega (arith, a.in_buffer, m)) q l
    (subst (λ (z : List ℕ). UnpacksFront z (take (length mid - done) (drop done mid)) more n part) p b)

-- ---- in a source

-- the bytes that were read ahead
pub ahead_told : (s zeros part : List ℕ) (at most held : ℕ) → most ≤ length zeros
    → Reads s at (take most zeros) held part
    → (take held (part ++ drop most zeros) ≡ bytes_at s at held) × (held ≤ most)
ahead_told s zeros part at most held m r =
    let l : length (bytes_at s at held) ≡ held =
    length-take-le held (drop at s) (omega (arith, r.in_bytes, length-drop at s)) in
    let w : held ≤ most = omega (arith, r.in_buffer, length-take-le most zeros m) in (
      ap (λ (z : List ℕ). take held (z ++ drop most zeros)) r.next
          ∙ ap (take held) (append_assoc (bytes_at s at held) (drop held (take most zeros)) (drop most zeros))
          ∙ take_at (bytes_at s at held) (drop held (take most zeros) ++ drop most zeros) held l,
      w,
    )

pub front_gives : (s packed old new : List ℕ) (offset : PackBitsCursor) (held used n : ℕ)
    → count_of offset.block ≡ 0 → packed ≡ bytes_at s offset.at held → held ≤ offset.len
    → held ≤ length s - offset.at → UnpacksFront packed old used n new → 0 < n
    → GivesNext (left_at s offset) old n new (left_at s (record offset { at = offset.at + used; len = offset.len - used }))
front_gives s packed old new offset held used n c t w i u some =
    let at : ℕ = offset.at in
    let len : ℕ = offset.len in
    let all : List ℕ = bytes_at s at len in
    let size : length packed ≡ held =
    ap (λ (z : List ℕ). length z) t
    ∙ length-take-le held (drop at s) (omega (arith, i, length-drop at s)) in
    let split : all ≡ packed ++ drop held all =
    sym (ap (λ (z : List ℕ). z ++ drop held all) (t ∙ sym (take-take held len (drop at s) w))
    ∙ take-append-drop held all) in
    let left : drop used packed ++ drop held all ≡ bytes_at s (at + used) (len - used) =
    sym (drop-append-le used packed (drop held all) u.in_packed) ∙ ap (drop used) (sym split)
    ∙ sym (packed_next s at len used (omega (arith, u.in_packed, size, w))) in
    let early : ltb (length s - (at + used)) (len - used) ≡ ltb (length s - at) len =
    early_next s at len used (omega (arith, u.in_packed, size, w))
    (omega (arith, u.in_packed, size, i)) in
    record {
      in_buffer = u.in_buffer;
      next = used_up s offset c
          ∙ ap (runs (ltb (length s - at) len)) split
          ∙ u.next (ltb (length s - at) len) (drop held all)
          ∙ (λ z. with_front (take n new) (runs (sym early z) (left z)))
          ∙ ap (with_front (take n new)) (sym (used_up s (record offset { at = at + used; len = len - used }) c));
      behind = u.behind;
      none = λ _ h. absurd (omega (arith, h, some));
    }
