-- Parts of a file that were read.
use Rattle.std.proofs.Common.{◌≡◌, inl, inr, ℕ, zero, suc, ◌+◌, ◌-◌, ◌^◌, ◌≤◌, ◌<◌, Bool, true, false, ◌&&◌, ◌||◌, cond, List, [], ◌∷◌, length, get_or, map, fold, All, nat_le, nat_lt, Option, None, Some, Result, Ok, Err, MatchResult, refl, sym, ap, ◌∙◌, arith, subst}
use denote.Ref.{Bor}
use Rattle.std.proofs.lemmas.List.{length-map}
use Rattle.std.proofs.lemmas.Bool.{le-leb, le-ltb, ltb-false}
use Rattle.std.specs.List.{insert, list_any}
use Rattle.tiff_base.specs.SourceAndSink.{answers_for}
use Rattle.std.specs.Prelude.{is_ok, is_err}
use Rattle.std.specs.Result.{IsErrAnd}
use Rattle.tiff_base.specs.declared.error.TiffError.{TiffError}
use Rattle.tiff_base.specs.declared.error.TiffError.TheVariants.{OutOfMemory}
use Rattle.tiff_base.specs.declared.windows.Stretch.{Stretch}
use Rattle.tiff_base.specs.declared.windows.Window.{Window}
use Rattle.tiff_base.specs.declared.windows.Windows.{Windows}
use Rattle.tiff_base.specs.Windows.{AreWindowsOf, IsWanted, IsWindowOf, behind_window, behind_windows, end_of, seen_by}
use Rattle.tiffpage_lib.specs.declared.failure.Failure.{Failure}
use Rattle.tiffpage_lib.specs.declared.failure.Failure.TheVariants as failure
use Rattle.tiffpage_lib.specs.declared.parts.Part.{Part}
use Rattle.tiffpage_lib.specs.Parts.{FetchFails, Fetches, Saw, SeesBy, AreInOrder, IsUnseen, IsWantedOf, Piece, behind, piece, pieces, seen_piece, total, window, windows_of}

-- ---- windows in order

ends_within : (len from : ℕ) (parts : List Piece) → AreInOrder len from parts → from ≤ len
ends_within len from [] h = h
ends_within len from (p ∷ parts) h = omega (arith, h.0, ends_within len (behind p) parts h.1)

some_behind : (len from : ℕ) (windows : List Window) → AreInOrder len from (map seen_piece windows)
    → (end : ℕ) × (fold (behind_window len) (Some from) windows ≡ Some end)
some_behind len from [] h = (from, refl)
some_behind len from (w ∷ windows) h =
    let rest = some_behind len (end_of w) windows h.1 in
    let a : nat_lt w.offset from ≡ false = le-ltb w.offset from h.0 in
    let b : nat_lt len (end_of w) ≡ false =
    le-ltb len (end_of w) (ends_within len (end_of w) (map seen_piece windows) h.1) in
    (rest.0, (λ i. fold (behind_window len) (cond (a i) None (cond (b i) None (Some (end_of w)))) windows) ∙ rest.1)

abbrev IsNone : Option ℕ → Type 0
IsNone None = Unit {0}
IsNone (Some n) = ⊥

pub never_none : (len : ℕ) (windows list : List Window) (parts : List Piece) → list ≡ windows
    → map seen_piece windows ≡ parts → AreInOrder len 0 parts
    → behind_windows len list ≡ None → ⊥
never_none len windows list parts l e h none =
    let P : List Piece → Type 0 = AreInOrder len 0 in
    let some = some_behind len 0 windows (subst P (sym e) h) in
    let N : Option ℕ → Type 0 = IsNone in
    subst N (sym none ∙ ap (behind_windows len) l ∙ some.1) tt

-- ---- windows of a file

each_of : (file : List ℕ) (windows : List Window)
    → All (IsWindowOf file) (map window (map seen_piece windows)) → All (IsWindowOf file) windows
each_of file [] h k d l = absurd (omega (arith, l))
each_of file (w ∷ windows) h zero d l =
    (let x = h 0 d (omega arith) in record { within = x.within; same = x.same })
each_of file (w ∷ windows) h (suc k) d l =
    each_of file windows (λ j e m. h (suc j) e (omega (arith, m))) k d (omega (arith, l))

of_windows : (file : List ℕ) (len : ℕ) (windows : List Window) (seen : Windows) → seen.len ≡ len
    → seen.windows.now ≡ windows
    → AreWindowsOf file (windows_of len (map seen_piece windows)) → AreWindowsOf file seen
of_windows file len windows seen n e of = record {
  len = of.len ∙ sym n;
  octets = of.octets;
  each = subst (All (IsWindowOf file)) (sym e) (each_of file windows of.each);
}

-- ---- which bytes are wanted

no_left : (a b : Bool) → (a || b) ≡ false → a ≡ false
no_left true b h = h
no_left false b h = refl

no_right : (a b : Bool) → (a || b) ≡ false → b ≡ false
no_right true b h = absurd (cc)
no_right false b h = h

no_both : (a b : Bool) → (a && b) ≡ false → a ≡ true → b ≡ false
no_both true b h e = h
no_both false b h e = absurd (cc)

abbrev has : ℕ → ℕ × ℕ → Bool
has at s = nat_le s.0 at && nat_lt at (s.0 + s.1)

abbrev stretch : Window → ℕ × ℕ
stretch w = (w.offset, length w.bytes.now)

unseen_in : (windows : List Window) (at : ℕ) → list_any (has at) (map stretch windows) ≡ false
    → IsUnseen (map seen_piece windows) at
unseen_in [] at h k d l b = absurd (omega (arith, l))
unseen_in (w ∷ windows) at h zero d l b =
    ltb-false at (end_of w)
    (no_both (nat_le w.offset at) (nat_lt at (end_of w)) (no_left (has at (stretch w)) (list_any (has at) (map stretch windows)) h) (le-leb w.offset at b))
unseen_in (w ∷ windows) at h (suc k) d l b =
    unseen_in windows at (no_right (has at (stretch w)) (list_any (has at) (map stretch windows)) h) k d (omega (arith, l)) b

unseen_of : (seen : Windows) (windows : List Window) (at : ℕ) → seen.windows.now ≡ windows
    → answers_for (seen_by seen []).readable at ≡ false → IsUnseen (map seen_piece windows) at
unfolding answers_for
unseen_of seen windows at e h =
    let list : List Window → Bool = λ ws. list_any (has at) (map stretch ws) in
    unseen_in windows at (ap list (sym e) ∙ no_right (has at (seen.len, 2 ^ 64)) (list seen.windows.now) h)

wanted_of : (len : ℕ) (windows : List Window) (seen : Windows) (s : Stretch) → seen.len ≡ len
    → seen.windows.now ≡ windows → IsWanted seen s → IsWantedOf len (map seen_piece windows) s
wanted_of len windows seen s n e w = record {
  within = omega (arith, w.some, w.within, n);
  unseen = unseen_of seen windows s.offset e w.unseen;
}

-- What is told of the windows is told of the parts.
pub told_of : {A : Type 0} (P : A → Type 0) (file : List ℕ) (len : ℕ) (parts : List Piece)
    (windows : List Window) (seen : Windows) (r : Result A Stretch)
    → seen.len ≡ len → seen.windows.now ≡ windows → map seen_piece windows ≡ parts
    → MatchResult r (λ a. AreWindowsOf file seen → P a) (IsWanted seen)
    → MatchResult r (λ a. AreWindowsOf file (windows_of len parts) → P a) (IsWantedOf len parts)
told_of P file len parts windows seen (Ok a) n e m h =
    let Q : List Piece → Type 0 = λ x. AreWindowsOf file (windows_of len x) in
    λ of. h (of_windows file len windows seen n e (subst Q (sym m) of))
told_of P file len parts windows seen (Err s) n e m h =
    let Q : List Piece → Type 0 = λ x. IsWantedOf len x s in
    subst Q m (wanted_of len windows seen s n e h)

-- ---- one more part

abbrev Before : List Piece → ℕ → ℕ → Type 0
Before parts i at = (k : ℕ) (d : Piece) → k < i → k < length parts → behind (get_or parts k d) ≤ at

abbrev Next : List Piece → ℕ → ℕ → Type 0
Next parts i end = (d : Piece) → i < length parts → end ≤ (get_or parts i d).0

before_of : (parts : List Part) (i at : ℕ)
    → ((k : ℕ) (d : Part) → k < i → (get_or parts k d).offset ≤ at) → IsUnseen (pieces parts) at
    → Before (pieces parts) i at
before_of [] i at f u k d l m = absurd (omega (arith, m))
before_of (q ∷ parts) i at f u zero d l m = u 0 d m (f 0 q l)
before_of (q ∷ parts) i at f u (suc k) d l m =
    before_of parts (i - 1) at (λ j e h. f (suc j) e (omega (arith, h)))
    (λ j e h b. u (suc j) e (omega (arith, h)) b) k d (omega (arith, l)) (omega (arith, m))

next_of : (parts : List Part) (i end : ℕ)
    → ((d : Part) → i < length parts → end ≤ (get_or parts i d).offset) → Next (pieces parts) i end
next_of [] i end f d l = absurd (omega (arith, l))
next_of (q ∷ parts) zero end f d l = f q (omega arith)
next_of (q ∷ parts) (suc i) end f d l =
    next_of parts i end (λ e m. f e (omega (arith, m))) d (omega (arith, l))

order_put : (len from : ℕ) (parts : List Piece) (i : ℕ) (p : Piece) → AreInOrder len from parts
    → from ≤ p.0 → behind p ≤ len → Before parts i p.0 → Next parts i (behind p)
    → AreInOrder len from (insert parts i p)
order_put len from [] zero p h a b before next = (a, b)
order_put len from [] (suc i) p h a b before next = (a, b)
order_put len from (q ∷ parts) zero p h a b before next = (a, (next q (omega arith), h.1))
order_put len from (q ∷ parts) (suc i) p h a b before next = (
  h.0,
  order_put len (behind q) parts i p h.1 (before 0 q (omega arith) (omega arith)) b
      (λ k d l m. before (suc k) d (omega (arith, l)) (omega (arith, m)))
      (λ d l. next d (omega (arith, l))),
)

pieces_put : (parts : List Part) (i : ℕ) (p : Part)
    → pieces (insert parts i p) ≡ insert (pieces parts) i (piece p)
pieces_put [] zero p = refl
pieces_put [] (suc i) p = refl
pieces_put (q ∷ parts) zero p = refl
pieces_put (q ∷ parts) (suc i) p = ap (λ xs. piece q ∷ xs) (pieces_put parts i p)

pub total_put : (parts : List Piece) (i : ℕ) (p : Piece)
    → total (insert parts i p) ≡ length p.1 + total parts
total_put [] zero p = refl
total_put [] (suc i) p = refl
total_put (q ∷ parts) zero p = refl
total_put (q ∷ parts) (suc i) p = omega (arith, total_put parts i p)

pub total_within : (len from : ℕ) (parts : List Piece) → AreInOrder len from parts
    → from + total parts ≤ len
total_within len from [] h = omega (arith, h)
total_within len from (p ∷ parts) h = omega (arith, h.0, total_within len (behind p) parts h.1)

pub pieces_after : {E : Type 0} (r : Result (Unit {0}) E) (b : Bool) (old mid new : List Part)
    (i : ℕ) (p : Part) → new ≡ mid → mid ≡ cond (is_ok r) (insert old i p) old
    → b ≡ is_err r → b ≡ false → pieces new ≡ insert (pieces old) i (piece p)
pieces_after (Ok u) b old mid new i p e h n f = ap pieces (e ∙ h) ∙ pieces_put old i p
pieces_after (Err x) b old mid new i p e h n f = absurd (cc)

pub count_within : (list parts : List Part) (i : ℕ) → list ≡ parts → i ≤ length list
    → i ≤ length (pieces parts)
count_within list parts i e h = omega (arith, h, ap (λ xs. length xs) e, length-map parts piece)

pub order_after : (len : ℕ) (old list : List Part) (new : List Piece) (i size : ℕ) (p : Part)
    (wanted : Stretch) → list ≡ old → new ≡ insert (pieces old) i (piece p)
    → AreInOrder len 0 (pieces old) → IsWantedOf len (pieces old) wanted
    → ((k : ℕ) (d : Part) → k < i → (get_or list k d).offset ≤ wanted.offset)
    → ((d : Part) → i < length old → wanted.offset + size ≤ (get_or old i d).offset)
    → wanted.offset + size ≤ len → p.offset ≡ wanted.offset
    → length p.bytes.items ≡ size → AreInOrder len 0 new
order_after len old list new i size p wanted same e h w front next fits at n =
    let P : List Piece → Type 0 = AreInOrder len 0 in
    let B : ℕ → Type 0 = λ a. Before (pieces old) i a in
    let N : ℕ → Type 0 = λ b. Next (pieces old) i b in
    let first : (k : ℕ) (d : Part) → k < i → (get_or old k d).offset ≤ wanted.offset =
    subst (λ xs. (k : ℕ) (d : Part) → k < i → (get_or xs k d).offset
    ≤ wanted.offset) same front in
    let end : wanted.offset + size ≡ behind (piece p) = omega (arith, at, n) in
    subst P (sym e) (order_put len 0 (pieces old) i (piece p) h (omega arith) (omega (arith, fits, at, n))
    (subst B (sym at) (before_of old i wanted.offset first w.unseen)) (subst N end (next_of old i (wanted.offset + size) next)))

-- ---- what was read

-- `reads` says what a read of a part may return
module _ {F : Type 0} (reads : F → List ℕ → ℕ → ℕ → Result (List ℕ) TiffError → F → Type 0)
    (name : Bor (List ℕ)) (len : ℕ) (file : List ℕ) where
  a_read : (old new : F) (p : Part) (at size : ℕ)
      → (p.offset ≡ at) × (length p.bytes.items ≡ size)
      × reads old name.now at size (Ok p.bytes.items) new
      → reads old name.now p.offset (length p.bytes.items) (Ok p.bytes.items) new
  a_read old new p at size h =
      let A : ℕ → Type 0 = λ a. reads old name.now a size (Ok p.bytes.items) new in
      let N : ℕ → Type 0 = λ n. reads old name.now p.offset n (Ok p.bytes.items) new in
      subst N (sym h.1) (subst A (sym h.0) h.2)

  -- A part was read, and put among others.
  pub fetches : (before after : List Piece) (old new : F) (p : Part) (i at size : ℕ)
      → after ≡ insert before i (piece p) → i ≤ length before → 0 < size
      → (p.offset ≡ at) × (length p.bytes.items ≡ size)
      × reads old name.now at size (Ok p.bytes.items) new
      → Fetches reads name.now before old after new
  fetches before after old new p i at size e l s h =
      record { part = piece p; some = omega (arith, s, h.1); gave = a_read old new p at size h; index = i; within = l; put = e }

  pub out_of_memory : (old new : F) (p : Part) (at size : ℕ)
      → (p.offset ≡ at) × (length p.bytes.items ≡ size)
      × reads old name.now at size (Ok p.bytes.items) new
      → FetchFails reads name old (failure.Tiff OutOfMemory) new
  out_of_memory old new p at size h = inr (piece p, a_read old new p at size h, refl)

  all_put : (parts : List Piece) (i : ℕ) (p : Piece) → All (IsWindowOf file) (map window parts)
      → IsWindowOf file (window p) → All (IsWindowOf file) (map window (insert parts i p))
  all_put [] zero p h x zero d l = x
  all_put [] zero p h x (suc k) d l = absurd (omega (arith, l))
  all_put [] (suc i) p h x zero d l = x
  all_put [] (suc i) p h x (suc k) d l = absurd (omega (arith, l))
  all_put (q ∷ parts) zero p h x zero d l = x
  all_put (q ∷ parts) zero p h x (suc k) d l = h k d (omega (arith, l))
  all_put (q ∷ parts) (suc i) p h x zero d l = h 0 d (omega arith)
  all_put (q ∷ parts) (suc i) p h x (suc k) d l =
      all_put parts i p (λ j e m. h (suc j) e (omega (arith, m))) x k d (omega (arith, l))

  rest_of : (p : Piece) (parts : List Piece) → AreWindowsOf file (windows_of len (p ∷ parts))
      → AreWindowsOf file (windows_of len parts)
  rest_of p parts of =
      record { len = of.len; octets = of.octets; each = λ k d l. of.each (suc k) d (omega (arith, l)) }

  first_of : (p : Piece) (parts : List Piece) → AreWindowsOf file (windows_of len (p ∷ parts))
      → IsWindowOf file (window p)
  first_of p parts of = of.each 0 (window p) (omega arith)

  -- Nothing was read.
  pub saw_none : (parts : List Piece) (files : F) → parts ≡ []
      → Saw reads name.now len file (AreWindowsOf file (windows_of len parts)) files files
  saw_none parts files e =
      (let P : List Piece → Type 0 = λ x. AreWindowsOf file (windows_of len x) in ([], refl, λ of. subst P (sym e) of))

  -- What follows from what is claimed.
  pub saw_so : {A B : Type 0} (old new : F) → Saw reads name.now len file A old new → (A → B)
      → Saw reads name.now len file B old new
  saw_so old new s f = (s.0, s.1, λ of. f (s.2 of))

  -- One more part was read.
  pub saw_more : (before after : List Piece) (old mid new : F)
      → Saw reads name.now len file (AreWindowsOf file (windows_of len before)) old mid
      → Fetches reads name.now before mid after new
      → Saw reads name.now len file (AreWindowsOf file (windows_of len after)) old new
  saw_more before after old mid new s f = (
    f.part ∷ s.0,
    (mid, s.1, f.gave),
    λ of.
        (let h = s.2 (rest_of f.part s.0 of) in
        record {
          len = of.len;
          octets = of.octets;
          each =
              subst (λ xs. All (IsWindowOf file) (map window xs)) (sym f.put)
              (all_put before f.index f.part h.each (first_of f.part s.0 of));
        }),
  )

  module _ {A : Type 0} (may : Result A TiffError → Type 0) (result : Result A Failure) where
    abbrev an_error : Failure → Result A Failure
    an_error e = Err e

    is_error : (e : Failure) (r : Result A Failure) → IsErrAnd r (λ d. d ≡ e) → r ≡ Err e
    is_error e (Ok x) h = absurd h
    is_error e (Err d) h = ap (λ (x : Failure). an_error x) h

    -- A part can't be read, or memory is out.
    pub sees_fault : {B : Type 0} (old mid new : F) (e : Failure)
        → Saw reads name.now len file B old mid → FetchFails reads name mid e new
        → IsErrAnd result (λ d. d ≡ e)
        → may (Err OutOfMemory) → SeesBy reads name len file may old result new
    sees_fault old mid new e s f is memory = elim f [
      | inl x ↦ inr (record { parts = s.0; mid = mid; gave = s.1; at = x.0; len = x.1; fault = x.2; fails = x.3; is = is_error e result is ∙ ap an_error x.4 })
      | inr x ↦ inl (Err OutOfMemory, (x.0 ∷ s.0, (mid, s.1, x.1), λ of. memory), is_error e result is ∙ ap an_error x.2)
    ]

    -- The answer is an error.
    pub sees_error : (old new : F) (e : TiffError)
        → Saw reads name.now len file (may (Err e)) old new
        → IsErrAnd result (λ d. d ≡ failure.Tiff e)
        → SeesBy reads name len file may old result new
    sees_error old new e s is = inl (Err e, s, is_error (failure.Tiff e) result is)
