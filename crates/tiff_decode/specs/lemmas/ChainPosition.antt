-- The position of a decoder in the chain of its file.
use Rattle.std.proofs.Common.{◌≡◌, ℕ, zero, suc, ◌+◌, ◌-◌, ◌<◌, ◌≤◌, List, [], ◌∷◌, ◌++◌, length, Option, None, Some, Bool, true, false, cond, Result, Ok, Err, refl, ap, sym, ◌∙◌, subst, arith, nat_eq}
use Rattle.std.proofs.lemmas.Bool.Decides.{nat_tests}
use Rattle.std.proofs.lemmas.Map.Keys.{IsDistinct-head, IsDistinct-tail}
use Rattle.std.proofs.lemmas.Option.{slice_get_within, slice_get_past}
use Rattle.std.specs.Prelude.{◌==◌, option_map}
use Rattle.std.specs.List.{slice_get, last_or, IsDistinct, AllByRecursion}
use Rattle.tiff_base.specs.declared.error.TiffError.{TiffError}
use Rattle.tiff_base.specs.declared.tags.ByteOrder.{ByteOrder}
use Rattle.tiff_base.specs.declared.tags.FileKind.{FileKind}
use Rattle.tiff_base.specs.declared.tags.IfdPointer.{IfdPointer}
use Rattle.tiff_base.specs.lemmas.Causes.{cause_along, memory_not_device, named_cause, other_not_device, other_not_memory}
use Rattle.tiff_base.specs.Answers.{IsCause, NoneSwallowed}
use Rattle.tiff_base.specs.Directory.{directory_at}
use Rattle.tiff_base.specs.Field.{DirectoryRecord}
use Rattle.tiff_base.specs.SourceAndSink.{SourceRecord}
use Rattle.tiff_ifd.specs.Chain.{Chain, chain}
use Rattle.tiff_ifd.specs.IfdChainWalk.{Walked, ChainBegins, ChainEnds}
use Rattle.tiff_ifd.specs.lemmas.Chain.{apart_chain}
use Rattle.tiff_ifd.specs.lemmas.Begun.{offset_begun}
use Rattle.tiff_decode.specs.ChainPosition.{IsAt, IsInChain, index_behind}
use Rattle.tiff_decode.specs.Machine.{State, Decoding, Outcome, GivesOutcome, FollowsBut, Follows, keeps_state, source_of}
use Rattle.tiff_decode.specs.Outcome.{chain_of, offset_after, next_offset, next_outcome, next_image, enter, entry_outcome, seek_to_image, seek_outcome, end_outcome, end_fault, not_found, show_outcome, show_directory}

-- ---- the position of the pointer

pub within : (offsets : List ℕ) (pointer : Option IfdPointer) (at : ℕ) → IsAt offsets pointer at
    → index_behind pointer at ≤ length offsets
within offsets (Some p) at h = (let l = slice_get_within offsets at p.0 h in omega (arith, l))
within offsets None at h = omega arith

last_more : (x : ℕ) (xs : List ℕ) → last_or (Some x) xs ≡ slice_get (x ∷ xs) (length xs)
last_more x [] = refl
last_more x (y ∷ ys) = last_more y ys

pub last_of : (offsets : List ℕ) → last_or None offsets ≡ slice_get offsets (length offsets - 1)
last_of [] = refl
last_of (x ∷ xs) =
    (let e : length (x ∷ xs) - 1 ≡ length xs = omega arith in last_more x xs ∙ ap (slice_get (x ∷ xs)) (sym e))

abbrev pointed : Option ℕ → Option IfdPointer
pointed = option_map (λ p. record { 0 = p })

pub last_pointed : (offsets : List ℕ) (last : Option ℕ)
    → last ≡ slice_get offsets (length offsets - 1)
    → pointed last ≡ pointed (last_or None offsets)
last_pointed offsets last h = ap pointed (h ∙ sym (last_of offsets))

stands_by : (offsets : List ℕ) (n : ℕ) (r : Option ℕ) → slice_get offsets n ≡ r
    → IsAt offsets (pointed r) n
stands_by offsets n (Some p) h = h
stands_by offsets n None h = tt

pub stands_last : (offsets : List ℕ) (last : Option ℕ) (pointer : Option IfdPointer) (n : ℕ)
    → last ≡ slice_get offsets (length offsets - 1)
    → pointer ≡ option_map (λ p. record { 0 = p }) last → n ≡ length offsets - 1
    → IsAt offsets pointer n
stands_last offsets last pointer n h e k =
    let P : Option IfdPointer → Type 0 = λ x. IsAt offsets x n in
    subst P (sym e) (stands_by offsets n last (ap (slice_get offsets) k ∙ sym h))

front : (xs ys : List ℕ) (k p : ℕ) → slice_get xs k ≡ Some p → slice_get (xs ++ ys) k ≡ Some p
front [] ys k p h = absurd (cc)
front (x ∷ xs) ys zero p h = h
front (x ∷ xs) ys (suc k) p h = front xs ys k p h

-- more offsets were entered
pub stands_longer : (offsets longer more_offsets : List ℕ) (pointer : Option IfdPointer) (at : ℕ)
    → longer ≡ offsets ++ more_offsets
    → IsAt offsets pointer at → IsAt longer pointer at
stands_longer offsets longer more_offsets (Some p) at e h =
    ap (λ (ps : List ℕ). slice_get ps at) e ∙ front offsets more_offsets at p.0 h
stands_longer offsets longer more_offsets None at e h = tt

-- ---- the offset after the pointer

equal : (q p : ℕ) → q ≡ p → (q == p) ≡ true
equal q p h = grind (arith, nat_tests)

differ : (q p : ℕ) → nat_eq q p ≡ false → (q == p) ≡ false
differ q p h = grind (arith, nat_tests)

each_at : (P : ℕ → Type 0) (ps : List ℕ) (i p : ℕ) → AllByRecursion P ps → slice_get ps i ≡ Some p
    → P p
each_at P [] i p a h = absurd (cc)
each_at P (q ∷ ps) zero p a h = (let e : q ≡ p = cc in subst P e a.0)
each_at P (q ∷ ps) (suc i) p a h = each_at P ps i p a.1 h

after_is : (ps : List ℕ) (i p : ℕ) → IsDistinct nat_eq ps → slice_get ps i ≡ Some p
    → offset_after p ps ≡ slice_get ps (suc i)
after_is [] i p d h = absurd (cc)
after_is (q ∷ ps) zero p d h =
    let e : q ≡ p = cc in
    ap (λ (b : Bool). cond b (slice_get ps 0) (offset_after p ps)) (equal q p e)
after_is (q ∷ ps) (suc i) p d h =
    ap (λ (b : Bool). cond b (slice_get ps 0) (offset_after p ps))
    (differ q p (each_at (λ y. nat_eq q y ≡ false) ps i p (IsDistinct-head nat_eq q ps d) h))
    ∙ after_is ps i p (IsDistinct-tail nat_eq q ps d) h

pub next_is : (kind : FileKind) (order : ByteOrder) (bytes : List ℕ) (first : ℕ) (walk : Walked)
    (pointer : Option IfdPointer) (at : ℕ)
    → IsInChain kind order bytes first walk pointer at
    → next_offset pointer (chain kind order bytes first).offsets
    ≡ slice_get (chain kind order bytes first).offsets (index_behind pointer at)
next_is kind order bytes first walk (Some p) at a =
    let l : at < length walk.offsets = slice_get_within walk.offsets at p.0 a.stands in
    let e : at + 1 ≡ suc at = omega arith in
    after_is (chain kind order bytes first).offsets at p.0 (apart_chain kind order bytes first).differ
    (offset_begun kind order bytes first walk at l a.begins ∙ a.stands)
    ∙ ap (slice_get (chain kind order bytes first).offsets) (sym e)
next_is kind order bytes first walk None at a = refl

-- ---- the results of the calls

pub next_by : (d : Decoding) (r : Option ℕ) → d.state.more ≡ true
    → next_offset d.state.pointer (chain_of d).offsets ≡ r → next_image d ≡ next_outcome d r
unfolding next_image
next_by d r m h =
    ap (λ (b : Bool). cond b (next_outcome d (next_offset d.state.pointer (chain_of d).offsets)) (record { answer = Err not_found; next = d.state })) m
    ∙ ap (next_outcome d) h

pub sought_by : (d : Decoding) (k : ℕ) (r : Option ℕ) → slice_get (chain_of d).offsets k ≡ r
    → seek_to_image d k ≡ seek_outcome d r
unfolding seek_to_image
sought_by d k r h = ap (seek_outcome d) h

closed_is : (d : Decoding) (offsets : List ℕ) (end : Option TiffError)
    → chain_of d ≡ record { offsets = offsets; end = end }
    → end_outcome d ≡ record { answer = Err (end_fault end); next = record d.state { more = false } }
closed_is d offsets end h =
    ap (λ (c : Chain). record { answer = Err (end_fault c.end); next = record d.state { more = false } }) h

-- ---- the results of the calls of an unchanged decoder

abbrev Call : Type 0
Call = Outcome (Unit {0})

same_outcome : (r : Result (Unit {0}) TiffError) (o o' : Call) (old new : Decoding) → o ≡ o'
    → Follows (λ x. x) o r old new → Follows (λ x. x) o' r old new
same_outcome r o o' old new e h =
    (let P : Call → Type 0 = λ x. Follows (λ y. y) x r old new in subst P e h)

-- an offset that is known
pub enters : (r : Result (Unit {0}) TiffError) (o : Call) (offset : ℕ) (old mid new : Decoding)
    → mid ≡ old
    → o ≡ enter old offset → Follows (λ x. x) (enter mid offset) r mid new
    → Follows (λ x. x) o r old new
enters r o offset old mid new e h f =
    let P : Decoding → Type 0 = λ d. Follows (λ y. y) (enter d offset) r d new in
    same_outcome r (enter old offset) o old new (sym h) (subst P e f)

-- a directory that was read
pub enters_read : (r : Result (Unit {0}) TiffError) (o : Call) (offset : ℕ) (d : DirectoryRecord)
    (old mid new : Decoding) → mid ≡ old
    → o ≡ enter old offset → directory_at old.kind old.order old.bytes offset ≡ Ok d
    → Follows (λ x. x) (entry_outcome mid offset (Ok d)) r mid new → Follows (λ x. x) o r old new
unfolding enter
enters_read r o offset d old mid new e h k f =
    let P : Decoding → Type 0 = λ x. Follows (λ y. y) (entry_outcome x offset (Ok d)) r x new in
    same_outcome r (entry_outcome old offset (Ok d)) o old new (sym (h
    ∙ ap (entry_outcome old offset) k)) (subst P e f)

-- ---- errors

gives_by : (e : TiffError) (o : Call) (s : State) (old new : Decoding)
    → o ≡ record { answer = Err e; next = s } → new ≡ record old { state = s }
    → GivesOutcome (Err e) o old new
gives_by e o s old new h a = record {
  answer = ap (λ (x : Call). x.answer) h;
  at = a ∙ ap (λ (x : Call). record old { state = x.next }) (sym h);
}

-- before an error that is not of the device, no read failed
pub unfailed : (e : TiffError) (before after : ℕ) → keeps_state e ≡ false
    → NoneSwallowed {X = Unit {0}} (Err e) before after → after ≡ before
unfailed e before after k h = h (other_not_device e k)

-- an error that does not leave the decoder unchanged
pub answered : (W F G : Type 0) (e : TiffError) (o : Call) (s : State) (old new : Decoding)
    → keeps_state e ≡ false → IsCause W F e G
    → (G → o ≡ record { answer = Err e; next = s }) → new ≡ record old { state = s }
    → Follows (λ x. x) o (Err e) old new
answered W F G e o s old new k c g a = record {
  memory = λ is. (let no = other_not_memory e k in absurd (cc));
  device = λ is. (let no = other_not_device e k in absurd (cc));
  other = λ is. gives_by e o s old new (g (c.other is)) a;
}

-- there is no such directory
pub none_found : (e : TiffError) (o : Call) (s : State) (old new : Decoding) → e ≡ not_found
    → o ≡ record { answer = Err not_found; next = s } → new ≡ record old { state = s }
    → Follows (λ x. x) o (Err e) old new
none_found e o s old new f h a =
    let P : TiffError → Type 0 = λ x. Follows (λ y. y) o (Err x) old new in
    subst P (sym f) (named_cause _ refl (gives_by not_found o s old new h a))

-- ---- the view of a decoder

-- the bytes of the file are the same, and no read failed
pub told_same : (d : Decoding) (contents : SourceRecord) (failures : ℕ) → contents ≡ source_of d
    → failures ≡ d.failures
    → record d { bytes = contents.bytes; readable = contents.readable; failures = failures } ≡ d
told_same d contents failures e f =
    λ i. record d { bytes = (e i).bytes; readable = (e i).readable; failures = f i }

pub stands_told : (s : State) (d : Decoding) (contents : SourceRecord) (failures : ℕ)
    → contents ≡ source_of d → failures ≡ d.failures
    → record d { bytes = contents.bytes; readable = contents.readable; failures = failures; state = s } ≡ record d { state = s }
stands_told s d contents failures e f =
    λ i. record d { bytes = (e i).bytes; readable = (e i).readable; failures = f i; state = s }

pub shown : (o : Decoding → Call) (r : Result (Unit {0}) TiffError) (seen old new : Decoding)
    → seen ≡ old → Follows (λ x. x) (o seen) r seen new
    → Follows (λ x. x) (o old) r old new
shown o r seen old new e h =
    (let P : Decoding → Type 0 = λ d. Follows (λ x. x) (o d) r d new in subst P e h)

-- a directory that is shown
pub shows_read : (r : Result (Unit {0}) TiffError) (at : IfdPointer) (d : DirectoryRecord)
    (old mid new : Decoding) → mid ≡ old
    → directory_at old.kind old.order old.bytes at.0 ≡ Ok d
    → Follows (λ x. x) (show_outcome mid (Ok d)) r mid new
    → Follows (λ x. x) (show_directory old at) r old new
unfolding show_directory
shows_read r at d old mid new e k f =
    let P : Decoding → Type 0 = λ x. Follows (λ y. y) (show_outcome x (Ok d)) r x new in
    same_outcome r (show_outcome old (Ok d)) (show_directory old at) old new
    (sym (ap (show_outcome old) k)) (subst P e f)

-- a call of a decoder with a next page may run out of memory
open_wanting : (o : Call) (r : Result (Unit {0}) TiffError) (d new : Decoding) → d.state.more ≡ true
    → Follows (λ x. x) o r d new → FollowsBut (d.state.more ≡ true) (λ x. x) o r d new
open_wanting o (Ok u) d new m h = h
open_wanting o (Err e) d new m h = cause_along e (λ w. (m, w.1)) (λ f. f) (λ g. g) h

pub shown_open : (r : Result (Unit {0}) TiffError) (seen old new : Decoding) → seen ≡ old
    → seen.state.more ≡ true → Follows (λ x. x) (next_image seen) r seen new
    → FollowsBut (old.state.more ≡ true) (λ x. x) (next_image old) r old new
shown_open r seen old new e m h =
    let P : Decoding → Type 0 =
    λ d. FollowsBut (d.state.more ≡ true) (λ x. x) (next_image d) r d new in
    subst P e (open_wanting (next_image seen) r seen new m h)

pub along_on : (kind kind' : FileKind) (order order' : ByteOrder) (bytes bytes' : List ℕ)
    (first : ℕ) (walk : Walked) (pointer : Option IfdPointer) (at : ℕ)
    → kind' ≡ kind → order' ≡ order → bytes' ≡ bytes → ChainBegins kind order bytes first walk
    → IsAt walk.offsets pointer at → IsInChain kind' order' bytes' first walk pointer at
along_on kind kind' order order' bytes bytes' first walk pointer at k o b w s =
    let K : FileKind → Type 0 = λ x. IsInChain x order' bytes' first walk pointer at in
    let O : ByteOrder → Type 0 = λ x. IsInChain kind x bytes' first walk pointer at in
    let B : List ℕ → Type 0 = λ x. IsInChain kind order x first walk pointer at in
    subst K (sym k) (subst O (sym o) (subst B (sym b) (record { begins = w; stands = s })))

-- ---- next_image

abbrev Along : Decoding → Walked → ℕ → Type 0
Along d walk at = IsInChain d.kind d.order d.bytes d.first walk d.state.pointer at

-- the offset after the pointer, once it is entered
pub offset_behind : (d : Decoding) (walk longer : Walked) (at k offset : ℕ) → Along d walk at
    → d.state.more ≡ true → k ≡ index_behind d.state.pointer at
    → ChainBegins d.kind d.order d.bytes d.first longer
    → slice_get longer.offsets k ≡ Some offset
    → next_offset d.state.pointer (chain_of d).offsets ≡ Some offset
offset_behind d walk longer at k offset a m e b h =
    next_is d.kind d.order d.bytes d.first walk d.state.pointer at a
    ∙ ap (slice_get (chain_of d).offsets) (sym e)
    ∙ offset_begun d.kind d.order d.bytes d.first longer k (slice_get_within longer.offsets k offset h) b ∙ h

behind : (d : Decoding) (walk longer : Walked) (at k offset : ℕ) → Along d walk at
    → d.state.more ≡ true → k ≡ index_behind d.state.pointer at
    → ChainBegins d.kind d.order d.bytes d.first longer
    → slice_get longer.offsets k ≡ Some offset → next_image d ≡ enter d offset
behind d walk longer at k offset a m e b h =
    next_by d (Some offset) m (offset_behind d walk longer at k offset a m e b h)

pub next_known : (r : Result (Unit {0}) TiffError) (d new : Decoding) (walk : Walked)
    (at k offset : ℕ) → Along d walk at → d.state.more ≡ true → k ≡ index_behind d.state.pointer at
    → slice_get walk.offsets k ≡ Some offset → Follows (λ x. x) (enter d offset) r d new
    → Follows (λ x. x) (next_image d) r d new
next_known r d new walk at k offset a m e h f =
    same_outcome r (enter d offset) (next_image d) d new (sym (behind d walk walk at k offset a m e a.begins h)) f

at_end : (xs : List ℕ) (p : ℕ) → slice_get (xs ++ p ∷ []) (length xs) ≡ Some p
at_end [] p = refl
at_end (x ∷ xs) p = at_end xs p

pub added_at : (offsets longer : List ℕ) (k p : ℕ) → longer ≡ offsets ++ p ∷ [] → k ≤ length offsets
    → length offsets ≤ k → slice_get longer k ≡ Some p
added_at offsets longer k p e l m =
    let n : k ≡ length offsets = omega arith in
    ap (λ (ps : List ℕ). slice_get ps k) e ∙ ap (slice_get (offsets ++ p ∷ [])) n ∙ at_end offsets p

pub next_read : (r : Result (Unit {0}) TiffError) (d mid new : Decoding) (walk longer : Walked)
    (at k offset : ℕ) (directory : DirectoryRecord)
    → Along d walk at → d.state.more ≡ true → k ≡ index_behind d.state.pointer at
    → ChainBegins d.kind d.order d.bytes d.first longer
    → slice_get longer.offsets k ≡ Some offset
    → directory_at d.kind d.order d.bytes offset ≡ Ok directory
    → mid ≡ d
    → Follows (λ x. x) (entry_outcome mid offset (Ok directory)) r mid new
    → Follows (λ x. x) (next_image d) r d new
next_read r d mid new walk longer at k offset directory a m e b h t s f =
    enters_read r (next_image d) offset directory d mid new s (behind d walk longer at k offset a m e b h) t f

-- an offset that the chain does not have
pub past_end : (offsets : List ℕ) (k : ℕ) → slice_get offsets k ≡ None → length offsets ≤ k
past_end [] k h = omega arith
past_end (x ∷ xs) zero h = absurd (cc)
past_end (x ∷ xs) (suc k) h = (let l : length xs ≤ k = past_end xs k h in omega (arith, l))

pub next_closed : (d : Decoding) (walk : Walked) (at k : ℕ) (end : Option TiffError)
    → Along d walk at → d.state.more ≡ true → k ≡ index_behind d.state.pointer at
    → length walk.offsets ≤ k
    → ChainEnds d.kind d.order d.bytes d.first walk end
    → next_image d ≡ record { answer = Err (end_fault end); next = record d.state { more = false } }
next_closed d walk at k end a m e l h =
    next_by d None m
    (next_is d.kind d.order d.bytes d.first walk d.state.pointer at a
    ∙ ap (slice_get (chain_of d).offsets) (sym e)
    ∙ ap (λ (c : Chain). slice_get c.offsets k) h
    ∙ slice_get_past walk.offsets k l)
    ∙ closed_is d walk.offsets end h

-- ---- seek_to_image

-- the outcome of a seek past the end, from a place that a directory follows, and from one that none
-- follows
abbrev past_open : Decoding → Chain → Call
past_open d c =
    record { answer = Err (end_fault c.end); next = record d.state { pointer = pointed (last_or None c.offsets); more = false } }

abbrev past_closed : Decoding → Call
past_closed d = record { answer = Err not_found; next = record d.state { pointer = None } }

pub seek_known : (r : Result (Unit {0}) TiffError) (d mid new : Decoding) (k offset : ℕ)
    → slice_get (chain_of d).offsets k ≡ Some offset
    → mid ≡ d → Follows (λ x. x) (enter mid offset) r mid new
    → Follows (λ x. x) (seek_to_image d k) r d new
seek_known r d mid new k offset h e f =
    enters r (seek_to_image d k) offset d mid new e (sought_by d k (Some offset) h) f

-- an index that the chain does not have
pub none_of : (r : Option ℕ) → ((p : ℕ) → r ≡ Some p → ⊥) → r ≡ None
none_of None h = refl
none_of (Some p) h = absurd (h p refl)

-- an error that leaves the decoder as it is
pub stays_refused : (G : Type 0) (e : TiffError) (o : Call) (d : Decoding) (contents : SourceRecord)
    (after : ℕ) → keeps_state e ≡ true → contents ≡ source_of d
    → IsCause (Unit {0}) (d.failures < after) e G → d.failures ≤ after
    → NoneSwallowed {X = Unit {0}} (Err e) d.failures after
    → Follows (λ x. x) o (Err e) d (record d { bytes = contents.bytes; readable = contents.readable; failures = after })
stays_refused G e o d contents after k t c l s = record {
  memory = λ is. (tt, told_same d contents after t (s (memory_not_device e is)));
  device =
      λ is. record {
        grew = c.device is;
        at = record { stands = λ i. record d { bytes = (t i).bytes; readable = (t i).readable; failures = after }; failures = l };
      };
  other = λ is. absurd (cc);
}

-- the cause of an error that does not leave the decoder as it is
cause_is : (W F G : Type 0) (e : TiffError) → keeps_state e ≡ false → IsCause W F e G → G
cause_is W F G e k c = c.other k

-- a seek past the end, from a place that a directory follows
seek_open : (d : Decoding) (k : ℕ) (offsets : List ℕ) (end : Option TiffError)
    (pointer : Option IfdPointer) (more : Bool) → d.state.more ≡ true
    → slice_get (chain_of d).offsets k ≡ None → chain_of d ≡ record { offsets = offsets; end = end }
    → pointer ≡ cond d.state.more (pointed (last_or None offsets)) None → more ≡ false
    → seek_to_image d k ≡ record { answer = Err (end_fault end); next = record d.state { pointer = pointer; more = more } }
seek_open d k offsets end pointer more o h c p m =
    let at = p ∙ ap (λ (b : Bool). cond b (pointed (last_or None offsets)) None) o in
    sought_by d k None h
    ∙ ap (λ (b : Bool). cond b (past_open d (chain_of d)) (past_closed d)) o
    ∙ ap (past_open d) c
    ∙ (λ i. record { answer = Err (end_fault end); next = record d.state { pointer = sym at i; more = sym m i } })

-- a seek past the end, from a place that none follows
seek_closed : (d : Decoding) (k : ℕ) (offsets : List ℕ) (pointer : Option IfdPointer) (more : Bool)
    → d.state.more ≡ false
    → slice_get (chain_of d).offsets k ≡ None
    → pointer ≡ cond d.state.more (pointed (last_or None offsets)) None → more ≡ false
    → seek_to_image d k ≡ record { answer = Err not_found; next = record d.state { pointer = pointer; more = more } }
seek_closed d k offsets pointer more o h p m =
    let at = p ∙ ap (λ (b : Bool). cond b (pointed (last_or None offsets)) None) o in
    let open_as = o ∙ sym m in
    sought_by d k None h
    ∙ ap (λ (b : Bool). cond b (past_open d (chain_of d)) (past_closed d)) o
    ∙ (λ i. record { answer = Err not_found; next = record d.state { pointer = sym at i; more = open_as i } })

-- a seek past a chain that ends without an error
seek_past_by : (d : Decoding) (k : ℕ) (offsets : List ℕ) (pointer : Option IfdPointer)
    (more b : Bool) → d.state.more ≡ b
    → slice_get (chain_of d).offsets k ≡ None
    → chain_of d ≡ record { offsets = offsets; end = None }
    → pointer ≡ cond d.state.more (pointed (last_or None offsets)) None → more ≡ false
    → seek_to_image d k ≡ record { answer = Err not_found; next = record d.state { pointer = pointer; more = more } }
seek_past_by d k offsets pointer more true o h c p m =
    seek_open d k offsets None pointer more o h c p m
seek_past_by d k offsets pointer more false o h c p m = seek_closed d k offsets pointer more o h p m

pub seek_past : (d : Decoding) (k : ℕ) (offsets : List ℕ) (pointer : Option IfdPointer) (more : Bool)
    → slice_get (chain_of d).offsets k ≡ None
    → chain_of d ≡ record { offsets = offsets; end = None }
    → pointer ≡ cond d.state.more (pointed (last_or None offsets)) None → more ≡ false
    → seek_to_image d k ≡ record { answer = Err not_found; next = record d.state { pointer = pointer; more = more } }
seek_past d k offsets pointer more h c p m =
    seek_past_by d k offsets pointer more d.state.more refl h c p m

-- a seek past a chain that ends with an error
seek_cut_by : (W F G : Type 0) (e fault : TiffError) (d new : Decoding) (k : ℕ) (offsets : List ℕ)
    (pointer : Option IfdPointer) (more b : Bool) → d.state.more ≡ b
    → keeps_state e ≡ false → IsCause W F e G
    → (G → (slice_get (chain_of d).offsets k ≡ None)
    × (chain_of d ≡ record { offsets = offsets; end = Some e }))
    → pointer ≡ cond d.state.more (pointed (last_or None offsets)) None → more ≡ false
    → fault ≡ cond d.state.more e not_found
    → new ≡ record d { state = record d.state { pointer = pointer; more = more } }
    → Follows (λ x. x) (seek_to_image d k) (Err fault) d new
seek_cut_by W F G e fault d new k offsets pointer more true o m c ends p q f a =
    let same : fault ≡ e = f ∙ ap (λ (b : Bool). cond b e not_found) o in
    let P : TiffError → Type 0 = λ x. Follows (λ y. y) (seek_to_image d k) (Err x) d new in
    subst P (sym same)
    (answered W F G e (seek_to_image d k) (record d.state { pointer = pointer; more = more }) d new m c
    (λ h. seek_open d k offsets (Some e) pointer more o (ends h).0 (ends h).1 p q) a)
seek_cut_by W F G e fault d new k offsets pointer more false o m c ends p q f a =
    let same : fault ≡ not_found = f ∙ ap (λ (b : Bool). cond b e not_found) o in
    none_found fault (seek_to_image d k) (record d.state { pointer = pointer; more = more }) d new same
    (seek_closed d k offsets pointer more o (ends (cause_is W F G e m c)).0 p q) a

pub seek_cut : (W F G : Type 0) (e fault : TiffError) (d new : Decoding) (k : ℕ) (offsets : List ℕ)
    (pointer : Option IfdPointer) (more : Bool)
    → keeps_state e ≡ false → IsCause W F e G
    → (G → (slice_get (chain_of d).offsets k ≡ None)
    × (chain_of d ≡ record { offsets = offsets; end = Some e }))
    → pointer ≡ cond d.state.more (pointed (last_or None offsets)) None → more ≡ false
    → fault ≡ cond d.state.more e not_found
    → new ≡ record d { state = record d.state { pointer = pointer; more = more } }
    → Follows (λ x. x) (seek_to_image d k) (Err fault) d new
seek_cut W F G e fault d new k offsets pointer more m c ends p q f a =
    seek_cut_by W F G e fault d new k offsets pointer more d.state.more refl m c ends p q f a
