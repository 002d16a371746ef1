-- The count and the link of a directory on the way are enough to pass it.
use Rattle.std.proofs.Common.{◌≡◌, ℕ, ◌+◌, ◌^◌, ◌<◌, ◌≤◌, List, [], ◌∷◌, ◌++◌, length, reverse, Option, None, Some, Bool, true, false, Result, Ok, Err, refl, ap, sym, ◌∙◌, subst, arith}
use Rattle.std.specs.List.{slice_get}
use Rattle.std.proofs.lemmas.Option.{slice_get_past}
use Rattle.tiff_base.specs.lemmas.Causes.{cause_along, from_cause}
use Rattle.tiff_base.specs.Answers.{IsCause, IsNotDevice, ◌>>=◌}
use Rattle.tiff_base.specs.declared.error.TiffError.{TiffError}
use Rattle.tiff_base.specs.declared.error.TiffError.TheVariants.{IoError}
use Rattle.tiff_base.specs.declared.io.IoKind.TheVariants.{UnexpectedEof}
use Rattle.tiff_base.specs.declared.tags.ByteOrder.{ByteOrder}
use Rattle.tiff_base.specs.declared.tags.FileKind.{FileKind}
use Rattle.tiff_base.specs.Directory.{directory_at, link_offset, count_width, offset_width}
use Rattle.tiff_base.specs.Field.{DirectoryRecord}
use Rattle.tiff_base.specs.Number.{number_at}
use Rattle.tiff_base.specs.SourceAndSink.{SourceRecord}
use Rattle.tiff_ifd.specs.lemmas.Begun.{begins_entered, cut_unread, cut_unentered, entered_by, grown, one_longer, refused_unentered, refused_unread}
use Rattle.tiff_ifd.specs.lemmas.Chain.{IsFalseBit}
use Rattle.tiff_ifd.specs.lemmas.Entries.{number_past, some_bytes}
use Rattle.tiff_ifd.specs.Chain.{Chain, IsLinkOfDirectory, chain, link_of, unless_met}
use Rattle.tiff_ifd.specs.IfdChainWalk.{ChainBegins, ChainEnds, NextIsRefused, NextLinkReadable, StepsOver, Walked, WalkSteps, WayReadable}

-- ---- the law

along : (r : Result ℕ TiffError) (f : ℕ → Result DirectoryRecord TiffError)
    (g : ℕ → Result (Option ℕ) TiffError) → ((n : ℕ) → g n ≡ (f n >>= λ d. Ok d.next))
    → (r >>= g) ≡ (r >>= f >>= λ d. Ok d.next)
along (Ok n) f g h = h n
along (Err e) f g h = refl

pub link_of_directory : IsLinkOfDirectory
unfolding directory_at
link_of_directory kind order bytes at =
    along (number_at order (count_width kind) bytes at) _ _ (λ count.
    along (number_at order (offset_width kind) bytes (link_offset kind at count)) _ _ (λ next. refl))

-- a link at an offset of 2^64 or more is past the end of the source
pub link_past : (kind : FileKind) (order : ByteOrder) (bytes : List ℕ) (at count : ℕ)
    → length bytes < 2 ^ 64 → 2 ^ 64 ≤ link_offset kind at count
    → number_at order (offset_width kind) bytes (link_offset kind at count)
    ≡ Err (IoError UnexpectedEof)
link_past kind order bytes at count short past =
    number_past order (offset_width kind) bytes (link_offset kind at count) (some_bytes kind)
    (omega (arith, short, past))

-- ---- the directory behind a link

abbrev IsReadAs : FileKind → ByteOrder → List ℕ → ℕ → Option ℕ → Type 0
IsReadAs kind order bytes at next =
    (d : DirectoryRecord) × (directory_at kind order bytes at ≡ Ok d) × (next ≡ d.next)

next_or : Option ℕ → Result (Option ℕ) TiffError → Option ℕ
next_or x (Ok next) = next
next_or x (Err e) = x

abbrev IsOkNext : Result (Option ℕ) TiffError → Type 0
IsOkNext (Ok next) = Unit {0}
IsOkNext (Err e) = ⊥

error_or : TiffError → Result (Option ℕ) TiffError → TiffError
error_or x (Ok next) = x
error_or x (Err e) = e

read_by : (kind : FileKind) (order : ByteOrder) (bytes : List ℕ) (at : ℕ) (next : Option ℕ)
    (r : Result DirectoryRecord TiffError)
    → directory_at kind order bytes at ≡ r → (r >>= λ d. Ok d.next) ≡ Ok next
    → IsReadAs kind order bytes at next
unfolding next_or
read_by kind order bytes at next (Ok d) e h = (d, e, ap (next_or next) (sym h))
read_by kind order bytes at next (Err x) e h = absurd (subst IsOkNext (sym h) tt)

unread_by : (kind : FileKind) (order : ByteOrder) (bytes : List ℕ) (at : ℕ) (fault : TiffError)
    (r : Result DirectoryRecord TiffError)
    → directory_at kind order bytes at ≡ r → (r >>= λ d. Ok d.next) ≡ Err fault
    → directory_at kind order bytes at ≡ Err fault
unfolding error_or
unread_by kind order bytes at fault (Ok d) e h = absurd (subst IsOkNext h tt)
unread_by kind order bytes at fault (Err x) e h =
    e ∙ ap {A = TiffError} {B = Result DirectoryRecord TiffError} Err (ap (error_or fault) h)

module _ (kind : FileKind) (order : ByteOrder) (bytes : List ℕ) where
  is_read : (at : ℕ) (next : Option ℕ) → link_of kind order bytes at ≡ Ok next
      → IsReadAs kind order bytes at next
  is_read at next h =
      read_by kind order bytes at next (directory_at kind order bytes at) refl
      (sym (link_of_directory kind order bytes at) ∙ h)

  isnt_read : (at : ℕ) (fault : TiffError) → link_of kind order bytes at ≡ Err fault
      → directory_at kind order bytes at ≡ Err fault
  isnt_read at fault h =
      unread_by kind order bytes at fault (directory_at kind order bytes at) refl
      (sym (link_of_directory kind order bytes at) ∙ h)

  -- ---- a step that passes a directory

  pub refused_unlinked : (failed : Type 0) (before after : Walked) (offset : ℕ) (e : TiffError)
      → before.next ≡ Some offset → after ≡ before
      → IsCause ⊥ failed e (link_of kind order bytes offset ≡ Err e)
      → IsCause (after ≡ before) (failed × (after
      ≡ before)) e (NextIsRefused kind order bytes before e × (after ≡ before))
  refused_unlinked failed before after offset e n s h =
      refused_unread kind order bytes failed before after offset e n s
      (cause_along e (λ w. absurd w) (λ f. f) (λ g. isnt_read offset e g) h)

  pub refused_unpassed : (failed : Type 0) (before after : Walked) (offset : ℕ) (next : Option ℕ)
      (e : TiffError) → before.next ≡ Some offset → link_of kind order bytes offset ≡ Ok next
      → after ≡ before → IsCause (Unit {0}) ⊥ e (unless_met (offset ∷ reverse before.offsets) next
      ≡ Err e)
      → IsCause (after ≡ before) (failed × (after
      ≡ before)) e (NextIsRefused kind order bytes before e × (after ≡ before))
  refused_unpassed failed before after offset next e n h s c =
      let r = is_read offset next h in
      refused_unentered kind order bytes failed before after offset r.0 next e n r.1 r.2 s c

  pub one_passed : (before after : Walked) (offset : ℕ) (next : Option ℕ)
      → before.next ≡ Some offset → link_of kind order bytes offset ≡ Ok next
      → unless_met (offset ∷ reverse before.offsets) next ≡ Ok next
      → after ≡ record { offsets = before.offsets ++ offset ∷ []; next = next }
      → StepsOver kind order bytes before true after
  one_passed before after offset next n h m w =
      let r = is_read offset next h in
      (r.0, entered_by kind order bytes before after offset r.0 next n r.1 r.2 m w)

  pub begins_passed : (first : ℕ) (before after : Walked) (offset : ℕ) (next : Option ℕ)
      → before.next ≡ Some offset → link_of kind order bytes offset ≡ Ok next
      → unless_met (offset ∷ reverse before.offsets) next ≡ Ok next
      → after ≡ record { offsets = before.offsets ++ offset ∷ []; next = next }
      → ChainBegins kind order bytes first before → ChainBegins kind order bytes first after
  begins_passed first before after offset next n h m w b =
      let r = is_read offset next h in
      begins_entered kind order bytes first before after offset r.0 next n r.1 r.2 m w b

  pub cut_unlinked : (failed : Type 0) (walk : Walked) (offset : ℕ) (e : TiffError)
      → walk.next ≡ Some offset
      → IsCause ⊥ failed e (link_of kind order bytes offset ≡ Err e)
      → IsCause (Unit {0}) failed e ((first : ℕ) → ChainBegins kind order bytes first walk
      → ChainEnds kind order bytes first walk (Some e))
  cut_unlinked failed walk offset e n h =
      cut_unread kind order bytes failed walk offset e n (cause_along e (λ w. absurd w) (λ f. f) (λ g. isnt_read offset e g) h)

  pub cut_unpassed : (failed : Type 0) (walk : Walked) (offset : ℕ) (next : Option ℕ)
      (e : TiffError) → walk.next ≡ Some offset → link_of kind order bytes offset ≡ Ok next
      → IsCause (Unit {0}) ⊥ e (unless_met (offset ∷ reverse walk.offsets) next ≡ Err e)
      → IsCause (Unit {0}) failed e ((first : ℕ) → ChainBegins kind order bytes first walk
      → ChainEnds kind order bytes first walk (Some e))
  cut_unpassed failed walk offset next e n h c =
      let r = is_read offset next h in
      cut_unentered kind order bytes failed walk offset r.0 next e n r.1 r.2 c

-- ---- the facts that such a step shows

-- one more offset
pub grown_over : (kind : FileKind) (order : ByteOrder) (bytes old : List ℕ) (before after : Walked)
    (passed : Bool) → passed ≡ true
    → StepsOver kind order bytes before passed after
    → (more : List ℕ) × (before.offsets ≡ old ++ more)
    → (more : List ℕ) × (after.offsets ≡ old ++ more)
grown_over kind order bytes old before after false p h m = absurd (subst IsFalseBit p tt)
grown_over kind order bytes old before after true p h m =
    grown kind order bytes old before after (Some h.0) refl h.1 m

pub longer_over : (kind : FileKind) (order : ByteOrder) (bytes : List ℕ) (before after : Walked)
    (passed : Bool) → passed ≡ true
    → StepsOver kind order bytes before passed after
    → length after.offsets ≡ length before.offsets + 1
longer_over kind order bytes before after false p h = absurd (subst IsFalseBit p tt)
longer_over kind order bytes before after true p h =
    one_longer kind order bytes before after (Some h.0) refl h.1

-- the bytes that a step needs for the count and the link of the next directory are among those of
-- the whole way
pub way_asked : (kind : FileKind) (order : ByteOrder) (s t : SourceRecord) (first index : ℕ)
    (walk : Walked) (e : TiffError) → t ≡ s
    → ChainBegins kind order s.bytes first walk → length walk.offsets ≤ index
    → (NextLinkReadable t kind order walk → IsNotDevice e) → WayReadable s kind order first index
    → IsNotDevice e
way_asked kind order s t first index walk e same b l asked way =
    asked (subst (λ (x : SourceRecord). NextLinkReadable x kind order walk) (sym same) (way.link walk b l))

-- where there is no next offset, the walk has no more
pub none_over : (kind : FileKind) (order : ByteOrder) (bytes : List ℕ) (before after : Walked)
    (passed : Bool) (index : ℕ) → passed ≡ false
    → StepsOver kind order bytes before passed after → length before.offsets ≤ index
    → None ≡ slice_get after.offsets index
none_over kind order bytes before after true index p h l = absurd (subst IsFalseBit (sym p) tt)
none_over kind order bytes before after false index p h l =
    sym (subst (λ (w : Walked). slice_get w.offsets index
    ≡ None) (sym h.1) (slice_get_past before.offsets index l))

-- where the chain ends, the walk has no more offsets
pub none_further : (kind : FileKind) (order : ByteOrder) (bytes seen : List ℕ) (first : ℕ)
    (walk : Walked) (end : Option TiffError) (index : ℕ) → seen ≡ bytes
    → ChainEnds kind order seen first walk end → length walk.offsets ≤ index
    → slice_get (chain kind order bytes first).offsets index ≡ None
none_further kind order bytes seen first walk end index same h l =
    subst (λ (bs : List ℕ). slice_get (chain kind order bs first).offsets index ≡ None) same
    (ap (λ (c : Chain). slice_get c.offsets index) h ∙ slice_get_past walk.offsets index l)

-- a step that fails leaves the walk unchanged
pub refused_same : (kind : FileKind) (order : ByteOrder) (bytes : List ℕ) (failed : Type 0)
    (before after : Walked) (e : TiffError)
    → IsCause (after ≡ before) (failed × (after
    ≡ before)) e (WalkSteps kind order bytes before (Err e) after) → after ≡ before
refused_same kind order bytes failed before after e h = from_cause e (λ s. s) (λ d. d.1) (λ r. r.1) h

-- an error on the way is the end of the chain
pub way_cut : {failed failed' : Type 0} (kind : FileKind) (order : ByteOrder) (bytes seen : List ℕ)
    (start walk left : Walked) (index : ℕ) (e : TiffError)
    → seen ≡ bytes → ((first : ℕ) → ChainBegins kind order bytes first start
    → ChainBegins kind order bytes first walk) → length walk.offsets ≤ index → left ≡ walk
    → (failed → failed') → IsCause (Unit {0}) failed e ((first : ℕ)
    → ChainBegins kind order seen first walk → ChainEnds kind order seen first walk (Some e))
    → IsCause (Unit {0}) failed' e ((first : ℕ) → ChainBegins kind order bytes first start
    → (slice_get (chain kind order bytes first).offsets index ≡ None) × ChainEnds kind order bytes first left (Some e))
way_cut kind order bytes seen start walk left index e same begins l stays f c =
    cause_along e (λ w. w) f
    (λ g first b.
    (let ends = g first (subst (λ (bs : List ℕ). ChainBegins kind order bs first walk) (sym same) (begins first b)) in (
      none_further kind order bytes seen first walk (Some e) index same ends l,
      subst (λ (bs : List ℕ). ChainEnds kind order bs first left (Some e)) same
          (subst (λ (w : Walked). ChainEnds kind order seen first w (Some e)) (sym stays) ends),
    )))
    c
