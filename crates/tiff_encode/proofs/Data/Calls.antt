-- Calls that append, and may patch a link last.
use Rattle.std.proofs.Common.{◌≡◌, ℕ, ◌≤◌, List, [], ◌∷◌, ◌++◌, Option, Some, None, Result, Ok, Err, refl, sym, ◌∙◌, arith}
use Rattle.tiff_base.specs.declared.error.TiffError.{TiffError}
use Rattle.tiff_value.specs.WriteOps.{WriteOp, Appended, Supplied, Listed, Linked, model_after}
use Rattle.tiff_value.specs.FileLaws.{AreAppending}
use Rattle.tiff_encode.specs.Machine.{FileState, WriteOutcome, WriteCall, after_ops, by_cause, and_then, ◌>>=◌}
use Rattle.tiff_value.specs.Model.{Model}
use Rattle.tiff_encode.specs.Open.{model_by}
use Rattle.tiff_value.specs.lemmas.File.WriteOps.{model_joined}
use Rattle.tiff_encode.proofs.Leaving.{link_count, count_joined, ok_err}
use Rattle.tiff_encode.proofs.Joining.{IsAdding, appending_joined}
use Rattle.tiff_encode.proofs.Image.FitsCalls.{IsDone, adding_done, bind_done}

-- ---- calls that succeed

-- if two calls in sequence succeed, each of the two succeeds
going_answered : {A B : Type 0} (r : Result A TiffError) (ops : List WriteOp) (next : FileState)
    (rest : A → WriteCall B) (y : B)
    → (and_then r ops next rest).answer ≡ Ok y
    → (x : A) × ((r ≡ Ok x) × (and_then r ops next rest ≡ after_ops ops (rest x next)))
going_answered (Ok x) ops next rest y h = (x, (refl, refl))
going_answered (Err e) ops next rest y h = absurd (ok_err (sym h))

pub bind_answered : {A B : Type 0} (call : WriteCall A) (rest : A → WriteCall B) (file : FileState) (y : B)
    → ((call >>= rest) file).answer ≡ Ok y
    → (x : A) × (((call file).answer ≡ Ok x) × ((call >>= rest) file
    ≡ after_ops (call file).ops (rest x (call file).next)))
bind_answered call rest file y h =
    going_answered (call file).answer (call file).ops (call file).next rest y h

-- nothing refuses a call that succeeds
pub cause_answered : {A : Type 0} (cause : Option TiffError) (call : WriteCall A) (file : FileState) (y : A)
    → (by_cause cause call file).answer ≡ Ok y
    → (cause ≡ None) × (by_cause cause call file ≡ call file)
cause_answered None call file y h = (refl, refl)
cause_answered (Some e) call file y h = absurd (ok_err (sym h))

-- ---- links among the changes of a call

-- each link among some changes is at the given offset
abbrev pub AreAt : Option ℕ → List WriteOp → Type 0
AreAt parent [] = Unit {0}
AreAt parent (Appended more ∷ ops) = AreAt parent ops
AreAt parent (Supplied supplied ∷ ops) = AreAt parent ops
AreAt parent (Listed fields ∷ ops) = AreAt parent ops
AreAt parent (Linked offset target ∷ ops) = (parent ≡ Some offset) × AreAt parent ops

none_at : (parent : Option ℕ) (ops : List WriteOp) → AreAppending ops → AreAt parent ops
none_at parent [] a = tt
none_at parent (Appended more ∷ ops) a = none_at parent ops a
none_at parent (Supplied supplied ∷ ops) a = none_at parent ops a
none_at parent (Listed fields ∷ ops) a = none_at parent ops a
none_at parent (Linked offset target ∷ ops) a = absurd a

at_joined : (parent : Option ℕ) (ops more : List WriteOp) → AreAt parent ops → AreAt parent more
    → AreAt parent (ops ++ more)
at_joined parent [] more a b = b
at_joined parent (Appended x ∷ ops) more a b = at_joined parent ops more a b
at_joined parent (Supplied x ∷ ops) more a b = at_joined parent ops more a b
at_joined parent (Listed x ∷ ops) more a b = at_joined parent ops more a b
at_joined parent (Linked offset target ∷ ops) more a b = (a.0, at_joined parent ops more a.1 b)

-- if each link among some changes is at the parent's offset, a last link is there
pub last_at : (parent : Option ℕ) (before : List WriteOp) (offset target : ℕ)
    → AreAt parent (before ++ Linked offset target ∷ [])
    → parent ≡ Some offset
last_at parent [] offset target a = a.0
last_at parent (Appended x ∷ before) offset target a = last_at parent before offset target a
last_at parent (Supplied x ∷ before) offset target a = last_at parent before offset target a
last_at parent (Listed x ∷ before) offset target a = last_at parent before offset target a
last_at parent (Linked p t ∷ before) offset target a = last_at parent before offset target a.1

-- changes that only append point no link
no_links : (ops : List WriteOp) → AreAppending ops → link_count ops ≡ 0
no_links [] a = refl
no_links (Appended x ∷ ops) a = no_links ops a
no_links (Supplied x ∷ ops) a = no_links ops a
no_links (Listed x ∷ ops) a = no_links ops a
no_links (Linked offset target ∷ ops) a = absurd a

-- ---- calls that patch at most one link

-- A call makes its changes to the bytes only. A call that is refused only appends. At most one
-- change points a link: the parent's.
pub record Patches {A : Type 0} (parent : Option ℕ) (told : WriteOutcome A) (file : FileState) : Type 0 where
  pub done : IsDone told file
  pub refused : (e : TiffError) → told.answer ≡ Err e → AreAppending told.ops
  pub links : link_count told.ops ≤ 1
  pub at : AreAt parent told.ops

pub caused_patches : {A : Type 0} (parent : Option ℕ) (cause : Option TiffError)
    (call : WriteCall A) (file : FileState)
    → Patches parent (call file) file → Patches parent (by_cause cause call file) file
caused_patches parent None call file p = p
caused_patches parent (Some e) call file p =
    record { done = record { kind = refl; bytes = refl }; refused = λ _ _. tt; links = omega arith; at = tt }

-- a call that only appends, followed by another call
module _ {A B : Type 0} (parent : Option ℕ) (rest : A → WriteCall B) where
  going_refused : (r : Result A TiffError) (ops : List WriteOp) (next : FileState) (e : TiffError)
      → AreAppending ops
      → ((x : A) → r ≡ Ok x → Patches parent (rest x next) next)
      → (and_then r ops next rest).answer ≡ Err e
      → AreAppending (and_then r ops next rest).ops
  going_refused (Err f) ops next e a p h = a
  going_refused (Ok x) ops next e a p h =
      appending_joined ops (rest x next).ops a ((p x refl).refused e h)

  going_links : (r : Result A TiffError) (ops : List WriteOp) (next : FileState) → AreAppending ops
      → ((x : A) → r ≡ Ok x → Patches parent (rest x next) next)
      → link_count (and_then r ops next rest).ops ≤ 1
  going_links (Err f) ops next a p = let n = no_links ops a in omega (arith, n)
  going_links (Ok x) ops next a p =
      let n = no_links ops a in
      let l = (p x refl).links in
      omega (arith, n, l, count_joined ops (rest x next).ops)

  going_at : (r : Result A TiffError) (ops : List WriteOp) (next : FileState) → AreAppending ops
      → ((x : A) → r ≡ Ok x → Patches parent (rest x next) next)
      → AreAt parent (and_then r ops next rest).ops
  going_at (Err f) ops next a p = none_at parent ops a
  going_at (Ok x) ops next a p =
      at_joined parent ops (rest x next).ops (none_at parent ops a) (p x refl).at

-- a call that appends, followed by a call that may patch a link, patches at most that link
pub bind_patches : {A B : Type 0} (parent : Option ℕ) (call : WriteCall A) (rest : A → WriteCall B)
    (file : FileState)
    → IsAdding (call file) file → ((x : A) → (call file).answer ≡ Ok x
    → Patches parent (rest x (call file).next) (call file).next)
    → Patches parent ((call >>= rest) file) file
bind_patches parent call rest file a p = record {
  done = bind_done call rest file (adding_done (call file) file a) (λ x h. (p x h).done);
  refused =
      λ e h. going_refused parent rest (call file).answer (call file).ops (call file).next e a.appending p h;
  links = going_links parent rest (call file).answer (call file).ops (call file).next a.appending p;
  at = going_at parent rest (call file).answer (call file).ops (call file).next a.appending p;
}

-- the model after two calls in sequence
pub behind_model : {A B : Type 0} (first : WriteOutcome A) (second : WriteOutcome B)
    (file : FileState) (m : Model) → IsDone first file
    → model_by file m (after_ops first.ops second)
    ≡ model_by first.next (model_by file m first) second
behind_model first second file m d =
    let n : Model = model_by file m first in
    model_joined file.kind file.bytes m first.ops second.ops
    ∙ (λ j. model_after (sym d.kind j) (sym d.bytes j) n second.ops)
