-- The changes of a call are a function of the file that it finds.
use Rattle.std.proofs.Common.{◌≡◌, ℕ, ◌*◌, ◌^◌, ◌<◌, Bool, true, false, cond, List, Option, Some, None, Result, Ok, Err, refl, ap, sym, ◌∙◌, subst, arith}
use Rattle.std.proofs.lemmas.Bool.{ne_eqb, lt-leb}
use Rattle.std.specs.Prelude.{◌||◌, ◌==◌, nat_le}
use Rattle.std.specs.FinMap.{len}
use Rattle.tiff_base.specs.declared.error.TiffError.{TiffError}
use Rattle.tiff_base.specs.declared.error.TiffError.TheVariants.{IntSizeError, UsageError}
use Rattle.tiff_base.specs.declared.error.UsageError.TheVariants.{ZeroIfdPointer}
use Rattle.tiff_base.specs.declared.io.SinkFault.{SinkFault}
use Rattle.tiff_base.specs.declared.tags.FileKind.{FileKind}
use Rattle.tiff_base.specs.Directory.{link_offset}
use Rattle.tiff_base.specs.Field.{Field}
use Rattle.tiff_encode.specs.declared.encoder.settings.Compression.{Compression}
use Rattle.tiff_encode.specs.Machine.{FileState, OpenDirectory, OpenImage, WriteCall, by_cause}
use Rattle.tiff_encode.specs.Chunks.{image_page, row_samples}
use Rattle.tiff_encode.specs.Causes.{is_past, end_of, unless_ended, finish_cause, offset_cause}
use Rattle.tiff_encode.specs.Calls.{Offsets, offsets_of, result_by, finish, new_offset}
use Rattle.tiff_encode.specs.Stored.{IsCompressed, unpacked_chunk}
use Rattle.tiff_encode.specs.RunLaws.{IsOneStep, OneStep, OneStored, OffsetsAgree}
use Rattle.tiff_base.specs.lemmas.Slices.{ok_inj}

one_of : (A : Type 0) → IsOneStep A
one_of A told r s old new other a b =
    let f : new.file ≡ other.file = a.ended.state ∙ sym b.ended.state in
    let m : new.model ≡ other.model = a.model ∙ sym b.model in
    (sym a.ended.answer ∙ b.ended.answer, λ i. record { file = f i; model = m i })

pub one_step : OneStep
one_step = (one_of Field, (one_of ℕ, (one_of OpenDirectory, (one_of OpenImage, one_of Offsets))))

pub one_stored : OneStored
one_stored i samples stored other p a b =
    let P : Compression → List ℕ → Type 0 =
    λ c xs. IsCompressed c (row_samples (image_page i) * i.size) xs (unpacked_chunk i samples) in
    let x : stored ≡ unpacked_chunk i samples = subst (λ c. P c stored) p a in
    let y : other ≡ unpacked_chunk i samples = subst (λ c. P c other) p b in
    x ∙ sym y

-- an error is no success, and an error that refuses a call differs from no error
err_ok : {A : Type 0} {e : TiffError} {x : A} → let a : Result A TiffError =
    Err e in let b : Result A TiffError = Ok x in a ≡ b → ⊥
err_ok h = cc

some_none : {e : TiffError} → let a : Option TiffError = Some e in a ≡ None → ⊥
some_none h = cc

-- nothing refuses a call that succeeds
pub uncaused : {A : Type 0} (c : Option TiffError) (call : WriteCall A) (file : FileState) (x : A)
    → (by_cause c call file).answer ≡ Ok x
    → (c ≡ None) × ((call file).answer ≡ Ok x)
uncaused None call file x h = (refl, h)
uncaused (Some e) call file x h = absurd (err_ok h)

-- if nothing refuses the end of a directory, the last of its tests isn't met
last_test : (o : Option SinkFault) (a b c : Bool) (e : TiffError) (rest : Option TiffError)
    → unless_ended o (cond (a || (b || c)) (Some e) rest) ≡ None → c ≡ false
last_test (Some f) a b c e rest h = absurd (some_none h)
last_test None true b c e rest h = absurd (some_none h)
last_test None false true c e rest h = absurd (some_none h)
last_test None false false true e rest h = absurd (some_none h)
last_test None false false false e rest h = refl

pub near : (file : FileState) (d : OpenDirectory) → finish_cause file d ≡ None
    → is_past file.kind (end_of file) ≡ false
unfolding finish_cause
near file d h = last_test file.fault _ _ _ _ _ h

-- an offset that passes the tests is accepted
tests : (kind : FileKind) (p n : ℕ) → is_past kind p ≡ false → 0 < p → link_offset kind p n < 2 ^ 64
    → offset_cause kind p n ≡ None
unfolding offset_cause
tests kind p n a z l =
    ap (λ b. cond b (Some IntSizeError) (cond (p == 0 || nat_le (2 ^ 64) (link_offset kind p n)) (Some (UsageError ZeroIfdPointer)) None)) a
    ∙ ap (λ b. cond (b || nat_le (2 ^ 64) (link_offset kind p n)) (Some (UsageError ZeroIfdPointer)) None) (ne_eqb p 0 (λ e. omega arith))
    ∙ ap (λ b. cond b (Some (UsageError ZeroIfdPointer)) None) (lt-leb (2 ^ 64) (link_offset kind p n) l)

pub offsets_agree : OffsetsAgree
unfolding finish new_offset
offsets_agree file d offsets h z l =
    let c = uncaused (finish_cause file d) _ file offsets h in
    let o : Offsets = offsets_of file.kind (end_of file) (len d.fields) in
    let same : o ≡ offsets = ok_inj o offsets c.1 in
    let cause : offset_cause file.kind o.pointer (len d.fields) ≡ None =
    tests file.kind o.pointer (len d.fields) (near file d c.0)
    (subst (λ x. 0 < x.pointer) (sym same) z) (subst (λ x. x.link < 2 ^ 64) (sym same) l) in
    subst (λ x. result_by (offset_cause file.kind x.pointer (len d.fields)) (offsets_of file.kind x.pointer (len d.fields)) ≡ Ok x) same
    (ap (λ k. result_by k o) cause)
