-- Errors of calls that leave the decoder as it is, and the bytes that they read.
use Rattle.std.proofs.Common.{◌≡◌, ◌<◌, ◌≤◌, ℕ, false, Err, Option, Some, Result, subst, sym}
use Rattle.std.specs.Prelude.{IsErrAnd}
use Rattle.std.proofs.lemmas.Result.{err_from_is_err_and}
use Rattle.tiff_base.specs.Answers.{FailsFrom, IsCause, IsKept, IsNotDevice, is_device}
use Rattle.tiff_base.specs.Field.{DirectoryRecord, Field}
use Rattle.tiff_base.specs.SourceAndSink.{SourceRecord}
use Rattle.tiff_base.specs.declared.error.TiffError.{TiffError}
use Rattle.tiff_base.specs.declared.tags.Tag.{Tag}
use Rattle.tiff_base.specs.lemmas.Causes.{memory_not_device, other_not_device}
use Rattle.tiff_ifd.specs.Stretches.{FieldReadable, TagReadable}
use Rattle.tiff_decode.specs.Machine.{Decoding, Follows, Outcome, Refused, source_of, stays}
use Rattle.tiff_decode.specs.Outcome.{find_entry}
use Rattle.tiff_decode.specs.Reader.{reader_of}
use Rattle.tiff_decode.specs.lemmas.ChainPosition.{told_same}

-- the error of a read that leaves the state, which is the error of the outcome, is returned
pub refused_here : {X Y : Type 0} (view : X → Y) (r : Result X TiffError) (e : TiffError)
    (outcome : Decoding → Outcome Y) (given : Result Y TiffError) (d old : Decoding)
    (contents : SourceRecord) (after : ℕ) → IsErrAnd r (λ y. y ≡ e) → d ≡ old
    → outcome d ≡ stays d given → contents ≡ source_of d → d.failures ≤ after
    → (is_device e ≡ false → after ≡ d.failures)
    → IsCause (Unit {0}) (d.failures < after) e (given ≡ Err e)
    → Follows view (outcome old) r old (record d { bytes = contents.bytes; readable = contents.readable; failures = after })
refused_here view r e outcome given d old contents after returned seen made same grew swallowed c =
    let new : Decoding = record d { bytes = contents.bytes; readable = contents.readable; failures = after } in
    let here : Refused (Unit {0}) e (stays d given) d new =
    record {
      memory = λ is. (tt, told_same d contents after same (swallowed (memory_not_device e is)));
      device =
          λ is. record {
            grew = c.device is;
            at = record { stands = λ i. record d { bytes = (same i).bytes; readable = (same i).readable; failures = after }; failures = grew };
          };
      other =
          λ is. record { answer = c.other is; at = told_same d contents after same (swallowed (other_not_device e is)) };
    } in
    let is = err_from_is_err_and r returned in
    rw (is.1, is.2) (subst (λ (x : Decoding). Refused (Unit {0}) e (outcome x) x new) seen
    (subst (λ (o : Outcome _). Refused (Unit {0}) e o d new) (sym made) here))

-- a source that failed in a call
pub fails_from : {S W X : Type 0} {contents_of : S → W} {failures_of : S → ℕ}
    {r : Result X TiffError} {old new : S} → IsKept contents_of failures_of r old new
    → failures_of old < failures_of new → FailsFrom contents_of failures_of old
fails_from {new = new} kept grew = record { last = new; contents = kept.contents; grew = grew }

-- the bytes of a field that is read are those of its tag
pub tag_asked : (d old : Decoding) (other : Option DirectoryRecord) (tag : Tag) (field : Field)
    (e : TiffError) → d ≡ old → find_entry (reader_of old other) tag ≡ Some field
    → (FieldReadable (source_of d) d.kind d.order field → IsNotDevice e)
    → TagReadable (source_of (reader_of old other)) old.kind old.order (reader_of old other).state.directory tag
    → IsNotDevice e
tag_asked d old other tag field e seen has asked r =
    asked (subst (λ (x : Decoding). FieldReadable (source_of x) x.kind x.order field) (sym seen) (r.field field has))
