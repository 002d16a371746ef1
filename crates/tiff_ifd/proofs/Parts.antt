-- Parts of the bytes of a field.
use Rattle.std.proofs.Common.{◌≡◌, ℕ, ◌+◌, ◌-◌, ◌^◌, ◌<◌, ◌≤◌, ◌++◌, List, [], length, take, Ok, Err, ap, sym, ◌∙◌, arith}
use Rattle.std.proofs.lemmas.Grind.{common_steps}
use Rattle.std.proofs.Math.Seq.{take-append_seam}
use Rattle.std.specs.Prelude.{min}
use Rattle.tiff_base.specs.lemmas.Causes.{cause_along}
use Rattle.tiff_base.specs.lemmas.Contents.{part_readable}
use Rattle.tiff_base.specs.SourceAndSink.{SourceRecord}
use Rattle.tiff_ifd.specs.Stretches.{FieldPartReadable, FieldReadable}
use Rattle.tiff_base.specs.Answers.{IsCause}
use Rattle.tiff_base.specs.Field.{Field}
use Rattle.tiff_base.specs.FieldBytes.{field_len, field_offset}
use Rattle.tiff_base.specs.declared.error.TiffError.{TiffError}
use Rattle.tiff_base.specs.declared.error.TiffError.TheVariants.{LimitsExceeded}
use Rattle.tiff_base.specs.declared.tags.ByteOrder.{ByteOrder}
use Rattle.tiff_base.specs.declared.tags.FileKind.{FileKind}
use Rattle.tiff_ifd.specs.TagQueries.{part_from, part_of_field}

module _ (kind : FileKind) (order : ByteOrder) (bytes : List ℕ) (f : Field) (len at : ℕ) where
  -- a field of 2^64 bytes or more
  pub part_too_long : (field_len f < 2 ^ 64 → ⊥)
      → part_of_field kind order bytes f len at ≡ Err LimitsExceeded
  unfolding part_of_field
  part_too_long long = grind (arith, common_steps, long)

  -- no byte of the field from `at` on
  pub part_behind : field_len f < 2 ^ 64 → field_len f ≤ at
      → part_of_field kind order bytes f len at ≡ Ok []
  unfolding part_of_field
  part_behind short behind = grind (arith, common_steps, short, behind)

  -- n bytes of the field, as many as it has and the buffer has room for
  part_is : (size n : ℕ) → size ≡ field_len f → size < 2 ^ 64 → at < size → n ≡ min len (size - at)
      → part_of_field kind order bytes f len at ≡ part_from kind order bytes f n at
  unfolding part_of_field
  part_is size n s short before e = grind (arith, common_steps, s, short, before, e)

  pub part_refused : (failed : Type 0) (size n : ℕ) (e : TiffError) → size ≡ field_len f
      → size < 2 ^ 64 → at < size → n ≡ min len (size - at)
      → IsCause ⊥ failed e (part_from kind order bytes f n at ≡ Err e)
      → IsCause ⊥ failed e (part_of_field kind order bytes f len at ≡ Err e)
  part_refused failed size n e s short before m h =
      cause_along e (λ w. w) (λ d. d) (λ g. part_is size n s short before m ∙ g) h

  pub part_read : (size n m : ℕ) (part rest : List ℕ) → size ≡ field_len f → size < 2 ^ 64
      → at < size → n ≡ min len (size - at) → length part ≡ m
      → part_from kind order bytes f n at ≡ Ok part
      → part_of_field kind order bytes f len at ≡ Ok (take m (part ++ rest))
  part_read size n m part rest s short before e l h =
      part_is size n s short before e ∙ h
      ∙ ap (λ (xs : List ℕ). Ok xs) (sym (ap (λ (k : ℕ). take k (part ++ rest)) (sym l)
      ∙ take-append_seam part rest))

-- a part of a readable field is readable
pub part_of_readable : (s : SourceRecord) (kind : FileKind) (order : ByteOrder) (f : Field)
    (at n : ℕ) → at + n ≤ field_len f
    → FieldReadable s kind order f → FieldPartReadable s kind order f at n
part_of_readable s kind order f at n within r =
    record { placed = λ p. part_readable s (field_offset kind order f) (field_len f) (field_offset kind order f + at) n (omega arith) (omega (arith, within)) (r.placed p) }
