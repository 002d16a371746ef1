-- The bytes of a tag's values, in a slice.
use Rattle.std.proofs.Common.{◌≡◌, ℕ, List, ◌++◌, length, drop, Option, Some, Result, Ok, Err, ap, ◌∙◌}
use Rattle.tiff_base.specs.lemmas.Causes.{cause_along}
use Rattle.tiff_base.specs.Answers.{IsCause, ◌>>=◌}
use Rattle.tiff_base.specs.Field.{Field}
use Rattle.tiff_base.specs.declared.error.TiffError.{TiffError}
use Rattle.tiff_base.specs.declared.tags.Tag.{Tag}
use Rattle.tiff_ifd.specs.TagQueries.{part_of_field}
use Rattle.tiff_decode.specs.Machine.{Decoding}
use Rattle.tiff_decode.specs.Outcome.{bytes_in_slice, find_entry, find_tag_bytes}

-- the number of bytes, and the slice that they are copied into
abbrev copied_into : List ℕ → Result (List ℕ) TiffError → Result (Option ℕ × List ℕ) TiffError
copied_into buf r = r >>= λ found. Ok (Some (length found), found ++ drop (length found) buf)

module _ (d : Decoding) (tag : Tag) (buf : List ℕ) (at : ℕ) where
  of_field : (f : Field) → find_entry d tag ≡ Some f
      → (find_tag_bytes d tag buf at).answer
      ≡ copied_into buf (part_of_field d.kind d.order d.bytes f (length buf) at)
  unfolding find_tag_bytes
  of_field f h = ap (bytes_in_slice d buf at) h

  -- bytes that cannot be read
  pub part_refused : (failed : Type 0) (f : Field) (e : TiffError) → find_entry d tag ≡ Some f
      → IsCause ⊥ failed e (part_of_field d.kind d.order d.bytes f (length buf) at ≡ Err e)
      → IsCause ⊥ failed e ((find_tag_bytes d tag buf at).answer ≡ Err e)
  part_refused failed f e h c =
      cause_along e (λ w. w) (λ f. f) (λ r. of_field f h ∙ ap (copied_into buf) r) c
