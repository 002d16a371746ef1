-- The worked examples of `Encode.Calls` hold.
use Rattle.std.specs.Prelude.{◌≡◌, ℕ, true, false, List, [], ◌∷◌, ◌++◌, length, Some, None, Ok}
use Rattle.std.proofs.Common.{ap}
use Rattle.std.specs.FinMap.{len, entries}
use Rattle.tiff_base.specs.declared.tags.FileKind.TheVariants.{Classic, Big}
use Rattle.tiff_base.specs.Field.{Field}
use Rattle.tiff_value.specs.WriteOps.{Listed, bytes_after}
use Rattle.tiff_encode.specs.Machine.{FileState, OpenDirectory, WriteOutcome, by_cause}
use Rattle.tiff_encode.specs.Causes.{end_of}
use Rattle.tiff_encode.specs.Calls.{Offsets, chain_after, finish, links_to, offsets_of, new_directory}
use Rattle.test_definitions.specs.OneValue.{long_field}
use Rattle.test_definitions.proofs.Maps.{entries_puts, len_puts}
use Rattle.test_definitions.proofs.OfEncode.FileBytes.{bytes_by}
use Rattle.test_definitions.proofs.OfEncode.Causes.{finish_cause_by}
use Rattle.test_definitions.specs.Encode.Calls as s
use Rattle.test_definitions.specs.Encode.Causes.{new_file}
use Rattle.tiff.proofs.OnLiterals.{tiff_on_literals}

-- the end of a directory, computed from the number of its entries and the entries
abbrev pub finish_told_by : FileState → OpenDirectory → ℕ → List (ℕ × Field) → WriteOutcome Offsets
finish_told_by file d count fields = by_cause (finish_cause_by file d count fields) (λ f.
    let offsets = offsets_of file.kind (end_of file) count in record {
      answer = Ok offsets;
      ops = (Listed d.fields ∷ links_to d.parent (end_of file)) ++ [];
      next =
          chain_after (record f { bytes = bytes_after f.kind (f.bytes ++ bytes_by f.kind count fields) (links_to d.parent (end_of file)) }) d.chained offsets;
    }) file

pub finish_told : (file : FileState) (d : OpenDirectory) (count : ℕ) (fields : List (ℕ × Field))
    → len d.fields ≡ count → entries d.fields ≡ fields
    → finish d file ≡ finish_told_by file d count fields
unfolding tiff_on_literals
finish_told file d count fields p q = λ i. finish_told_by file d (p i) (q i)

pub tag_again : s.tag_again
tag_again = entries_puts ((256, long_field 6) ∷ (256, long_field 5) ∷ [])

pub extended : s.extended
unfolding tiff_on_literals
extended = entries_puts ((256, long_field 6) ∷ (257, long_field 7) ∷ (256, long_field 5) ∷ [])

pub first_finished : s.first_finished
first_finished =
    (ap (λ t. t.answer) (finish_told (new_file Classic) (s.one_field) 1 ((256, long_field 5) ∷ []) (len_puts ((256, long_field 5) ∷ [])) (entries_puts ((256, long_field 5) ∷ []))), ap (λ t. t.next.bytes) (finish_told (new_file Classic) (s.one_field) 1 ((256, long_field 5) ∷ []) (len_puts ((256, long_field 5) ∷ [])) (entries_puts ((256, long_field 5) ∷ []))))

pub first_chain : s.first_chain
first_chain =
    ap (λ t. t.next.chain) (finish_told (new_file Classic) (s.one_field) 1 ((256, long_field 5)
    ∷ []) (len_puts ((256, long_field 5) ∷ [])) (entries_puts ((256, long_field 5) ∷ [])))

pub first_big : s.first_big
first_big =
    ap (λ t. t.answer) (finish_told (new_file Big) (s.with_fields (new_directory (Some 8) true) ((256, long_field 5) ∷ [])) 1 ((256, long_field 5) ∷ []) (len_puts ((256, long_field 5) ∷ [])) (entries_puts ((256, long_field 5) ∷ [])))

pub first_big_length : s.first_big_length
first_big_length =
    ap (λ t. length t.next.bytes) (finish_told (new_file Big) (s.with_fields (new_directory (Some 8) true) ((256, long_field 5) ∷ [])) 1 ((256, long_field 5) ∷ []) (len_puts ((256, long_field 5) ∷ [])) (entries_puts ((256, long_field 5) ∷ [])))

pub first_calls : s.first_calls
unfolding tiff_on_literals
first_calls =
    (ap (λ t. t.answer) (finish_told (new_file Classic) (s.one_field) 1 ((256, long_field 5) ∷ []) (len_puts ((256, long_field 5) ∷ [])) (entries_puts ((256, long_field 5) ∷ []))), ap (λ t. t.next.bytes) (finish_told (new_file Classic) (s.one_field) 1 ((256, long_field 5) ∷ []) (len_puts ((256, long_field 5) ∷ [])) (entries_puts ((256, long_field 5) ∷ []))))

pub second_finished : s.second_finished
unfolding tiff_on_literals
second_finished =
    (ap (λ t. t.answer) (finish_told (record s.after_first { bytes = s.first_file ++ (0 ∷ 0 ∷ []) }) (new_directory (Some 22) false) 0 ([]) (len_puts ([])) (entries_puts ([]))), ap (λ t. t.next.bytes) (finish_told (record s.after_first { bytes = s.first_file ++ (0 ∷ 0 ∷ []) }) (new_directory (Some 22) false) 0 ([]) (len_puts ([])) (entries_puts ([]))))

pub not_written : s.not_written
not_written =
    ap (λ t. t) (finish_told (s.after_first) (new_directory (Some 1000) true) 0 ([]) (len_puts ([])) (entries_puts ([])))

pub finish_ops : s.finish_ops
finish_ops =
    ap (λ t. t.ops) (finish_told (new_file Classic) (s.one_field) 1 ((256, long_field 5)
    ∷ []) (len_puts ((256, long_field 5) ∷ [])) (entries_puts ((256, long_field 5) ∷ [])))

pub finish_alone : s.finish_alone
finish_alone =
    ap (λ t. t.ops) (finish_told (new_file Classic) (new_directory None false) 0 ([]) (len_puts ([])) (entries_puts ([])))

pub extra_offsets : s.extra_offsets
unfolding tiff_on_literals
extra_offsets =
    ap (λ t. t.answer) (finish_told (new_file Classic) (s.with_fields (new_directory None false) ((256, long_field 100) ∷ (257, long_field 200) ∷ [])) 2 ((256, long_field 100) ∷ (257, long_field 200) ∷ []) (len_puts ((256, long_field 100) ∷ (257, long_field 200) ∷ [])) (entries_puts ((256, long_field 100) ∷ (257, long_field 200) ∷ [])))

pub ruleset worked = (
  tag_again,
  extended,
  first_finished,
  first_chain,
  first_big,
  first_big_length,
  first_calls,
  second_finished,
  not_written,
  finish_ops,
  finish_alone,
  extra_offsets,
)
