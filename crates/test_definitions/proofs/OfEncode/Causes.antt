-- The worked examples of `Encode.Causes` hold.
use Rattle.std.specs.Prelude.{◌≡◌, ℕ, ◌+◌, true, false, ◌||◌, if◌then◌else◌, List, [], Option, Some, None}
use Rattle.std.proofs.Common.{ap}
use Rattle.std.specs.FinMap.{len, entries, len-empty}
use Rattle.std.specs.List.{list_any}
use Rattle.std.specs.Ordering.{nat_cmp}
use Rattle.tiff_base.specs.declared.error.TiffError.{TiffError}
use Rattle.tiff_base.specs.declared.error.TiffError.TheVariants.{IntSizeError}
use Rattle.tiff_base.specs.declared.tags.FileKind.TheVariants.{Classic, Big}
use Rattle.tiff_base.specs.Field.{Field}
use Rattle.tiff_encode.specs.Encoder.{is_too_far}
use Rattle.tiff_encode.specs.Machine.{FileState, OpenDirectory}
use Rattle.tiff_encode.specs.Calls.{new_directory}
use Rattle.tiff_encode.specs.Causes.{end_of, finish_cause, is_past, is_past_count, parent_cause, unless_failed}
use Rattle.test_definitions.proofs.Maps.{entries_puts}
use Rattle.test_definitions.specs.Encode.Causes as s
use Rattle.test_definitions.specs.Encode.Causes.{new_file}
use Rattle.tiff.proofs.OnLiterals.{tiff_on_literals}

-- why a directory can't be finished, computed from the number of its entries and the entries
abbrev pub finish_cause_by : FileState → OpenDirectory → ℕ → List (ℕ × Field) → Option TiffError
finish_cause_by file d count fields =
    unless_failed file
    (if is_past_count file.kind count
    || (list_any (λ entry. is_past file.kind entry.1.count) fields || is_past file.kind (end_of file))
    then Some IntSizeError
    else parent_cause file d.parent)

finish_by : (file : FileState) (d : OpenDirectory) (count : ℕ) (fields : List (ℕ × Field))
    → len d.fields ≡ count → entries d.fields ≡ fields
    → finish_cause file d ≡ finish_cause_by file d count fields
unfolding tiff_on_literals
finish_by file d count fields p q = λ i. finish_cause_by file d (p i) (q i)

pub parent_last : s.parent_last
parent_last =
    finish_by (new_file Classic) (new_directory (Some 4) true) 0 [] (len-empty nat_cmp Field)
    (entries_puts [])

pub parent_past : s.parent_past
parent_past =
    finish_by (new_file Classic) (new_directory (Some 5) false) 0 [] (len-empty nat_cmp Field)
    (entries_puts [])

pub parent_past_big : s.parent_past_big
parent_past_big =
    finish_by (new_file Big) (new_directory (Some 9) false) 0 [] (len-empty nat_cmp Field) (entries_puts [])

pub no_parent : s.no_parent
no_parent =
    finish_by (new_file Classic) (new_directory None false) 0 [] (len-empty nat_cmp Field) (entries_puts [])

pub resolutions_far : s.resolutions_far
unfolding tiff_on_literals
resolutions_far = λ bytes h. ap (λ n. if is_too_far (n + 8) then Some IntSizeError else None) h

pub ruleset worked = (parent_last, parent_past, parent_past_big, no_parent)
