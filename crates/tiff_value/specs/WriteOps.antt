-- Writes to a file: the bytes of the file after them, and the model that it contains then (this
-- project's).
use Rattle.std.specs.Prelude.{ℕ, List, [], ◌∷◌, ◌++◌, length, take, map}
use Rattle.std.specs.FinMap.{FinMap, entries, from_entries}
use Rattle.std.specs.Ordering.{nat_cmp}
use Rattle.tiff_base.specs.declared.tags.FileKind.{FileKind}
use Rattle.tiff_base.specs.declared.tags.FileKind.TheVariants.{Classic, Big}
use Rattle.tiff_base.specs.Field.{Field}
use Rattle.tiff_base.specs.Number.{le}
use Rattle.tiff_base.specs.SourceAndSink.{put}
use Rattle.tiff_value.specs.FileBytes.{offset_len, directory_bytes}
use Rattle.tiff_value.specs.Model.{SuppliedField, Model, with_region, with_supplied, with_directory, with_link}

-- a write to a file: appends bytes; records the bytes of a field, which are in its entry or were
-- appended before; appends a directory, with link 0; writes an offset into the link at an offset
pub data WriteOp : Type 0 where
  Appended : List ℕ → WriteOp
  Supplied : SuppliedField → WriteOp
  Listed : FinMap nat_cmp Field → WriteOp
  Linked : ℕ → ℕ → WriteOp

-- the bytes after one write, and after several writes in their order
abbrev pub after_op : FileKind → List ℕ → WriteOp → List ℕ
after_op kind bytes (Appended more) = bytes ++ more
after_op kind bytes (Supplied supplied) = bytes
after_op kind bytes (Listed fields) = bytes ++ directory_bytes kind fields
after_op kind bytes (Linked offset target) = put bytes offset (le (offset_len kind) target)

abbrev pub bytes_after : FileKind → List ℕ → List WriteOp → List ℕ
bytes_after kind bytes [] = bytes
bytes_after kind bytes (op ∷ ops) = bytes_after kind (after_op kind bytes op) ops

-- all bytes that some writes append
abbrev pub all_appended : FileKind → List WriteOp → List ℕ
all_appended kind [] = []
all_appended kind (Appended more ∷ ops) = more ++ all_appended kind ops
all_appended kind (Supplied supplied ∷ ops) = all_appended kind ops
all_appended kind (Listed fields ∷ ops) = directory_bytes kind fields ++ all_appended kind ops
all_appended kind (Linked offset target ∷ ops) = all_appended kind ops

-- a field as its entry stores it: in a classic file the entry stores the first four bytes of the
-- value field, and the others are zeros
abbrev pub standing_field : FileKind → Field → Field
standing_field Classic f = record f { value = take 4 f.value ++ (0 ∷ 0 ∷ 0 ∷ 0 ∷ []) }
standing_field Big f = f

-- the fields of a directory as their entries store them
abbrev pub standing_fields : FileKind → FinMap nat_cmp Field → FinMap nat_cmp Field
standing_fields kind fields =
    from_entries (map (λ entry. (entry.0, standing_field kind entry.1)) (entries fields))

-- the model after one write to a file of a given number of bytes, and after several writes
abbrev pub model_after_op : FileKind → ℕ → Model → WriteOp → Model
model_after_op kind n m (Appended more) = with_region m (record { offset = n; bytes = more })
model_after_op kind n m (Supplied supplied) = with_supplied m supplied
model_after_op kind n m (Listed fields) =
    with_directory kind m (record { offset = n; fields = standing_fields kind fields })
model_after_op kind n m (Linked offset target) = with_link kind m offset target

abbrev pub model_after : FileKind → List ℕ → Model → List WriteOp → Model
model_after kind bytes m [] = m
model_after kind bytes m (op ∷ ops) =
    model_after kind (after_op kind bytes op) (model_after_op kind (length bytes) m op) ops
