-- If a model describes a file, the changed model describes the file after the changes (`WriteOp`).
use Rattle.std.proofs.Common.{◌≡◌, ℕ, ◌≤◌, List, [], ◌∷◌, ◌++◌, length, take, refl, sym, ◌∙◌, inl, inr, subst, arith, append_assoc, append-nil}
use Rattle.std.proofs.lemmas.List.{length-take}
use Rattle.tiff_base.specs.declared.tags.FileKind.{FileKind}
use Rattle.tiff_base.specs.SourceAndSink.{put}
use Rattle.tiff_base.specs.Number.{le}
use Rattle.tiff_value.specs.FileBytes.{offset_len, directory_bytes}
use Rattle.tiff_value.specs.Model.{ByteRegion, Model, FileContains, with_link, with_supplied, IsLink, Grows}
use Rattle.tiff_value.specs.WriteOps.{WriteOp, Appended, Supplied, Listed, Linked, after_op, bytes_after, all_appended, model_after_op, model_after}
use Rattle.tiff_value.specs.FileLaws.{OpFits, OpsFit, OpsStand, OpsGrow, OpsBegun, OpsTorn, OpsJoin, OpsAppend}
use Rattle.tiff_base.specs.lemmas.Slices.{length-le}
use Rattle.tiff_value.specs.lemmas.File.Kept.{kept_by_appending, kept_by_patching, kept_by_tearing}
use Rattle.tiff_value.specs.lemmas.File.Grown.{grown_by_region, grown_by_inline, grown_by_placed, grown_by_listing}

-- ---- one after another

-- the bytes after two lists of changes in sequence
pub bytes_joined : (kind : FileKind) (bytes : List ℕ) (ops more : List WriteOp)
    → bytes_after kind bytes (ops ++ more) ≡ bytes_after kind (bytes_after kind bytes ops) more
bytes_joined kind bytes [] more = refl
bytes_joined kind bytes (op ∷ ops) more = bytes_joined kind (after_op kind bytes op) ops more

-- the model after two lists of changes in sequence
pub model_joined : (kind : FileKind) (bytes : List ℕ) (m : Model) (ops more : List WriteOp)
    → model_after kind bytes m (ops ++ more)
    ≡ model_after kind (bytes_after kind bytes ops) (model_after kind bytes m ops) more
model_joined kind bytes m [] more = refl
model_joined kind bytes m (op ∷ ops) more =
    model_joined kind (after_op kind bytes op) (model_after_op kind (length bytes) m op) ops more

-- two lists of changes in sequence fit if each of the two fits
pub fits_joined : (kind : FileKind) (bytes : List ℕ) (m : Model) (ops more : List WriteOp)
    → OpsFit kind bytes m ops
    → OpsFit kind (bytes_after kind bytes ops) (model_after kind bytes m ops) more
    → OpsFit kind bytes m (ops ++ more)
fits_joined kind bytes m [] more f g = g
fits_joined kind bytes m (op ∷ ops) more f g =
    (f.0, fits_joined kind (after_op kind bytes op) (model_after_op kind (length bytes) m op) ops more f.1 g)

-- if two lists of changes in sequence fit, each of the two fits
pub fits_parted : (kind : FileKind) (bytes : List ℕ) (m : Model) (ops more : List WriteOp)
    → OpsFit kind bytes m (ops ++ more)
    → OpsFit kind bytes m ops × OpsFit kind (bytes_after kind bytes ops) (model_after kind bytes m ops) more
fits_parted kind bytes m [] more f = (tt, f)
fits_parted kind bytes m (op ∷ ops) more f =
    let p =
    fits_parted kind (after_op kind bytes op) (model_after_op kind (length bytes) m op) ops more f.1 in
    ((f.0, p.0), p.1)

pub ops_join : OpsJoin
ops_join kind bytes m ops more =
    (bytes_joined kind bytes ops more, (model_joined kind bytes m ops more, fits_joined kind bytes m ops more))

-- changes that point no link append their bytes to the file
pub ops_append : OpsAppend
ops_append kind bytes [] a = sym (append-nil bytes)
ops_append kind bytes (Appended more ∷ ops) a =
    ops_append kind (bytes ++ more) ops a ∙ append_assoc bytes more (all_appended kind ops)
ops_append kind bytes (Supplied supplied ∷ ops) a = ops_append kind bytes ops a
ops_append kind bytes (Listed fields ∷ ops) a =
    ops_append kind (bytes ++ directory_bytes kind fields) ops a
    ∙ append_assoc bytes (directory_bytes kind fields) (all_appended kind ops)
ops_append kind bytes (Linked offset target ∷ ops) a = absurd a

-- ---- what the model describes

-- after one change, the changed model describes the file
pub op_stands : (kind : FileKind) (bytes : List ℕ) (m : Model) (op : WriteOp)
    → FileContains kind bytes m
    → OpFits kind m op
    → FileContains kind (after_op kind bytes op) (model_after_op kind (length bytes) m op)
op_stands kind bytes m (Appended more) h f = grown_by_region kind m bytes more h
op_stands kind bytes m (Supplied supplied) h f =
    let P : List ℕ → Type 0 =
    λ b. FileContains kind bytes (with_supplied m (record { field = supplied.field; bytes = b })) in
    elim f as (λ _. FileContains kind bytes (with_supplied m supplied)) [
      | inl x ↦ subst P (sym x.bytes) (grown_by_inline kind m bytes supplied.field x.short h)
      | inr y ↦ (let r : ByteRegion = y.0 in let a = y.1.1 in
          subst P (sym a.bytes)
          (grown_by_placed kind m bytes supplied.field r y.1.0 a.offset a.whole a.long a.short h))
    ]
op_stands kind bytes m (Listed fields) h f = grown_by_listing kind m bytes fields f h
op_stands kind bytes m (Linked offset target) h f =
    kept_by_patching kind m bytes offset target f.0 f.1 h

-- after several changes, the changed model describes the file
pub ops_stand : OpsStand
ops_stand kind bytes m [] h f = h
ops_stand kind bytes m (op ∷ ops) h f =
    ops_stand kind (after_op kind bytes op) (model_after_op kind (length bytes) m op) ops
    (op_stands kind bytes m op h f.0) f.1

-- ---- what is kept

-- one change removes nothing from the model
op_grows : (kind : FileKind) (n : ℕ) (m : Model) (op : WriteOp)
    → Grows m (model_after_op kind n m op)
op_grows kind n m (Appended more) =
    record { directories = λ d i. i; supplied = λ h i. i; regions = λ r i. inr i }
op_grows kind n m (Supplied supplied) =
    record { directories = λ d i. i; supplied = λ h i. inr i; regions = λ r i. i }
op_grows kind n m (Listed fields) =
    record { directories = λ d i. inr i; supplied = λ h i. i; regions = λ r i. i }
op_grows kind n m (Linked offset target) =
    record { directories = λ d i. i; supplied = λ h i. i; regions = λ r i. i }

-- several changes remove nothing from the model
pub ops_grow : OpsGrow
ops_grow kind bytes m [] =
    record { directories = λ d i. i; supplied = λ h i. i; regions = λ r i. i }
ops_grow kind bytes m (op ∷ ops) =
    let first = op_grows kind (length bytes) m op in
    let rest =
    ops_grow kind (after_op kind bytes op) (model_after_op kind (length bytes) m op) ops in
    record {
      directories = λ d i. rest.directories d (first.directories d i);
      supplied = λ h i. rest.supplied h (first.supplied h i);
      regions = λ r i. rest.regions r (first.regions r i);
    }

-- a link of a model is a link of each model that grows from it
pub link_kept : (kind : FileKind) (m n : Model) (q : ℕ) → Grows m n → IsLink kind m q
    → IsLink kind n q
link_kept kind m n q g l =
    elim l [ inl x ↦ inl x | inr y ↦ inr (y.0, (g.directories y.0 y.1.0, y.1.1)) ]

-- ---- partial writes

-- after a partial append, the model still describes the file
pub ops_begun : OpsBegun
ops_begun kind bytes m ops count h =
    kept_by_appending kind m bytes (take count (all_appended kind ops)) h

-- after a partial write of the last link, the model with a changed link describes the file
pub ops_torn : OpsTorn
ops_torn kind bytes m before offset target count a h f =
    let over : List ℕ = take count (le (offset_len kind) target) in
    let n : Model = model_after kind bytes m before in
    let p = fits_parted kind bytes m before (Linked offset target ∷ []) f in
    let short : length over ≤ offset_len kind =
    omega (arith, length-take count (le (offset_len kind) target), length-le 0 (offset_len kind) target) in
    let P : List ℕ → Type 0 =
    λ file. (t : ℕ) × FileContains kind (put file offset over) (with_link kind n offset t) in
    subst P (ops_append kind bytes before a)
    (kept_by_tearing kind n (bytes_after kind bytes before) offset over p.1.0.0 short (ops_stand kind bytes m before h p.0))
