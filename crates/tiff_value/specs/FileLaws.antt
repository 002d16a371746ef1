-- The laws by which a file keeps what it contains and contains more as bytes are appended and links
-- are overwritten.
use Rattle.std.specs.Prelude.{◌≡◌, ℕ, ◌^◌, ◌<◌, ◌≤◌, ◌⊎◌, List, [], ◌∷◌, ◌++◌, length, take, Ok}
use Rattle.std.specs.FinMap.{FinMap, len, entries}
use Rattle.std.specs.Ordering.{nat_cmp}
use Rattle.tiff_base.specs.declared.tags.FileKind.{FileKind}
use Rattle.tiff_base.specs.declared.tags.ByteOrder.TheVariants.{LittleEndian}
use Rattle.tiff_base.specs.Field.{Field}
use Rattle.tiff_base.specs.Header.{header_at}
use Rattle.tiff_base.specs.SourceAndSink.{put}
use Rattle.tiff_base.specs.Number.{le}
use Rattle.tiff_base.specs.FieldBytes.{field_len, field_offset}
use Rattle.tiff_value.specs.FileBytes.{offset_len, count_len, header_bytes, directory_bytes}
use Rattle.tiff_value.specs.WriteOps.{WriteOp, Appended, Supplied, Listed, Linked, after_op, bytes_after, all_appended, standing_fields, model_after_op, model_after}
use Rattle.tiff_value.specs.Model.{In, FinishedDirectory, SuppliedField, ByteRegion, Model, header_link, own_link, IsLink, FileContains, header_model, with_link, with_directory, with_region, with_supplied, Grows}

-- a field that can be written as an entry
pub record IsListable (kind : FileKind) (tag : ℕ) (f : Field) : Type 0 where
  pub tag_fits : tag < 2 ^ 16
  pub count : f.count < 256 ^ offset_len kind
  pub whole : length f.value ≡ 8

-- fields that can be written as a directory
pub record AreListable (kind : FileKind) (fields : FinMap nat_cmp Field) : Type 0 where
  pub each : (e : ℕ × Field) → In e (entries fields) → IsListable kind e.0 e.1
  pub few : len fields < 256 ^ count_len kind

-- a file with only a header contains the model of a header
abbrev pub HeaderStands : Type 0
HeaderStands = (kind : FileKind) → FileContains kind (header_bytes kind) (header_model kind)

abbrev pub KeptByAppending : Type 0
KeptByAppending = (kind : FileKind) (m : Model) (file more : List ℕ) → FileContains kind file m
    → FileContains kind (file ++ more) m

abbrev pub KeptByPatching : Type 0
KeptByPatching = (kind : FileKind) (m : Model) (file : List ℕ) (q t : ℕ) → IsLink kind m q
    → t < 256 ^ offset_len kind → FileContains kind file m
    → FileContains kind (put file q (le (offset_len kind) t)) (with_link kind m q t)

-- a write of a link that fails partway: the link has some number, and the file contains everything
-- else
abbrev pub KeptByTearing : Type 0
KeptByTearing = (kind : FileKind) (m : Model) (file : List ℕ) (q : ℕ) (over : List ℕ)
    → IsLink kind m q → length over ≤ offset_len kind → FileContains kind file m
    → (t : ℕ) × FileContains kind (put file q over) (with_link kind m q t)

abbrev pub GrownByRegion : Type 0
GrownByRegion = (kind : FileKind) (m : Model) (file more : List ℕ) → FileContains kind file m
    → FileContains kind (file ++ more) (with_region m (record { offset = length file; bytes = more }))

-- a field whose bytes are in its entry
abbrev pub GrownByInline : Type 0
GrownByInline = (kind : FileKind) (m : Model) (file : List ℕ) (f : Field)
    → field_len f ≤ offset_len kind → FileContains kind file m
    → FileContains kind file (with_supplied m (record { field = f; bytes = take (field_len f) f.value }))

-- a field whose bytes are a region
abbrev pub GrownByPlaced : Type 0
GrownByPlaced = (kind : FileKind) (m : Model) (file : List ℕ) (f : Field) (r : ByteRegion)
    → In r m.regions
    → field_offset kind LittleEndian f ≡ r.offset → field_len f ≡ length r.bytes
    → offset_len kind < field_len f → field_len f < 2 ^ 64
    → FileContains kind file m
    → FileContains kind file (with_supplied m (record { field = f; bytes = r.bytes }))

-- a directory is appended, and has its fields as entries
abbrev pub GrownByListing : Type 0
GrownByListing = (kind : FileKind) (m : Model) (file : List ℕ) (fields : FinMap nat_cmp Field)
    → AreListable kind fields → FileContains kind file m
    → FileContains kind (file ++ directory_bytes kind fields)
    (with_directory kind m
    (record { offset = length file; fields = standing_fields kind fields }))

-- the step of `finish`: the directory is appended with link 0, then its parent's link is
-- overwritten
abbrev pub FinishStep : Type 0
FinishStep =
    (kind : FileKind) (m : Model) (file : List ℕ) (fields : FinMap nat_cmp Field) (parent : ℕ)
    → AreListable kind fields
    → length file < 256 ^ offset_len kind → IsLink kind m parent → FileContains kind file m
    → FileContains kind
    (put (file ++ directory_bytes kind fields) parent (le (offset_len kind) (length file)))
    (with_link kind
    (with_directory kind m
    (record { offset = length file; fields = standing_fields kind fields })) parent
    (length file))

-- ---- writes (`WriteOp`)

-- the bytes of a field, which are in its entry
pub record InEntry (kind : FileKind) (h : SuppliedField) : Type 0 where
  pub short : field_len h.field ≤ offset_len kind
  pub bytes : h.bytes ≡ take (field_len h.field) h.field.value

-- the bytes of a field, which are a region, at the offset in its value field
pub record AtRegion (kind : FileKind) (h : SuppliedField) (r : ByteRegion) : Type 0 where
  pub offset : field_offset kind LittleEndian h.field ≡ r.offset
  pub whole : field_len h.field ≡ length r.bytes
  pub long : offset_len kind < field_len h.field
  pub short : field_len h.field < 2 ^ 64
  pub bytes : h.bytes ≡ r.bytes

-- a write that is valid for a file that contains a model
abbrev pub OpFits : FileKind → Model → WriteOp → Type 0
OpFits kind m (Appended more) = Unit {0}
OpFits kind m (Supplied supplied) =
    InEntry kind supplied ⊎ ((r : ByteRegion) × (In r m.regions × AtRegion kind supplied r))
OpFits kind m (Listed fields) = AreListable kind fields
OpFits kind m (Linked offset target) = IsLink kind m offset × (target < 256 ^ offset_len kind)

-- several writes that are valid one after another
abbrev pub OpsFit : FileKind → List ℕ → Model → List WriteOp → Type 0
OpsFit kind bytes m [] = Unit {0}
OpsFit kind bytes m (op ∷ ops) =
    OpFits kind m op
    × OpsFit kind (after_op kind bytes op) (model_after_op kind (length bytes) m op) ops

-- valid writes to a file that contains a model result in a file that contains the model after these
-- writes
abbrev pub OpsStand : Type 0
OpsStand = (kind : FileKind) (bytes : List ℕ) (m : Model) (ops : List WriteOp) → FileContains kind bytes m
    → OpsFit kind bytes m ops
    → FileContains kind (bytes_after kind bytes ops) (model_after kind bytes m ops)

-- the model after some writes has everything that the model before them has
abbrev pub OpsGrow : Type 0
OpsGrow = (kind : FileKind) (bytes : List ℕ) (m : Model) (ops : List WriteOp)
    → Grows m (model_after kind bytes m ops)

-- the first of the bytes that some writes append are appended: the file still contains the model
abbrev pub OpsBegun : Type 0
OpsBegun = (kind : FileKind) (bytes : List ℕ) (m : Model) (ops : List WriteOp) (count : ℕ)
    → FileContains kind bytes m
    → FileContains kind (bytes ++ take count (all_appended kind ops)) m

-- writes of which none writes a link
abbrev pub AreAppending : List WriteOp → Type 0
AreAppending [] = Unit {0}
AreAppending (Appended more ∷ ops) = AreAppending ops
AreAppending (Supplied supplied ∷ ops) = AreAppending ops
AreAppending (Listed fields ∷ ops) = AreAppending ops
AreAppending (Linked offset target ∷ ops) = ⊥

-- all writes but the last are made, and the last, of a link, fails partway: the link has some
-- number, and the file contains everything else, also a directory that was appended
abbrev pub OpsTorn : Type 0
OpsTorn =
    (kind : FileKind) (bytes : List ℕ) (m : Model) (before : List WriteOp) (offset target count : ℕ)
    → AreAppending before
    → FileContains kind bytes m → OpsFit kind bytes m (before ++ Linked offset target ∷ [])
    → (t : ℕ)
    × FileContains kind
    (put (bytes ++ all_appended kind before) offset (take count (le (offset_len kind) target)))
    (with_link kind (model_after kind bytes m before) offset t)

-- some writes, and more writes after them
abbrev pub OpsJoin : Type 0
OpsJoin = (kind : FileKind) (bytes : List ℕ) (m : Model) (ops more : List WriteOp)
    → (bytes_after kind bytes (ops ++ more) ≡ bytes_after kind (bytes_after kind bytes ops) more)
    × ((model_after kind bytes m (ops ++ more) ≡ model_after kind (bytes_after kind bytes ops)
    (model_after kind bytes m ops) more)
    × (OpsFit kind bytes m ops
    → OpsFit kind (bytes_after kind bytes ops) (model_after kind bytes m ops) more
    → OpsFit kind bytes m (ops ++ more)))

-- writes of which none writes a link append their bytes and do nothing else
abbrev pub OpsAppend : Type 0
OpsAppend = (kind : FileKind) (bytes : List ℕ) (ops : List WriteOp) → AreAppending ops
    → bytes_after kind bytes ops ≡ bytes ++ all_appended kind ops

-- ---- the first directory

-- the header of a file that contains a model has the kind of the file, the byte order
-- little-endian, and the offset of the first directory
abbrev pub FirstTold : Type 0
FirstTold = (kind : FileKind) (file : List ℕ) (m : Model) (offset : ℕ) → FileContains kind file m
    → m.links (header_link kind) ≡ offset → 0 < offset
    → header_at file ≡ Ok (record { order = LittleEndian; kind = kind; first = offset })

-- ---- two models

-- two models that one file contains agree on the header's link, and on the fields and the link of
-- each directory that both have at one offset
abbrev pub ModelsAgree : Type 0
ModelsAgree = (kind : FileKind) (m n : Model) (file : List ℕ) → FileContains kind file m
    → FileContains kind file n
    → (m.links (header_link kind) ≡ n.links (header_link kind))
    × ((d e : FinishedDirectory) → In d m.directories → In e n.directories → d.offset ≡ e.offset
    → (d.fields ≡ e.fields) × (m.links (own_link kind d) ≡ n.links (own_link kind e)))
