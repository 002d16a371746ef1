-- The changes of a call fit a file that a model describes.
use Rattle.std.proofs.Common.{◌≡◌, ℕ, ◌^◌, ◌<◌, ◌≤◌, Bool, true, false, cond, List, [], ◌∷◌, ◌++◌, length, take, Option, Some, None, Result, Ok, Err, refl, sym, ◌∙◌, inl, inr, subst, arith, lit≤}
use Rattle.std.proofs.lemmas.Bool.{ltb-true, ltb-false, leb-false}
use Rattle.std.proofs.lemmas.List.{take_at, take-take}
use Rattle.std.specs.Prelude.{◌&&◌, replicate}
use Rattle.std.specs.Int.{w32, w64}
use Rattle.tiff_base.specs.declared.error.TiffError.{TiffError}
use Rattle.tiff_base.specs.declared.error.TiffError.TheVariants.{IntSizeError}
use Rattle.tiff_base.specs.declared.tags.FileKind.{FileKind}
use Rattle.tiff_base.specs.declared.tags.FileKind.TheVariants.{Classic, Big}
use Rattle.tiff_base.specs.declared.tags.ByteOrder.TheVariants.{LittleEndian}
use Rattle.tiff_base.specs.Field.{Field}
use Rattle.tiff_base.specs.FieldBytes.{field_offset}
use Rattle.tiff_base.specs.Number.{number, le}
use Rattle.tiff_value.specs.Data.{FieldData, IsWhole}
use Rattle.tiff_value.specs.FileBytes.{offset_len}
use Rattle.tiff_value.specs.Model.{ByteRegion, Model, IsLink}
use Rattle.tiff_value.specs.WriteOps.{WriteOp, Appended, Supplied, Listed, bytes_after, model_after}
use Rattle.tiff_value.specs.FileLaws.{AreListable, OpsFit}
use Rattle.tiff_value.specs.Fields.{is_long, filled_field}
use Rattle.tiff_encode.specs.Machine.{FileState, OpenDirectory, WriteCall, gives, does, by_cause, and_then, ◌>>=◌}
use Rattle.tiff_encode.specs.Causes.{is_past, end_of, finish_cause}
use Rattle.tiff_encode.specs.Calls.{Offsets, links_to, chains, offsets_of, finish}
use Rattle.tiff_encode.specs.CallLaws.{PlacedFits, FinishFits}
use Rattle.tiff_base.specs.lemmas.Slices.{number-le}
use Rattle.tiff_value.specs.lemmas.File.WriteOps.{fits_joined}
use Rattle.tiff_encode.proofs.Runs.{near}
use Rattle.std.specs.FinMap.{len}

-- ---- calls

-- the changes of two calls in sequence
going_on_fits : {A B : Type 0} (r : Result A TiffError) (ops : List WriteOp) (next : FileState)
    (rest : A → WriteCall B)
    (kind : FileKind) (bytes : List ℕ) (m : Model) → OpsFit kind bytes m ops
    → ((x : A) → r ≡ Ok x → OpsFit kind (bytes_after kind bytes ops) (model_after kind bytes m ops) (rest x next).ops)
    → OpsFit kind bytes m (and_then r ops next rest).ops
going_on_fits (Ok x) ops next rest kind bytes m f g =
    fits_joined kind bytes m ops (rest x next).ops f (g x refl)
going_on_fits (Err e) ops next rest kind bytes m f g = f

-- the changes of two calls in sequence fit if the changes of each call fit
pub followed_fits : {A B : Type 0} (call : WriteCall A) (rest : A → WriteCall B) (file : FileState)
    (m : Model)
    → OpsFit file.kind file.bytes m (call file).ops
    → ((x : A) → (call file).answer ≡ Ok x
    → OpsFit file.kind (bytes_after file.kind file.bytes (call file).ops)
    (model_after file.kind file.bytes m (call file).ops) (rest x (call file).next).ops)
    → OpsFit file.kind file.bytes m ((call >>= rest) file).ops
followed_fits call rest file m f g =
    going_on_fits (call file).answer (call file).ops (call file).next rest file.kind file.bytes m f g

-- a call that is refused makes no change
pub caused_fits : {A : Type 0} (cause : Option TiffError) (call : WriteCall A) (file : FileState) (m : Model)
    → (cause ≡ None → OpsFit file.kind file.bytes m (call file).ops)
    → OpsFit file.kind file.bytes m (by_cause cause call file).ops
caused_fits None call file m f = f refl
caused_fits (Some e) call file m f = tt

-- ---- a value that a call writes

-- an offset within the limit of the file kind fits the width of its offsets
pub offset_fits : (kind : FileKind) (n : ℕ) → is_past kind n ≡ false → n < 2 ^ 64
    → n < 256 ^ offset_len kind
offset_fits Classic n h l = leb-false (2 ^ 32) n h
offset_fits Big n h l = l

-- the offset read from an entry is the written offset
offset_read : (kind : FileKind) (f : Field) (n : ℕ) → n < 256 ^ offset_len kind
    → field_offset kind LittleEndian (record f { value = le 8 n }) ≡ n
unfolding number
offset_read Classic f n l = number-le w32 n (inr (inl refl)) l
offset_read Big f n l = number-le w64 n (inr (inr refl)) l

-- a value field has at most eight bytes
pub offset_len_8 : (kind : FileKind) → offset_len kind ≤ 8
offset_len_8 Classic = lit≤ tt
offset_len_8 Big = lit≤ tt

-- the field of a value, by whether the value is too long for the entry
abbrev field_by : Bool → ℕ → FieldData → Field
field_by long offset value = record {
  field_type = value.field_type;
  count = value.count;
  value = cond long (le 8 offset) (filled_field value.bytes);
}

-- the changes that write a value, by whether the value is too long for the entry
abbrev ops_by : Bool → ℕ → FieldData → List WriteOp
ops_by long offset value =
    let supplied : WriteOp =
    Supplied (record { field = field_by long offset value; bytes = value.bytes }) in
    cond long (Appended value.bytes ∷ supplied ∷ []) (supplied ∷ [])

-- the changes that write a value fit
supplied_fits : (kind : FileKind) (bytes : List ℕ) (m : Model) (value : FieldData) (long : Bool)
    → is_long kind value ≡ long
    → IsWhole value → length value.bytes < 2 ^ 64
    → (long ≡ true → length bytes < 256 ^ offset_len kind)
    → OpsFit kind bytes m (ops_by long (length bytes) value)
supplied_fits kind bytes m value true t w s p =
    let n : ℕ = length bytes in
    let r : ByteRegion = record { offset = n; bytes = value.bytes } in
    let above = ltb-true (offset_len kind) (length value.bytes) t in (
      tt,
      (
        inr (
          r,
          (
            inl refl,
            record {
              offset = offset_read kind (field_by true n value) n (p refl);
              whole = sym w;
              long = omega (arith, w, above);
              short = omega (arith, w, s);
              bytes = refl;
            },
          ),
        ),
        tt,
      ),
    )
supplied_fits kind bytes m value false t w s p =
    let v : List ℕ = value.bytes in
    let n : ℕ = length v in
    let below = ltb-false (offset_len kind) n t in
    let eight = offset_len_8 kind in
    let taken : take n (filled_field v) ≡ v =
    take-take n 8 (v ++ replicate 8 0) (omega (arith, below, eight))
    ∙ take_at v (replicate 8 0) n refl in
    let P : ℕ → Type 0 = λ k. v ≡ take k (filled_field v) in
    (inl (record { short = omega (arith, w, below); bytes = subst P w (sym taken) }), tt)

-- if the tests of a field return no error and the second test holds, the third doesn't
tests : (a b c : Bool) (e : TiffError) → cond a (Some e) (cond (b && c) (Some e) None) ≡ None
    → b ≡ true → c ≡ false
tests true b c e h t = absurd cc
tests false true true e h t = absurd cc
tests false true false e h t = refl
tests false false c e h t = absurd cc

pub placed_fits : PlacedFits
placed_fits file m value w h l s =
    let long : Bool = is_long file.kind value in
    let ops : List WriteOp = ops_by long (end_of file) value in
    followed_fits (does ops) (λ _. gives (field_by long (end_of file) value)) file m
    (supplied_fits file.kind file.bytes m value long refl w s
    (λ t. offset_fits file.kind (end_of file) (tests _ long _ IntSizeError h t) l))
    (λ _ _. tt)

-- ---- the end of a directory

-- appending a directory and pointing its parent's link to it fits
listed_fits : (kind : FileKind) (bytes : List ℕ) (m : Model) (d : OpenDirectory) (parent : Option ℕ)
    → AreListable kind d.fields
    → ((offset : ℕ) → parent ≡ Some offset → IsLink kind m offset)
    → length bytes < 256 ^ offset_len kind
    → OpsFit kind bytes m (Listed d.fields ∷ links_to parent (length bytes))
listed_fits kind bytes m d None a p l = (a, tt)
listed_fits kind bytes m d (Some offset) a p l =
    (a, ((elim (p offset refl) [ inl x ↦ inl x | inr y ↦ inr (y.0, (inr y.1.0, y.1.1)) ], l), tt))

pub finish_fits : FinishFits
unfolding finish
finish_fits file m d a p l =
    let ops : List WriteOp = Listed d.fields ∷ links_to d.parent (end_of file) in
    let rest : Unit {0} → WriteCall Offsets =
    λ _. chains d.chained (offsets_of file.kind (end_of file) (len d.fields)) in
    caused_fits (finish_cause file d) (does ops >>= rest) file m
    (λ h. followed_fits (does ops) rest file m
    (listed_fits file.kind file.bytes m d d.parent a p (offset_fits file.kind (end_of file) (near file d h) l)) (λ _ _. tt))
