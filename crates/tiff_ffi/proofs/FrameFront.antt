-- How many bytes are in a file before the first strip of its first image.
use Rattle.std.proofs.Common.{◌≡◌, ℕ, ◌+◌, Bool, true, false, List, [], ◌∷◌, ◌++◌, length, Some, Ok, refl, ap, sym, ◌∙◌, arith, append-nil, length-append}
use Rattle.std.specs.Prelude.{if◌then◌else◌}
use Rattle.tiff_base.specs.declared.tags.FileKind.{FileKind}
use Rattle.tiff_base.specs.declared.tags.FileKind.TheVariants.{Classic, Big}
use Rattle.tiff_base.specs.declared.tags.PhotometricInterpretation.{PhotometricInterpretation}
use Rattle.tiff_base.specs.declared.tags.PhotometricInterpretation.TheVariants as meaning
use Rattle.tiff_base.specs.declared.tags.Tag.{Tag}
use Rattle.tiff_value.specs.ColorType.{ColorTypeRecord}
use Rattle.tiff_value.specs.Data.{FieldData, Scalars, data_of}
use Rattle.tiff_value.specs.FileBytes.{header_bytes, padding}
use Rattle.tiff_value.specs.Model.{SuppliedField}
use Rattle.tiff_value.specs.Fields.{is_long}
use Rattle.tiff_value.specs.WriteOps.{Appended, Supplied, bytes_after}
use Rattle.tiff_encode.specs.Machine.{FileState, OpenDirectory, OpenImage, WriteCall, gives, answers, ◌>>=◌}
use Rattle.tiff_encode.specs.Causes.{end_of, begin_cause, write_tag_cause, new_image_cause}
use Rattle.tiff_encode.specs.Calls.{placed_field, write_entry, write_tag, write_tags, meaning_tags, chroma_tags, layout_tags, first_tags, pad, image_directory, new_directory, new_image, image_in, with_field}
use Rattle.tiff_encode.proofs.Joining.{begin_adds, tag_adds}
use Rattle.tiff_encode.proofs.Data.Calls.{bind_answered, cause_answered}
use Rattle.tiff_ffi.specs.Writer.{front_len}

-- ---- one value

-- the bytes of a value that doesn't fit into its entry
abbrev long_bytes : FileKind → FieldData → List ℕ
long_bytes kind value = if is_long kind value then value.bytes else []

placed_by : (b : Bool) (kind : FileKind) (bytes more : List ℕ) (supplied : SuppliedField)
    → bytes_after kind bytes (if b then Appended more ∷ Supplied supplied
    ∷ [] else Supplied supplied ∷ []) ≡ bytes ++ (if b then more else [])
placed_by true kind bytes more supplied = refl
placed_by false kind bytes more supplied = sym (append-nil bytes)

placed : (value : FieldData) (file : FileState)
    → (placed_field value file).next.bytes ≡ file.bytes ++ long_bytes file.kind value
placed value file = placed_by (is_long file.kind value) file.kind file.bytes value.bytes _

tag_written : (d next : OpenDirectory) (t : Tag) (value : FieldData) (file : FileState)
    → (write_tag d t (Ok value) file).answer ≡ Ok next
    → (write_tag d t (Ok value) file).next.bytes ≡ file.bytes ++ long_bytes file.kind value
unfolding write_tag write_entry
tag_written d next t value file h =
    let known = answers (Ok value) >>= placed_field in
    let a =
    bind_answered (write_entry (Ok value)) (λ field. gives (with_field d t field)) file next h in
    let c = cause_answered (write_tag_cause file (Ok value)) known file a.0 a.1.0 in
    ap (λ told. told.next.bytes) a.1.1 ∙ ap (λ told. told.next.bytes) c.1 ∙ placed value file

-- ---- several values

-- how many bytes some values have that don't fit into their entries
abbrev long_len : FileKind → List (Tag × Scalars) → ℕ
long_len kind [] = 0
long_len kind (v ∷ vs) = length (long_bytes kind (data_of v.1)) + long_len kind vs

long_joined : (kind : FileKind) (xs ys : List (Tag × Scalars))
    → long_len kind (xs ++ ys) ≡ long_len kind xs + long_len kind ys
long_joined kind [] ys = omega arith
long_joined kind (x ∷ xs) ys = let more = long_joined kind xs ys in omega (arith, more)

tags_written : (d next : OpenDirectory) (values : List (Tag × Scalars)) (file : FileState)
    → (write_tags d values file).answer ≡ Ok next
    → end_of (write_tags d values file).next ≡ end_of file + long_len file.kind values
tags_written d next [] file h = omega arith
tags_written d next (v ∷ values) file h =
    let call : WriteCall OpenDirectory = write_tag d v.0 (Ok (data_of v.1)) in
    let mid : FileState = (call file).next in
    let a = bind_answered call (λ x. write_tags x values) file next h in
    let first : end_of mid ≡ end_of file + length (long_bytes file.kind (data_of v.1)) =
    ap (λ (b : List ℕ). length b) (tag_written d a.0 v.0 (data_of v.1) file a.1.0)
    ∙ length-append file.bytes (long_bytes file.kind (data_of v.1)) in
    let kind : mid.kind ≡ file.kind =
    ap (λ f. f.kind) (tag_adds d v.0 (Ok (data_of v.1)) file).next in
    let others : end_of (write_tags a.0 values mid).next ≡ end_of mid + long_len mid.kind values =
    tags_written a.0 next values mid (ap (λ told. told.answer) (sym a.1.1) ∙ h) in
    let here : end_of (write_tags d (v ∷ values) file).next
    ≡ end_of (write_tags a.0 values mid).next = ap (λ told. end_of told.next) a.1.1 in
    let same : long_len mid.kind values ≡ long_len file.kind values =
    ap (λ k. long_len k values) kind in
    omega (arith, first, others, here, same)

-- ---- the first tags of an image

-- how many bytes the two resolutions of an image have outside of their entries
abbrev resolutions_len : FileKind → ℕ
resolutions_len Classic = 16
resolutions_len Big = 0

meaning_long : (kind : FileKind) (i : OpenImage) → long_len kind (meaning_tags i) ≡ 0
unfolding data_of
meaning_long Classic i = refl
meaning_long Big i = refl

layout_long : (kind : FileKind) (i : OpenImage)
    → long_len kind (layout_tags i) ≡ resolutions_len kind
unfolding data_of
layout_long Classic i = refl
layout_long Big i = refl

chroma_long : (kind : FileKind) (p : PhotometricInterpretation)
    → long_len kind (chroma_tags meaning.YCbCr) ≡ 0 → long_len kind (chroma_tags p) ≡ 0
chroma_long kind meaning.WhiteIsZero h = refl
chroma_long kind meaning.BlackIsZero h = refl
chroma_long kind meaning.RGB h = refl
chroma_long kind meaning.RGBPalette h = refl
chroma_long kind meaning.TransparencyMask h = refl
chroma_long kind meaning.CMYK h = refl
chroma_long kind meaning.YCbCr h = h
chroma_long kind meaning.CIELab h = refl
chroma_long kind meaning.IccLab h = refl
chroma_long kind meaning.ItuLab h = refl

shorts_fit : (kind : FileKind) → long_len kind (chroma_tags meaning.YCbCr) ≡ 0
unfolding data_of
shorts_fit Classic = refl
shorts_fit Big = refl

first_long : (kind : FileKind) (i : OpenImage) → long_len kind (first_tags i) ≡ resolutions_len kind
unfolding first_tags
first_long kind i =
    let chroma : List (Tag × Scalars) = chroma_tags i.color.interpretation in
    let all = long_joined kind (meaning_tags i) (chroma ++ layout_tags i) in
    let rest = long_joined kind chroma (layout_tags i) in
    let a = meaning_long kind i in
    let b = chroma_long kind i.color.interpretation (shorts_fit kind) in
    let c = layout_long kind i in
    omega (arith, all, rest, a, b, c)

-- ---- a new image

-- what the padding and the resolutions add to a header makes the bytes before the first strip
front_is : (kind : FileKind) → length (header_bytes kind)
    + length (padding (length (header_bytes kind))) + resolutions_len kind ≡ front_len kind
front_is Classic = refl
front_is Big = refl

begun_written : (file : FileState) (d : OpenDirectory) → (image_directory file).answer ≡ Ok d
    → (image_directory file).next.bytes ≡ file.bytes ++ padding (end_of file)
unfolding image_directory
begun_written file d h =
    let call : WriteCall OpenDirectory =
    pad >>= (λ _. gives (new_directory (Some file.chain) true)) in
    ap (λ told. told.next.bytes) (cause_answered (begin_cause file) call file d h).1

-- The first image of a file begins with its first strip behind the header and the resolutions.
pub new_front : (color : ColorTypeRecord) (size width height : ℕ) (file : FileState) (i : OpenImage)
    → (new_image color size width height file).answer ≡ Ok i → file.bytes ≡ header_bytes file.kind
    → end_of (new_image color size width height file).next ≡ front_len file.kind
unfolding new_image
new_front color size width height file i h bytes =
    let image : OpenDirectory → OpenImage = λ d. image_in file d color size width height in
    let rest : OpenDirectory → WriteCall OpenImage =
    λ d. write_tags d (first_tags (image d)) >>= (λ last. gives (image last)) in
    let call : WriteCall OpenImage = image_directory >>= rest in
    let c = cause_answered (new_image_cause file color width height) call file i h in
    let a = bind_answered image_directory rest file i (ap (λ told. told.answer) (sym c.1) ∙ h) in
    let d : OpenDirectory = a.0 in
    let mid : FileState = (image_directory file).next in
    let tags : WriteCall OpenDirectory = write_tags d (first_tags (image d)) in
    let b =
    bind_answered tags (λ last. gives (image last)) mid i (ap (λ told. told.answer) (sym a.1.1)
    ∙ ap (λ told. told.answer) (sym c.1) ∙ h) in
    let begun : end_of mid ≡ end_of file + length (padding (end_of file)) =
    ap (λ (bs : List ℕ). length bs) (begun_written file d a.1.0)
    ∙ length-append file.bytes (padding (end_of file)) in
    let kind : mid.kind ≡ file.kind = ap (λ f. f.kind) (begin_adds file).next in
    let tagged : end_of (tags mid).next ≡ end_of mid + long_len mid.kind (first_tags (image d)) =
    tags_written d b.0 (first_tags (image d)) mid b.1.0 in
    let long : long_len mid.kind (first_tags (image d)) ≡ resolutions_len file.kind =
    ap (λ k. long_len k (first_tags (image d))) kind ∙ first_long file.kind (image d) in
    let all : end_of (new_image color size width height file).next ≡ end_of (tags mid).next =
    ap (λ told. end_of told.next) c.1 ∙ ap (λ told. end_of told.next) a.1.1
    ∙ ap (λ told. end_of told.next) b.1.1 in
    let header : end_of file + length (padding (end_of file)) + resolutions_len file.kind
    ≡ front_len file.kind =
    ap (λ (bs : List ℕ). length bs + length (padding (length bs)) + resolutions_len file.kind) bytes
    ∙ front_is file.kind in
    omega (arith, begun, tagged, long, all, header)
