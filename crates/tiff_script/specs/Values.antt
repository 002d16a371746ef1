-- The values and the entries that jobs write, as words.
use Rattle.std.specs.Prelude.{ℕ, ◌==◌, List, map, length, Option, None, Some, codes, string_bytes, if◌then◌else◌}
use Rattle.std.specs.FinMap.{empty, insert}
use Rattle.std.specs.Int.{to_be_bytes, w64}
use Rattle.std.specs.Option.{option_map}
use Rattle.std.specs.Str.{bytes_eq}
use Rattle.tiff_base.specs.Buffer.{BufferRecord}
use Rattle.tiff_base.specs.Field.{DirectoryRecord}
use Rattle.tiff_base.specs.Tags.{extra_of, format_of, interpretation_of, method_of, planar_of, predictor_of, tag_of, type_of, unit_of}
use Rattle.tiff_base.specs.declared.tags.«Type».{«Type»}
use Rattle.tiff_base.specs.declared.tags.Tag.{Tag}
use Rattle.tiff_value.specs.Data.{Scalars}
use Rattle.tiff_value.specs.Data as scalars
use Rattle.tiff_encode.specs.declared.encoder.script.JobBuffer.{JobBuffer}
use Rattle.tiff_encode.specs.declared.encoder.script.JobValue.{JobValue}
use Rattle.tiff_encode.specs.declared.encoder.script.JobValue.TheVariants as v
use Rattle.tiff_script.specs.Digits.{bytes_in}
use Rattle.tiff_script.specs.Line.{◌>>=◌, after_all, before, behind, first_word, has, items, words_behind, words_of}
use Rattle.tiff_script.specs.Numbers.{magnitude, number, signed, unsigned}
use Rattle.tiff_script.specs.Stands.{bits32, bits64, fraction, ifd, ifd8, numbered, order, signed_fraction}

-- ---- values

-- a value: several scalars of one type, or a text
pub data ValueData : Type 0 where
  Several : Scalars → ValueData
  Text : List ℕ → ValueData

-- the value that a job holds
abbrev pub value_held : JobValue → ValueData
value_held (v.U8 l) = Several (scalars.u8s l.items)
value_held (v.I8 l) = Several (scalars.i8s l.items)
value_held (v.U16 l) = Several (scalars.u16s l.items)
value_held (v.I16 l) = Several (scalars.i16s l.items)
value_held (v.U32 l) = Several (scalars.u32s l.items)
value_held (v.I32 l) = Several (scalars.i32s l.items)
value_held (v.U64 l) = Several (scalars.u64s l.items)
value_held (v.I64 l) = Several (scalars.i64s l.items)
value_held (v.Bits32 l) = Several (scalars.bits32s (map (λ b. b.0) l.items))
value_held (v.Bits64 l) = Several (scalars.bits64s (map (λ b. b.0) l.items))
value_held (v.CompressionMethod l) = Several (scalars.methods l.items)
value_held (v.PhotometricInterpretation l) = Several (scalars.interpretations l.items)
value_held (v.PlanarConfiguration l) = Several (scalars.planars l.items)
value_held (v.Predictor l) = Several (scalars.predictors l.items)
value_held (v.ResolutionUnit l) = Several (scalars.units l.items)
value_held (v.SampleFormat l) = Several (scalars.formats l.items)
value_held (v.ExtraSamples l) = Several (scalars.extras l.items)
value_held (v.Ifd l) = Several (scalars.ifds (map (λ i. i.0) l.items))
value_held (v.Ifd8 l) = Several (scalars.ifd8s (map (λ i. i.0) l.items))
value_held (v.Rational l) = Several (scalars.rationals (map (λ r. (r.n, r.d)) l.items))
value_held (v.SRational l) = Several (scalars.srationals (map (λ r. (r.n, r.d)) l.items))
value_held (v.Text text) = Text (string_bytes text)

-- several scalars, each of which a word stands for
abbrev pub several : {A : Type 0} → (List A → Scalars) → (List ℕ → Option A) → List ℕ
    → Option ValueData
several type meaning words = option_map (λ list. Several (type list)) (items meaning words)

-- a value of offsets or fractions, by the name of its type
unfoldable pub place_value : List ℕ → List ℕ → Option ValueData
place_value name words =
    if bytes_eq name (codes "ifd") then several (λ l. scalars.ifds (map (λ i. i.0) l)) ifd words
    else (if bytes_eq name (codes "ifd8")
    then several (λ l. scalars.ifd8s (map (λ i. i.0) l)) ifd8 words
    else (if bytes_eq name (codes "rational")
    then several (λ l. scalars.rationals (map (λ r. (r.n, r.d)) l)) fraction words
    else (if bytes_eq name (codes "srational")
    then several (λ l. scalars.srationals (map (λ r. (r.n, r.d)) l)) signed_fraction words
    else None)))

-- a value of what numbers stand for
unfoldable pub named_value : List ℕ → List ℕ → Option ValueData
named_value name words =
    if bytes_eq name (codes "method")
    then several scalars.methods (numbered (λ n. Some (method_of n))) words
    else (if bytes_eq name (codes "interpretation")
    then several scalars.interpretations (numbered interpretation_of) words
    else (if bytes_eq name (codes "planar")
    then several scalars.planars (numbered planar_of) words
    else (if bytes_eq name (codes "predictor")
    then several scalars.predictors (numbered predictor_of) words
    else (if bytes_eq name (codes "unit") then several scalars.units (numbered unit_of) words
    else (if bytes_eq name (codes "format")
    then several scalars.formats (numbered (λ n. Some (format_of n))) words
    else (if bytes_eq name (codes "extra") then several scalars.extras (numbered extra_of) words
    else place_value name words))))))

-- a value of numbers of 32 or 64 bits
unfoldable pub wide_value : List ℕ → List ℕ → Option ValueData
wide_value name words =
    if bytes_eq name (codes "u32") then several scalars.u32s (unsigned 32) words
    else (if bytes_eq name (codes "i32") then several scalars.i32s (signed 32) words
    else (if bytes_eq name (codes "u64") then several scalars.u64s magnitude words
    else (if bytes_eq name (codes "i64") then several scalars.i64s (signed 64) words
    else (if bytes_eq name (codes "f32")
    then several (λ l. scalars.bits32s (map (λ b. b.0) l)) bits32 words
    else (if bytes_eq name (codes "f64")
    then several (λ l. scalars.bits64s (map (λ b. b.0) l)) bits64 words
    else named_value name words)))))

-- a value of any type, or a text
abbrev pub value_of : List ℕ → List ℕ → Option ValueData
value_of name words =
    if bytes_eq name (codes "text") then Some (Text words)
    else (if bytes_eq name (codes "u8") then several scalars.u8s (unsigned 8) words
    else (if bytes_eq name (codes "i8") then several scalars.i8s (signed 8) words
    else (if bytes_eq name (codes "u16") then several scalars.u16s (unsigned 16) words
    else (if bytes_eq name (codes "i16") then several scalars.i16s (signed 16) words
    else wide_value name words))))

-- the value that words stand for: the name of a type, and a word for each scalar, or the text
unfoldable pub value : List ℕ → Option ValueData
value words = value_of (first_word words) (words_behind words)

-- ---- bytes and entries

-- the bytes of a buffer
abbrev pub buffer_held : JobBuffer → BufferRecord
buffer_held b = record { order = b.order; data_type = b.data_type; bytes = b.bytes.items }

-- a type, a byte order and bytes
unfoldable pub buffer : List ℕ → Option BufferRecord
buffer words = do
  type ← numbered type_of (first_word words)
  byte_order ← order (first_word (words_behind words))
  bytes ← bytes_in (words_behind (words_behind words))
  Some (record { order = byte_order; data_type = type; bytes = bytes })

-- a type and bytes
unfoldable pub typed : List ℕ → Option («Type» × List ℕ)
typed words = do
  type ← numbered type_of (first_word words)
  bytes ← bytes_in (words_behind words)
  Some (type, bytes)

-- a tag, and the words behind it
unfoldable pub tagged : List ℕ → Option (Tag × List ℕ)
tagged words = option_map (λ tag. (tag, words_behind words))
    (numbered (λ n. Some (tag_of n)) (first_word words))

abbrev pub colon : ℕ
colon = 58

-- both parts of `a:b`
unfoldable pub parted : List ℕ → Option (List ℕ × List ℕ)
parted word = if has colon word then Some (before colon word, behind colon word) else None

-- the eight bytes that sixteen digits are
unfoldable pub field_bytes : List ℕ → Option (List ℕ)
field_bytes digits =
    if length digits == 16 then option_map (to_be_bytes w64) (number 16 digits) else None

-- The fields with one more: `TAG:TYPE:COUNT:DIGITS`.
abbrev pub with_field : DirectoryRecord → List ℕ → Option DirectoryRecord
with_field fields word = do
  first ← parted word
  second ← parted first.1
  third ← parted second.1
  value ← field_bytes third.1
  type ← numbered type_of second.0
  count ← magnitude third.0
  tag ← unsigned 16 first.0
  Some (record fields {
    entries = insert fields.entries tag
        (record { field_type = type; count = count; value = value });
  })

abbrev pub no_fields : DirectoryRecord
no_fields = record { entries = empty; next = None }

-- the fields that words are
unfoldable pub fields : List ℕ → Option DirectoryRecord
fields words = after_all with_field no_fields (words_of words)
