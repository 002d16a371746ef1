-- What written values are in a file (TIFF 6.0 section 2; BigTIFF; their types as in the Rust
-- crate).
use Rattle.std.specs.Prelude.{◌≡◌, ℕ, ◌+◌, ◌*◌, ℤ, Bool, not, ◌&&◌, if◌then◌else◌, ◌==◌, nat_lt, List, [], ◌∷◌, ◌++◌, length, Result, Ok, Err}
use Rattle.std.specs.Int.{Width, w8, w16, w32, w64, byte_len, cast_unsigned}
use Rattle.std.specs.List.{flat_map, list_all}
use Rattle.tiff_base.specs.declared.error.TiffError.{TiffError}
use Rattle.tiff_base.specs.declared.error.TiffError.TheVariants.{FormatError}
use Rattle.tiff_base.specs.declared.error.TiffFormatError.TheVariants.{InvalidTag}
use Rattle.tiff_base.specs.declared.tags.«Type».{«Type»}
use Rattle.tiff_base.specs.declared.tags.«Type».TheVariants as t
use Rattle.tiff_base.specs.declared.tags.CompressionMethod.{CompressionMethod}
use Rattle.tiff_base.specs.declared.tags.PhotometricInterpretation.{PhotometricInterpretation}
use Rattle.tiff_base.specs.declared.tags.PlanarConfiguration.{PlanarConfiguration}
use Rattle.tiff_base.specs.declared.tags.Predictor.{Predictor}
use Rattle.tiff_base.specs.declared.tags.ResolutionUnit.{ResolutionUnit}
use Rattle.tiff_base.specs.declared.tags.SampleFormat.{SampleFormat}
use Rattle.tiff_base.specs.declared.tags.ExtraSamples.{ExtraSamples}
use Rattle.tiff_base.specs.Types.{type_size}
use Rattle.tiff_base.specs.Tags.{method_number, interpretation_number, planar_number, predictor_number, unit_number, format_number, extra_number}
use Rattle.tiff_base.specs.Number.{le}

-- the data of a field: the type of its values, their number, and their little-endian bytes
pub record FieldData : Type 0 where
  pub field_type : «Type»
  pub count : ℕ
  pub bytes : List ℕ

-- Values that a writer writes: several values of one type. A single value is a list of one.
-- Floating-point numbers are their bits.
pub data Scalars : Type 0 where
  u8s : List ℕ → Scalars
  i8s : List ℤ → Scalars
  u16s : List ℕ → Scalars
  i16s : List ℤ → Scalars
  u32s : List ℕ → Scalars
  i32s : List ℤ → Scalars
  u64s : List ℕ → Scalars
  i64s : List ℤ → Scalars
  bits32s : List ℕ → Scalars
  bits64s : List ℕ → Scalars
  methods : List CompressionMethod → Scalars
  interpretations : List PhotometricInterpretation → Scalars
  planars : List PlanarConfiguration → Scalars
  predictors : List Predictor → Scalars
  units : List ResolutionUnit → Scalars
  formats : List SampleFormat → Scalars
  extras : List ExtraSamples → Scalars
  ifds : List ℕ → Scalars
  ifd8s : List ℕ → Scalars
  rationals : List (ℕ × ℕ) → Scalars
  srationals : List (ℤ × ℤ) → Scalars

-- the bytes of a signed number, in two's complement
abbrev pub signed_le : Width → ℤ → List ℕ
signed_le w n = le (byte_len w) (cast_unsigned w n)

-- the data of values of a type, each with the bytes that `bytes_of` returns
abbrev pub data_by : {A : Type 0} → «Type» → (A → List ℕ) → List A → FieldData
data_by type bytes_of values =
    record { field_type = type; count = length values; bytes = flat_map bytes_of values }

-- the type, the number and the bytes of some values; each value of an enum is its number, as a
-- SHORT
unfoldable pub data_of : Scalars → FieldData
data_of (u8s ns) = data_by t.BYTE (le 1) ns
data_of (i8s ns) = data_by t.SBYTE (signed_le w8) ns
data_of (u16s ns) = data_by t.SHORT (le 2) ns
data_of (i16s ns) = data_by t.SSHORT (signed_le w16) ns
data_of (u32s ns) = data_by t.LONG (le 4) ns
data_of (i32s ns) = data_by t.SLONG (signed_le w32) ns
data_of (u64s ns) = data_by t.LONG8 (le 8) ns
data_of (i64s ns) = data_by t.SLONG8 (signed_le w64) ns
data_of (bits32s ns) = data_by t.FLOAT (le 4) ns
data_of (bits64s ns) = data_by t.DOUBLE (le 8) ns
data_of (methods ms) = data_by t.SHORT (λ m. le 2 (method_number m)) ms
data_of (interpretations is) = data_by t.SHORT (λ i. le 2 (interpretation_number i)) is
data_of (planars ps) = data_by t.SHORT (λ p. le 2 (planar_number p)) ps
data_of (predictors ps) = data_by t.SHORT (λ p. le 2 (predictor_number p)) ps
data_of (units us) = data_by t.SHORT (λ u. le 2 (unit_number u)) us
data_of (formats fs) = data_by t.SHORT (λ f. le 2 (format_number f)) fs
data_of (extras es) = data_by t.SHORT (λ e. le 2 (extra_number e)) es
data_of (ifds ns) = data_by t.IFD (le 4) ns
data_of (ifd8s ns) = data_by t.IFD8 (le 8) ns
data_of (rationals rs) = data_by t.RATIONAL (λ r. le 4 r.0 ++ le 4 r.1) rs
data_of (srationals rs) = data_by t.SRATIONAL (λ r. signed_le w32 r.0 ++ signed_le w32 r.1) rs

-- a byte of ASCII other than the zero that ends a text
abbrev pub is_letter : ℕ → Bool
is_letter b = nat_lt b 128 && not (b == 0)

-- the data of a text: ASCII without a zero byte, followed by a zero byte
unfoldable pub text_data : List ℕ → Result FieldData TiffError
text_data text =
    if list_all is_letter text
    then Ok (record { field_type = t.ASCII; count = length text + 1; bytes = text ++ (0 ∷ []) })
    else Err (FormatError InvalidTag)

-- ---- its laws

-- The number of bytes is the count times the size of the type.
abbrev pub IsWhole : FieldData → Type 0
IsWhole d = length d.bytes ≡ d.count * type_size d.field_type

abbrev pub DataIsWhole : Type 0
DataIsWhole = (values : Scalars) → IsWhole (data_of values)

abbrev pub TextIsWhole : Type 0
TextIsWhole = (text : List ℕ) (d : FieldData) → text_data text ≡ Ok d → IsWhole d
