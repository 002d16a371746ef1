-- The values of a job (this project's).
use Rattle.std.specs.Prelude.{ℕ, ◌^◌, ◌%◌, List, map, string_bytes, Result, Ok}
use Rattle.tiff_base.specs.declared.error.TiffError.{TiffError}
use Rattle.tiff_value.specs.Buffer.{BufferRecord}
use Rattle.tiff_value.specs.Data as data_
use Rattle.tiff_value.specs.Data.{FieldData, data_of, text_data}
use Rattle.tiff_encode.specs.declared.encoder.script.JobValue.{JobValue}
use Rattle.tiff_encode.specs.declared.encoder.script.JobValue.TheVariants as v
use Rattle.tiff_encode.specs.declared.encoder.script.JobBuffer.{JobBuffer}
use Rattle.tiff_encode.specs.declared.encoder.script.JobField.{JobField}
use Rattle.tiff_encode.specs.declared.encoder.script.JobField.TheVariants as field
use Rattle.tiff_encode.specs.GivenValues.{Value, Given, Lent}

-- the data of a value, or the error that says why it can't be written
abbrev pub value_data : JobValue → Result FieldData TiffError
value_data (v.U8 l) = Ok (data_of (data_.u8s l.items))
value_data (v.I8 l) = Ok (data_of (data_.i8s l.items))
value_data (v.U16 l) = Ok (data_of (data_.u16s l.items))
value_data (v.I16 l) = Ok (data_of (data_.i16s l.items))
value_data (v.U32 l) = Ok (data_of (data_.u32s l.items))
value_data (v.I32 l) = Ok (data_of (data_.i32s l.items))
value_data (v.U64 l) = Ok (data_of (data_.u64s l.items))
value_data (v.I64 l) = Ok (data_of (data_.i64s l.items))
value_data (v.Bits32 l) = Ok (data_of (data_.bits32s (map (λ b. b.0) l.items)))
value_data (v.Bits64 l) = Ok (data_of (data_.bits64s (map (λ b. b.0) l.items)))
value_data (v.CompressionMethod l) = Ok (data_of (data_.methods l.items))
value_data (v.PhotometricInterpretation l) = Ok (data_of (data_.interpretations l.items))
value_data (v.PlanarConfiguration l) = Ok (data_of (data_.planars l.items))
value_data (v.Predictor l) = Ok (data_of (data_.predictors l.items))
value_data (v.ResolutionUnit l) = Ok (data_of (data_.units l.items))
value_data (v.SampleFormat l) = Ok (data_of (data_.formats l.items))
value_data (v.ExtraSamples l) = Ok (data_of (data_.extras l.items))
value_data (v.Ifd l) = Ok (data_of (data_.ifds (map (λ i. i.0) l.items)))
value_data (v.Ifd8 l) = Ok (data_of (data_.ifd8s (map (λ i. i.0) l.items)))
value_data (v.Rational l) = Ok (data_of (data_.rationals (map (λ r. (r.n, r.d)) l.items)))
value_data (v.SRational l) = Ok (data_of (data_.srationals (map (λ r. (r.n, r.d)) l.items)))
value_data (v.Text text) = text_data (string_bytes text)

abbrev pub buffer_in : JobBuffer → BufferRecord
buffer_in b = record { order = b.order; data_type = b.data_type; bytes = b.bytes.items }

-- the value of a step that sets a tag
abbrev pub given_in : JobField → Value
given_in (field.Value value) = Given (value_data value.now)
given_in (field.Buffer buffer) = Lent (buffer_in buffer.now)

-- samples, each cut to a number of `size` bytes
abbrev pub cut_to : ℕ → List ℕ → List ℕ
cut_to size samples = map (λ n. n % 256 ^ size) samples
