-- A decoding result after it has lent its samples from an index on (as in the Rust crate).
use Rattle.std.specs.Prelude.{ℕ, ℤ, List}
use Rattle.std.specs.Borrow.{MutBor, Fml, RattleType, follows, Array, u8, u16, u32, u64, i8, i16, i32, i64}
use Rattle.std.specs.Vec.{with_items_from}
use Rattle.std.specs.contracts.alloc.Global as global
use Rattle.std.specs.contracts.vec.Vec as vec
use Rattle.std.specs.contracts.impls.GlobalAllocator.TheImpl.{ghosts}
use Rattle.tiff_base.specs.declared.tags.Bits16.{Bits16}
use Rattle.tiff_base.specs.contracts.tags.Bits16 as bits16
use Rattle.tiff_base.specs.declared.tags.Bits32.{Bits32}
use Rattle.tiff_base.specs.contracts.tags.Bits32 as bits32
use Rattle.tiff_base.specs.declared.tags.Bits64.{Bits64}
use Rattle.tiff_base.specs.contracts.tags.Bits64 as bits64
use Rattle.tiff_decode.specs.declared.result.DecodingResult.{DecodingResult}
use Rattle.tiff_decode.specs.declared.result.DecodingResult.TheVariants as result
use Rattle.tiff_decode.specs.declared.buffer.DecodingBuffer.{DecodingBuffer}
use Rattle.tiff_decode.specs.declared.buffer.DecodingBuffer.TheVariants as buffer
use Rattle.tiff_decode.specs.contracts.result.DecodingResult.{the_row}

-- the logic's types for lists, and for floating-point numbers by their bits
abbrev pub vec_row : RattleType → RattleType
vec_row T = vec.the_row T global.the_row ghosts

abbrev pub F16s : RattleType
F16s = bits16.the_row

abbrev pub F32s : RattleType
F32s = bits32.the_row

abbrev pub F64s : RattleType
F64s = bits64.the_row

-- a result with the samples ws in place of its own from n on, where its number type is that of ws
abbrev pub with_u8 : DecodingResult → ℕ → List ℕ → DecodingResult
with_u8 (result.U8 v) n ws = result.U8 (with_items_from v n ws)
with_u8 r n ws = r

abbrev pub with_u16 : DecodingResult → ℕ → List ℕ → DecodingResult
with_u16 (result.U16 v) n ws = result.U16 (with_items_from v n ws)
with_u16 r n ws = r

abbrev pub with_u32 : DecodingResult → ℕ → List ℕ → DecodingResult
with_u32 (result.U32 v) n ws = result.U32 (with_items_from v n ws)
with_u32 r n ws = r

abbrev pub with_u64 : DecodingResult → ℕ → List ℕ → DecodingResult
with_u64 (result.U64 v) n ws = result.U64 (with_items_from v n ws)
with_u64 r n ws = r

abbrev pub with_f16 : DecodingResult → ℕ → List Bits16 → DecodingResult
with_f16 (result.F16 v) n ws = result.F16 (with_items_from v n ws)
with_f16 r n ws = r

abbrev pub with_f32 : DecodingResult → ℕ → List Bits32 → DecodingResult
with_f32 (result.F32 v) n ws = result.F32 (with_items_from v n ws)
with_f32 r n ws = r

abbrev pub with_f64 : DecodingResult → ℕ → List Bits64 → DecodingResult
with_f64 (result.F64 v) n ws = result.F64 (with_items_from v n ws)
with_f64 r n ws = r

abbrev pub with_i8 : DecodingResult → ℕ → List ℤ → DecodingResult
with_i8 (result.I8 v) n ws = result.I8 (with_items_from v n ws)
with_i8 r n ws = r

abbrev pub with_i16 : DecodingResult → ℕ → List ℤ → DecodingResult
with_i16 (result.I16 v) n ws = result.I16 (with_items_from v n ws)
with_i16 r n ws = r

abbrev pub with_i32 : DecodingResult → ℕ → List ℤ → DecodingResult
with_i32 (result.I32 v) n ws = result.I32 (with_items_from v n ws)
with_i32 r n ws = r

abbrev pub with_i64 : DecodingResult → ℕ → List ℤ → DecodingResult
with_i64 (result.I64 v) n ws = result.I64 (with_items_from v n ws)
with_i64 r n ws = r

-- After the borrow ends, the result has its former samples before n, followed by those that were
-- written last.
abbrev pub lends_rest : MutBor DecodingResult → ℕ → DecodingBuffer → Fml
lends_rest r n (buffer.U8 s) =
    follows the_row (Array u8 0) r.ghost_name s.ghost_name (with_u8 r.now n)
lends_rest r n (buffer.U16 s) =
    follows the_row (Array u16 0) r.ghost_name s.ghost_name (with_u16 r.now n)
lends_rest r n (buffer.U32 s) =
    follows the_row (Array u32 0) r.ghost_name s.ghost_name (with_u32 r.now n)
lends_rest r n (buffer.U64 s) =
    follows the_row (Array u64 0) r.ghost_name s.ghost_name (with_u64 r.now n)
lends_rest r n (buffer.F16 s) =
    follows the_row (Array F16s 0) r.ghost_name s.ghost_name (with_f16 r.now n)
lends_rest r n (buffer.F32 s) =
    follows the_row (Array F32s 0) r.ghost_name s.ghost_name (with_f32 r.now n)
lends_rest r n (buffer.F64 s) =
    follows the_row (Array F64s 0) r.ghost_name s.ghost_name (with_f64 r.now n)
lends_rest r n (buffer.I8 s) =
    follows the_row (Array i8 0) r.ghost_name s.ghost_name (with_i8 r.now n)
lends_rest r n (buffer.I16 s) =
    follows the_row (Array i16 0) r.ghost_name s.ghost_name (with_i16 r.now n)
lends_rest r n (buffer.I32 s) =
    follows the_row (Array i32 0) r.ghost_name s.ghost_name (with_i32 r.now n)
lends_rest r n (buffer.I64 s) =
    follows the_row (Array i64 0) r.ghost_name s.ghost_name (with_i64 r.now n)
