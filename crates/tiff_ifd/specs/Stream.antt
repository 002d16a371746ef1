-- A reader of numbers, and the numbers that it reads (TIFF 6.0 section 2).
use Rattle.std.specs.Prelude.{◌≡◌, ℕ, ◌+◌, ◌≤◌, Result, Ok, Err}
use Rattle.std.specs.Int.{Width, byte_len}
use Rattle.tiff_base.specs.declared.error.TiffError.{TiffError}
use Rattle.tiff_base.specs.declared.tags.ByteOrder.{ByteOrder}
use Rattle.tiff_base.specs.declared.tags.Bits32.{Bits32}
use Rattle.tiff_base.specs.declared.tags.Bits64.{Bits64}
use Rattle.tiff_base.specs.Answers.{AnswersWithoutMemory, NoneSwallowed, ◌>>=◌}
use Rattle.tiff_base.specs.Number.{number_at}
use Rattle.tiff_base.specs.SourceAndSink.{SourceRecord}

-- what the source contains, the number of failed reads so far, the byte order, and the offset of
-- the next number
pub record Reading : Type 0 where
  pub contents : SourceRecord
  pub failures : ℕ
  pub order : ByteOrder
  pub offset : ℕ

-- the offset after a read of `len` bytes; an error leaves the offset as it is
abbrev pub offset_behind : {X : Type 0} → Result X TiffError → ℕ → ℕ → ℕ
offset_behind (Ok x) len offset = offset + len
offset_behind (Err e) len offset = offset

-- The call reads the number of this width at the offset, and returns it as `as_number` converts it.
pub record NumberRead {X : Type 0} (w : Width) (as_number : ℕ → X) (result : Result X TiffError)
    (old new : Reading) : Type 0 where
  pub answer : AnswersWithoutMemory (λ x. x) result
      (number_at old.order w old.contents.bytes old.offset >>= λ n. Ok (as_number n)) old.failures
      new.failures
  pub stands : new
      ≡ record old {
        failures = new.failures;
        offset = offset_behind result (byte_len w) old.offset;
      }
  pub failures : old.failures ≤ new.failures
  pub swallowed : NoneSwallowed result old.failures new.failures

-- the floating-point number with these bits
abbrev pub of_bits_32 : ℕ → Bits32
of_bits_32 n = record { 0 = n }

abbrev pub of_bits_64 : ℕ → Bits64
of_bits_64 n = record { 0 = n }
