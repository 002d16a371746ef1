-- What a source contains, and what a sink takes.
use Rattle.std.specs.List.{list_any}
use Rattle.std.specs.Prelude.{◌≡◌, ℕ, Bool, true, ◌&&◌, ◌+◌, ◌-◌, ◌≤◌, ◌<◌, List, ◌++◌, length, take, drop, if◌then◌else◌, nat_le, nat_lt, slice_index, Option, None, Some, Result, Ok, Err}
use Rattle.tiff_base.specs.declared.error.TiffError.{TiffError}
use Rattle.tiff_base.specs.declared.error.TiffError.TheVariants.{IoError, OutOfMemory}
use Rattle.tiff_base.specs.declared.io.IoKind.TheVariants.{UnexpectedEof, Device}
use Rattle.tiff_base.specs.declared.io.SinkFault.{SinkFault}
use Rattle.tiff_base.specs.declared.io.SinkFault.TheVariants as fault

-- What a source contains: its bytes, and the stretches of them that are readable. A stretch is an
-- offset and a length. `None` says that all bytes are readable. None of this ever changes. A read
-- that asks only for readable bytes does not fail. The result of any other read is not specified.
pub record SourceRecord : Type 0 where
  pub bytes : List ℕ
  pub readable : Option (List (ℕ × ℕ))

-- whether the byte at offset k is in one of the stretches
unfoldable pub answers_for : Option (List (ℕ × ℕ)) → ℕ → Bool
answers_for None k = true
answers_for (Some stretches) k = list_any (λ s. nat_le s.0 k && nat_lt k (s.0 + s.1)) stretches

-- The `len` bytes from an offset on are readable.
abbrev pub AreReadable : SourceRecord → ℕ → ℕ → Type 0
AreReadable source at len = (k : ℕ) → at ≤ k → k < at + len → answers_for source.readable k ≡ true

-- the `len` bytes from an offset on, or fewer at the end
abbrev pub bytes_at : List ℕ → ℕ → ℕ → List ℕ
bytes_at bytes at len = take len (drop at bytes)

-- the `len` bytes at an offset, if there are so many; zero bytes exist at every offset
abbrev pub exactly_at : List ℕ → ℕ → ℕ → Result (List ℕ) TiffError
exactly_at bytes at len =
    if nat_le len (length bytes - at) then Ok (bytes_at bytes at len)
    else Err (IoError UnexpectedEof)

-- each number of the list is below 256
abbrev pub AreOctets : List ℕ → Type 0
AreOctets bytes = (k : ℕ) → slice_index bytes k < 256

-- A read at an offset puts n bytes into a buffer with contents `old`, which then has contents
-- `new`.
pub record Reads (bytes : List ℕ) (at : ℕ) (old : List ℕ) (n : ℕ) (new : List ℕ) : Type 0 where
  pub in_buffer : n ≤ length old
  pub in_bytes : n ≤ length bytes - at
  pub some : 0 < length old → at < length bytes → 0 < n
  pub next : new ≡ bytes_at bytes at n ++ drop n old

-- The `count` bytes from offset `from` on include the byte at offset `at`, if there is a byte at
-- `at`.
pub record HoldsByte (bytes : List ℕ) (from : ℕ) (count : ℕ) (at : ℕ) : Type 0 where
  pub before : from ≤ at
  pub behind : at < length bytes → at < from + count

-- A write at the end takes the first n bytes.
pub record Appends (old : List ℕ) (bytes : List ℕ) (n : ℕ) (new : List ℕ) : Type 0 where
  pub in_bytes : n ≤ length bytes
  pub some : 0 < length bytes → 0 < n
  pub next : new ≡ old ++ take n bytes

-- The result of a call that appends all bytes of a run at once, or does nothing: the bytes of the
-- sink, the number of its failed writes, and its last error, before the call and after it.
abbrev pub AppendsRun : List ℕ → List ℕ → ℕ → Option SinkFault → List ℕ → ℕ → Option SinkFault
    → Option (Result ℕ SinkFault) → Type 0
AppendsRun run old failed last new failed' last' None =
    (new ≡ old) × ((failed' ≡ failed) × (last' ≡ last))
AppendsRun run old failed last new failed' last' (Some (Ok n)) =
    (n ≡ length run) × ((new ≡ old ++ run) × ((failed' ≡ failed) × (last' ≡ None)))
AppendsRun run old failed last new failed' last' (Some (Err e)) =
    (new ≡ old) × ((failed' ≡ failed + 1) × (last' ≡ Some e))

-- the bytes, with the bytes from an offset on overwritten by others
abbrev pub put : List ℕ → ℕ → List ℕ → List ℕ
put bytes at over = take at bytes ++ (over ++ drop (at + length over) bytes)

-- A write at an offset takes the first n bytes.
pub record Overwrites (old : List ℕ) (at : ℕ) (bytes : List ℕ) (n : ℕ) (new : List ℕ) : Type 0 where
  pub in_bytes : n ≤ length bytes
  pub some : 0 < length bytes → 0 < n
  pub next : new ≡ put old at (take n bytes)

-- the error that a caller gets for the error of a sink
abbrev pub sink_error : SinkFault → TiffError
sink_error fault.Device = IoError Device
sink_error fault.OutOfMemory = OutOfMemory
