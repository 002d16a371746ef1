-- The bytes of a source in memory, of a source over a slice, and of a sink in memory, and what a
-- buffered source contains.
use Rattle.std.specs.Prelude.{ℕ, ◌-◌, List, map, option_map}
use Rattle.tiff_base.specs.SourceAndSink.{SourceRecord}
use Rattle.tiff_base.specs.declared.io.MemorySource.{MemorySource}
use Rattle.tiff_base.specs.declared.io.SliceSource.{SliceSource}
use Rattle.tiff_base.specs.declared.io.MemorySink.{MemorySink}

abbrev pub source_bytes : MemorySource → List ℕ
source_bytes s = s.items.items

abbrev pub slice_bytes : SliceSource → List ℕ
slice_bytes s = s.items.now

abbrev pub sink_bytes : MemorySink → List ℕ
sink_bytes s = s.items.items

-- a stretch without its last 8191 bytes
abbrev pub shortened : ℕ × ℕ → ℕ × ℕ
shortened s = (s.0, s.1 - 8191)

-- A buffered source asks its source for 8192 bytes at once. A byte of it is readable if the byte
-- and the 8191 bytes after it are in one readable stretch of its source.
abbrev pub buffered : SourceRecord → SourceRecord
buffered source =
    record { bytes = source.bytes; readable = option_map (map shortened) source.readable }
