-- Worked examples of sources and sinks, and of values looked up in a directory.
use Rattle.std.specs.Prelude.{◌≡◌, ℕ, negsuc, List, [], ◌∷◌, None, Some, Ok, Err}
use Rattle.tiff_base.specs.declared.error.TiffError.TheVariants.{IoError, LimitsExceeded}
use Rattle.tiff_base.specs.declared.io.IoKind.TheVariants.{UnexpectedEof}
use Rattle.tiff_base.specs.declared.io.SinkFault.TheVariants.{Device, OutOfMemory}
use Rattle.tiff_base.specs.declared.tags.ByteOrder.TheVariants.{LittleEndian, BigEndian}
use Rattle.tiff_base.specs.declared.tags.FileKind.TheVariants.{Classic, Big}
use Rattle.tiff_base.specs.declared.tags.Tag.TheVariants as tag
use Rattle.tiff_base.specs.declared.tags.«Type».TheVariants.{BYTE, ASCII, SHORT, SBYTE}
use Rattle.tiff_base.specs.SourceAndSink.{SourceRecord, AreReadable, bytes_at, AreOctets, Reads, Appends, AppendsRun, Overwrites}
use Rattle.tiff_base.specs.Directory.{entry_of, last_of_each}
use Rattle.tiff_base.specs.Field.{Field}
use Rattle.tiff_base.specs.FieldBytes.{field_bytes}
use Rattle.tiff_base.specs.Memory.{buffered}
use Rattle.tiff_ifd.specs.declared.limits.Limits.{Limits}
use Rattle.tiff_ifd.specs.Limits.{unlimited}
use Rattle.tiff_ifd.specs.PlainValue.{none, more, list, short, signed_byte}
use Rattle.tiff_ifd.specs.FieldValue.{field_value}
use Rattle.tiff_ifd.specs.TagLookup.{look_in}
use Rattle.test_definitions.specs.Base.FieldBytes.{of}

-- BitsPerSample fields: one SHORT in the entry, and three SHORTs at offset 0
abbrev pub short_field : List (ℕ × Field)
short_field = (258, of SHORT 1 (0x00 ∷ 0x08 ∷ 0x00 ∷ 0x00 ∷ 0x00 ∷ 0x00 ∷ 0x00 ∷ 0x00 ∷ [])) ∷ []

abbrev pub shorts_field : List (ℕ × Field)
shorts_field = (258, of SHORT 3 (0x00 ∷ 0x00 ∷ 0x00 ∷ 0x00 ∷ 0x00 ∷ 0x00 ∷ 0x00 ∷ 0x00 ∷ [])) ∷ []

-- limits with this number of bytes for decoded values
abbrev pub limited : ℕ → Limits
limited n = record unlimited { decoding_buffer_size = n }

-- mistake: `bytes_at` takes as many bytes more as the offset is
-- two bytes of four
abbrev pub two_in_middle : Type 0
two_in_middle =
    bytes_at (0x0a ∷ 0x0b ∷ 0x0c ∷ 0x0d ∷ []) 1 2 ≡ (0x0b ∷ 0x0c ∷ [])

-- a read at 1 into two bytes may give two bytes, or one, and then keeps the rest of the buffer
abbrev pub read_two : Type 0
read_two =
    Reads (0x0a ∷ 0x0b ∷ 0x0c ∷ []) 1 (0x00 ∷ 0x00 ∷ []) 2 (0x0b ∷ 0x0c ∷ [])

abbrev pub read_one : Type 0
read_one =
    Reads (0x0a ∷ 0x0b ∷ 0x0c ∷ []) 1 (0x00 ∷ 0x00 ∷ []) 1 (0x0b ∷ 0x00 ∷ [])

-- mistake: `Reads` allows that no bytes are returned before the end
-- a read before the end must give at least one byte
abbrev pub read_none : Type 0
read_none =
    Reads (0x0a ∷ 0x0b ∷ 0x0c ∷ []) 1 (0x00 ∷ 0x00 ∷ []) 0 (0x00 ∷ 0x00 ∷ []) → ⊥

-- a read at the end gives no bytes
abbrev pub read_at_end : Type 0
read_at_end =
    Reads (0x0a ∷ 0x0b ∷ 0x0c ∷ []) 3 (0x00 ∷ 0x00 ∷ []) 0 (0x00 ∷ 0x00 ∷ [])

-- a read can't give more bytes than the source has
abbrev pub read_past_end : Type 0
read_past_end =
    Reads (0x0a ∷ 0x0b ∷ 0x0c ∷ []) 2 (0x00 ∷ 0x00 ∷ []) 2 (0x0c ∷ 0x00 ∷ []) → ⊥

-- a source with only its first six bytes readable
abbrev pub six : SourceRecord
six = record { bytes = 1 ∷ 2 ∷ 3 ∷ 4 ∷ 5 ∷ 6 ∷ 7 ∷ 8 ∷ []; readable = Some ((0, 6) ∷ []) }

-- the last two of six readable bytes are readable, and a third isn't
abbrev pub last_of_six : Type 0
last_of_six = AreReadable six 4 2

-- mistake: `AreReadable` asks for a byte more
abbrev pub one_more_than_six : Type 0
one_more_than_six = AreReadable six 4 3 → ⊥

-- mistake: `AreReadable` refuses to read no bytes
-- a stretch of zero bytes is readable in every source
abbrev pub nothing_readable : Type 0
nothing_readable = AreReadable six 9 0

-- a read doesn't give bytes of another offset
abbrev pub read_elsewhere : Type 0
read_elsewhere =
    Reads (0x0a ∷ 0x0b ∷ 0x0c ∷ []) 1 (0x00 ∷ 0x00 ∷ []) 1 (0x0a ∷ 0x00 ∷ []) → ⊥

-- a read into an empty buffer gives no bytes
abbrev pub read_into_none : Type 0
read_into_none =
    Reads (0x0a ∷ 0x0b ∷ 0x0c ∷ []) 1 [] 0 []

-- a list of bytes, and a list with a number that isn't a byte
abbrev pub octets : Type 0
octets =
    AreOctets (0x00 ∷ 0xff ∷ [])

-- mistake: `AreOctets` counts 256 as a byte
abbrev pub no_octets : Type 0
no_octets =
    AreOctets (0x100 ∷ []) → ⊥

-- a write at the end may take two bytes, or one
abbrev pub append_two : Type 0
append_two =
    Appends (0x0a ∷ []) (0x0b ∷ 0x0c ∷ []) 2 (0x0a ∷ 0x0b ∷ 0x0c ∷ [])

abbrev pub append_one : Type 0
append_one =
    Appends (0x0a ∷ []) (0x0b ∷ 0x0c ∷ []) 1 (0x0a ∷ 0x0b ∷ [])

-- mistake: `Appends` allows that no bytes are taken
-- a write at the end takes no bytes only if it is offered none
abbrev pub append_none : Type 0
append_none =
    Appends (0x0a ∷ []) (0x0b ∷ 0x0c ∷ []) 0 (0x0a ∷ []) → ⊥

abbrev pub append_nothing : Type 0
append_nothing =
    Appends (0x0a ∷ []) [] 0 (0x0a ∷ [])

abbrev pub append_too_many : Type 0
append_too_many =
    Appends (0x0a ∷ []) (0x0b ∷ []) 2 (0x0a ∷ 0x0b ∷ []) → ⊥

-- a run of two bytes is appended whole, and its number returned; the last error is gone
abbrev pub run_of_two : Type 0
run_of_two =
    AppendsRun (0x0b ∷ 0x0c ∷ []) (0x0a ∷ []) 1 (Some Device) (0x0a ∷ 0x0b ∷ 0x0c ∷ []) 1 None (Some (Ok 2))

-- mistake: `AppendsRun` allows a part of the bytes
-- it isn't appended in part
abbrev pub run_in_part : Type 0
run_in_part =
    AppendsRun (0x0b ∷ 0x0c ∷ []) (0x0a ∷ []) 1 None (0x0a ∷ 0x0b ∷ []) 1 None (Some (Ok 1)) → ⊥

-- mistake: `AppendsRun` doesn't count the error
-- an error appends nothing, is counted, and is the last one
abbrev pub run_failed : Type 0
run_failed =
    AppendsRun (0x0b ∷ 0x0c ∷ []) (0x0a ∷ []) 1 None (0x0a ∷ []) 2 (Some OutOfMemory) (Some (Err OutOfMemory))

-- mistake: `AppendsRun` appends before an error
abbrev pub run_half_failed : Type 0
run_half_failed =
    AppendsRun (0x0b ∷ 0x0c ∷ []) (0x0a ∷ []) 1 None (0x0a ∷ 0x0b ∷ []) 2 (Some Device) (Some (Err Device)) → ⊥

-- a sink that can't append a run does nothing
abbrev pub run_refused : Type 0
run_refused =
    AppendsRun (0x0b ∷ 0x0c ∷ []) (0x0a ∷ []) 1 (Some Device) (0x0a ∷ []) 1 (Some Device) None

-- mistake: `AppendsRun` appends and then returns `None`
abbrev pub run_refused_late : Type 0
run_refused_late =
    AppendsRun (0x0b ∷ 0x0c ∷ []) (0x0a ∷ []) 1 None (0x0a ∷ 0x0b ∷ 0x0c ∷ []) 1 None None → ⊥

-- mistake: `Overwrites` writes all bytes, whatever count was returned
-- a write at 1 may take one of two bytes, and keeps the rest of the file
abbrev pub over_one : Type 0
over_one =
    Overwrites (0x0a ∷ 0x0b ∷ 0x0c ∷ []) 1 (0xfe ∷ 0xff ∷ []) 1 (0x0a ∷ 0xfe ∷ 0x0c ∷ [])

abbrev pub over_two : Type 0
over_two =
    Overwrites (0x0a ∷ 0x0b ∷ 0x0c ∷ []) 1 (0xfe ∷ 0xff ∷ []) 2 (0x0a ∷ 0xfe ∷ 0xff ∷ [])

-- a write may reach past the end
abbrev pub over_end : Type 0
over_end =
    Overwrites (0x0a ∷ 0x0b ∷ 0x0c ∷ []) 2 (0xfe ∷ 0xff ∷ []) 2 (0x0a ∷ 0x0b ∷ 0xfe ∷ 0xff ∷ [])

-- a write must take at least one byte
abbrev pub over_none : Type 0
over_none =
    Overwrites (0x0a ∷ 0x0b ∷ 0x0c ∷ []) 1 (0xfe ∷ 0xff ∷ []) 0 (0x0a ∷ 0x0b ∷ 0x0c ∷ []) → ⊥

-- a write doesn't write at another offset
abbrev pub over_elsewhere : Type 0
over_elsewhere =
    Overwrites (0x0a ∷ 0x0b ∷ 0x0c ∷ []) 1 (0xfe ∷ 0xff ∷ []) 1 (0xfe ∷ 0x0b ∷ 0x0c ∷ []) → ⊥

-- a source with two readable bytes, and two more after a gap
abbrev pub apart : SourceRecord
apart = record six { readable = Some ((0, 2) ∷ (4, 2) ∷ []) }

-- mistake: `AreReadable` asks for the bytes before those too
-- mistake: `AreReadable` takes the first stretch alone
-- mistake: `AreReadable` takes a stretch's length for its end
-- two bytes after a gap are readable, and a byte within the gap isn't
abbrev pub second_stretch : Type 0
second_stretch = AreReadable apart 4 2

-- mistake: `AreReadable` counts the bytes between two stretches
abbrev pub within_gap : Type 0
within_gap = AreReadable apart 0 3 → ⊥

-- mistake: `AreReadable` takes an empty list of stretches for all bytes
-- in a source without readable stretches no byte is readable
abbrev pub no_stretch : Type 0
no_stretch = AreReadable (record six { readable = Some [] }) 0 1 → ⊥

-- in a source without limits on readable bytes every byte is readable, even past the end
abbrev pub everywhere : SourceRecord
everywhere = record six { readable = None }

-- mistake: `AreReadable` takes no list of stretches for no bytes
abbrev pub all_readable : Type 0
all_readable = (at len : ℕ) → AreReadable everywhere at len

-- a buffered source of 8200 readable bytes: its first nine bytes are readable, and a tenth isn't
abbrev pub long : SourceRecord
long = record six { readable = Some ((0, 8200) ∷ []) }

-- mistake: `buffered` leaves out 8192
-- mistake: `buffered` leaves out the first bytes instead of the last
abbrev pub nine_buffered : Type 0
nine_buffered = AreReadable (buffered long) 0 9

-- mistake: `buffered` leaves out 8190 bytes of a stretch
abbrev pub ten_buffered : Type 0
ten_buffered = AreReadable (buffered long) 0 10 → ⊥

-- mistake: `buffered` leaves out nothing
-- a buffered source with a second stretch that is too short: no byte of the stretch is readable
abbrev pub short_buffered : Type 0
short_buffered = AreReadable (buffered apart) 4 1 → ⊥

-- mistake: `buffered` lets no bytes be read of a source whose bytes can all be read
-- a buffered source over a source in which every byte is readable: every byte is readable
abbrev pub all_buffered : Type 0
all_buffered = (at len : ℕ) → AreReadable (buffered everywhere) at len

-- mistake: `item` reads an SBYTE, an SSHORT by the wrong width (`minus_two` of `Ifd/FieldValue`
--   fails too)
-- a signed byte in its entry
abbrev pub signed_byte_alone : Type 0
signed_byte_alone =
    field_value Classic LittleEndian [] unlimited
    (of SBYTE 1 (0xfe ∷ 0x00 ∷ 0x00 ∷ 0x00 ∷ 0x00 ∷ 0x00 ∷ 0x00 ∷ 0x00 ∷ []))
    ≡ Ok (signed_byte (negsuc 1))

-- mistake: `if_found` drops the value
-- a SHORT, looked up in a directory of a big-endian file
abbrev pub look_big_endian : Type 0
look_big_endian =
    (look_in Classic BigEndian [] unlimited (last_of_each short_field)).value tag.BitsPerSample
    ≡ Ok (Some (short 8))

-- mistake: `look_in` reads a file without bytes
-- a list at an offset, looked up in a directory
abbrev pub look_placed : Type 0
look_placed =
    (look_in Classic LittleEndian (0x08 ∷ 0x00 ∷ 0x08 ∷ 0x00 ∷ 0x08 ∷ 0x00 ∷ []) unlimited
    (last_of_each shorts_field)).value tag.BitsPerSample
    ≡ Ok (Some (list (more (short 8) (more (short 8) (more (short 8) none)))))

-- a list that exceeds a limit, looked up in a directory
abbrev pub look_limited : Type 0
look_limited =
    (look_in Classic LittleEndian (0x08 ∷ 0x00 ∷ 0x08 ∷ 0x00 ∷ 0x08 ∷ 0x00 ∷ []) (limited 95)
    (last_of_each shorts_field)).value tag.BitsPerSample
    ≡ Err LimitsExceeded

-- mistake: `field_offset` reads four bytes in both kinds of file
-- an offset of a BigTIFF file has eight bytes: this one is past the end
abbrev pub wide_offset : Type 0
wide_offset =
    field_bytes Big LittleEndian (0x01 ∷ 0x02 ∷ 0x03 ∷ 0x04 ∷ 0x05 ∷ 0x06 ∷ 0x07 ∷ 0x08 ∷ 0x09 ∷ [])
    (of BYTE 9 (0x00 ∷ 0x00 ∷ 0x00 ∷ 0x00 ∷ 0x01 ∷ 0x00 ∷ 0x00 ∷ 0x00 ∷ []))
    ≡ Err (IoError UnexpectedEof)

-- mistake: `offset_width` reads four bytes in BigTIFF
-- a count of a BigTIFF file has eight bytes
abbrev pub wide_count : Type 0
wide_count =
    entry_of Big LittleEndian
    (0x00 ∷ 0x01 ∷ 0x01 ∷ 0x00 ∷ 0x00 ∷ 0x00 ∷ 0x00 ∷ 0x00 ∷ 0x01 ∷ 0x00 ∷ 0x00 ∷ 0x00 ∷ 0x05
    ∷ 0x00 ∷ 0x00 ∷ 0x00 ∷ 0x00 ∷ 0x00 ∷ 0x00 ∷ 0x00 ∷ [])
    ≡ Some (256, of BYTE 4294967296 (0x05 ∷ 0x00 ∷ 0x00 ∷ 0x00 ∷ 0x00 ∷ 0x00 ∷ 0x00 ∷ 0x00 ∷ []))

-- mistake: `field_value` reads a field of no values by its type
-- a text without characters is an empty list, like other values
abbrev pub no_letters : Type 0
no_letters =
    field_value Classic LittleEndian [] unlimited
    (of ASCII 0 (0x41 ∷ 0x00 ∷ 0x00 ∷ 0x00 ∷ 0x00 ∷ 0x00 ∷ 0x00 ∷ 0x00 ∷ []))
    ≡ Ok (list none)
