-- Worked examples of the moves of decoders: opening, pages of a chain, and the offset.
use Rattle.std.specs.Prelude.{◌≡◌, ℕ, negsuc, List, [], ◌∷◌, Some, None, true, false, Ok, Err}
use Rattle.tiff_base.specs.declared.error.TiffError.TheVariants.{FormatError, IoError}
use Rattle.tiff_base.specs.declared.error.TiffFormatError.TheVariants.{TiffSignatureNotFound, ImageFileDirectoryNotFound, RequiredTagNotFound, CycleInOffsets, InconsistentSizesEncountered, InvalidTag}
use Rattle.tiff_base.specs.declared.io.IoKind.TheVariants.{UnexpectedEof}
use Rattle.tiff_base.specs.declared.tags.ByteOrder.TheVariants.{BigEndian}
use Rattle.tiff_base.specs.declared.tags.FileKind.TheVariants.{Big}
use Rattle.tiff_base.specs.declared.tags.Tag.TheVariants as tag
use Rattle.tiff_ifd.specs.Limits.{unlimited}
use Rattle.tiff_decode.specs.Outcome as outcome
use Rattle.tiff_decode.specs.Outcome.{decoder_of}
use Rattle.test_definitions.specs.Files.{gray_file}
use Rattle.test_definitions.specs.Decoders.{at, gray_state, gray_decoder, two_decoder, three_decoder, bytes_decoder}

-- ---- openings

-- mistake: `decoder_of` forgets failures
-- opening `gray_file`, with a source that failed three times before
abbrev pub gray_begins : Type 0
gray_begins = decoder_of gray_file 3 ≡ Ok (record gray_decoder { failures = 3 })

-- bytes that aren't a TIFF file
abbrev pub no_file : Type 0
no_file = decoder_of (0x58 ∷ 0x58 ∷ []) 0 ≡ Err (FormatError TiffSignatureNotFound)

-- mistake: `decoder_of` doesn't ask that the first directory is in the chain
-- a first directory that links to itself isn't entered
abbrev pub own_cycle : Type 0
own_cycle =
    decoder_of
    (0x49 ∷ 0x49 ∷ 0x2a ∷ 0x00 ∷ 0x08 ∷ 0x00 ∷ 0x00 ∷ 0x00 ∷ 0x00 ∷ 0x00 ∷ 0x08 ∷ 0x00 ∷ 0x00
    ∷ 0x00 ∷ []) 0
    ≡ Err (FormatError CycleInOffsets)

-- a first directory past the end
abbrev pub past_end : Type 0
past_end = decoder_of (0x49 ∷ 0x49 ∷ 0x2a ∷ 0x00 ∷ 0x09 ∷ 0x00 ∷ 0x00 ∷ 0x00 ∷ []) 0
    ≡ Err (IoError UnexpectedEof)

-- ---- the next page

-- mistake: `next_image` lets a decoder that isn't open go on
-- no next page: nothing moves
abbrev pub no_next : Type 0
no_next =
    outcome.next_image gray_decoder
    ≡ record { answer = Err (FormatError ImageFileDirectoryNotFound); next = gray_state }

-- mistake: `Decoding` doesn't move the pointer when a directory is entered (`seek_1` fails too)
-- a next directory without tags is entered, and the decoder keeps the former page
abbrev pub next_bare : Type 0
next_bare =
    outcome.next_image (two_decoder (0x00 ∷ 0x00 ∷ 0x00 ∷ 0x00 ∷ []))
    ≡ record {
      answer = Err (FormatError (RequiredTagNotFound tag.ImageWidth));
      next = record (two_decoder []).state { pointer = Some (at 199); more = false };
    }

-- mistake: `next_image` leaves the decoder open at an error of the chain
-- a next directory that links back to the first isn't entered: the decoder closes and keeps its
-- pointer
abbrev pub next_cycle : Type 0
next_cycle =
    outcome.next_image (two_decoder (0x19 ∷ 0x00 ∷ 0x00 ∷ 0x00 ∷ []))
    ≡ record {
      answer = Err (FormatError CycleInOffsets);
      next = record (two_decoder []).state { more = false };
    }

-- a next directory that is cut off isn't entered
abbrev pub next_cut : Type 0
next_cut =
    outcome.next_image (two_decoder (0x00 ∷ 0x00 ∷ 0x00 ∷ []))
    ≡ record {
      answer = Err (IoError UnexpectedEof);
      next = record (two_decoder []).state { more = false };
    }

-- ---- the page with a number

-- a page past the chain: an open decoder goes to the last directory and closes
abbrev pub seek_5 : Type 0
seek_5 =
    outcome.seek_to_image three_decoder 5
    ≡ record {
      answer = Err (FormatError ImageFileDirectoryNotFound);
      next = record three_decoder.state { pointer = Some (at 20); more = false };
    }

-- mistake: `seek_to_image` keeps the pointer of a decoder that isn't open, past the end
-- a page past the chain: a closed decoder loses its pointer
abbrev pub seek_5_again : Type 0
seek_5_again =
    outcome.seek_to_image
    (record three_decoder
    { state = record three_decoder.state { pointer = Some (at 20); more = false } }) 5
    ≡ record {
      answer = Err (FormatError ImageFileDirectoryNotFound);
      next = record three_decoder.state { pointer = None; more = false };
    }

-- a decoder without a pointer enters the second directory, which a third one follows
abbrev pub seek_1 : Type 0
seek_1 =
    outcome.seek_to_image
    (record three_decoder
    { state = record three_decoder.state { pointer = None; more = false } }) 1
    ≡ record {
      answer = Err (FormatError (RequiredTagNotFound tag.ImageWidth));
      next = record three_decoder.state { pointer = Some (at 14); more = true };
    }

-- a page past a chain that ends in a cycle: the error is the cycle
abbrev pub seek_cycle : Type 0
seek_cycle =
    outcome.seek_to_image (two_decoder (0x19 ∷ 0x00 ∷ 0x00 ∷ 0x00 ∷ [])) 1
    ≡ record {
      answer = Err (FormatError CycleInOffsets);
      next = record (two_decoder []).state { more = false };
    }

-- back to the first page of `gray_file`
abbrev pub seek_0 : Type 0
seek_0 =
    outcome.seek_to_image
    (record gray_decoder {
      state = record gray_state
          { pointer = None; page = record gray_state.page { width = 9 } };
    }) 0
    ≡ record { answer = Ok tt; next = gray_state }

-- ---- reads at the offset

abbrev pub long_8 : Type 0
long_8 = outcome.read_long gray_decoder
    ≡ record { answer = Ok 1; next = record gray_state { offset = 12 } }

abbrev pub byte_24 : Type 0
byte_24 =
    outcome.read_byte (bytes_decoder gray_file 24)
    ≡ record { answer = Ok 7; next = record gray_state { offset = 25 } }

-- mistake: `read_long` moves the offset at a refused read
-- a number that is cut off doesn't move the offset
abbrev pub long_cut : Type 0
long_cut =
    outcome.read_long (bytes_decoder gray_file 197)
    ≡ record { answer = Err (IoError UnexpectedEof); next = record gray_state { offset = 197 } }

abbrev pub short_end : Type 0
short_end =
    outcome.read_short (bytes_decoder gray_file 197)
    ≡ record { answer = Ok 0; next = record gray_state { offset = 199 } }

-- a decoder can go to any offset
abbrev pub gone : Type 0
gone = outcome.goto_offset gray_decoder 1000
    ≡ record { answer = Ok tt; next = record gray_state { offset = 1000 } }

abbrev pub byte_past : Type 0
byte_past =
    outcome.read_byte (bytes_decoder gray_file 1000)
    ≡ record { answer = Err (IoError UnexpectedEof); next = record gray_state { offset = 1000 } }

-- eight bytes for numbers of each width
abbrev pub eight : List ℕ
eight = 0xfe ∷ 0xff ∷ 0xff ∷ 0xff ∷ 0xff ∷ 0xff ∷ 0xff ∷ 0xff ∷ []

-- mistake: `read_sshort` takes the sign of the wrong width
abbrev pub sshort_read : Type 0
sshort_read =
    outcome.read_sshort (bytes_decoder eight 0)
    ≡ record { answer = Ok (negsuc 1); next = record gray_state { offset = 2 } }

abbrev pub sshort_cut : Type 0
sshort_cut =
    outcome.read_sshort (bytes_decoder eight 7) ≡ record {
      answer = Err (IoError UnexpectedEof);
      next = record gray_state { offset = 7 };
    }

abbrev pub slong_read : Type 0
slong_read =
    outcome.read_slong (bytes_decoder eight 0)
    ≡ record { answer = Ok (negsuc 1); next = record gray_state { offset = 4 } }

abbrev pub slong_cut : Type 0
slong_cut =
    outcome.read_slong (bytes_decoder eight 5) ≡ record {
      answer = Err (IoError UnexpectedEof);
      next = record gray_state { offset = 5 };
    }

-- mistake: `read_long8` reads 32 bits for 64
abbrev pub long8_read : Type 0
long8_read =
    outcome.read_long8 (bytes_decoder eight 0)
    ≡ record { answer = Ok 0xffff_ffff_ffff_fffe; next = record gray_state { offset = 8 } }

abbrev pub long8_cut : Type 0
long8_cut =
    outcome.read_long8 (bytes_decoder eight 1) ≡ record {
      answer = Err (IoError UnexpectedEof);
      next = record gray_state { offset = 1 };
    }

abbrev pub slong8_read : Type 0
slong8_read =
    outcome.read_slong8 (bytes_decoder eight 0)
    ≡ record { answer = Ok (negsuc 1); next = record gray_state { offset = 8 } }

abbrev pub slong8_cut : Type 0
slong8_cut =
    outcome.read_slong8 (bytes_decoder eight 1) ≡ record {
      answer = Err (IoError UnexpectedEof);
      next = record gray_state { offset = 1 };
    }

-- the bits of floating-point numbers
abbrev pub float_read : Type 0
float_read =
    outcome.read_float (bytes_decoder (0x00 ∷ 0x00 ∷ 0x80 ∷ 0x3f ∷ []) 0)
    ≡ record { answer = Ok 0x3f80_0000; next = record gray_state { offset = 4 } }

abbrev pub float_cut : Type 0
float_cut =
    outcome.read_float (bytes_decoder (0x00 ∷ 0x00 ∷ 0x80 ∷ []) 0)
    ≡ record { answer = Err (IoError UnexpectedEof); next = record gray_state { offset = 0 } }

abbrev pub double_read : Type 0
double_read =
    outcome.read_double
    (bytes_decoder (0x00 ∷ 0x00 ∷ 0x00 ∷ 0x00 ∷ 0x00 ∷ 0x00 ∷ 0xf0 ∷ 0x3f ∷ []) 0)
    ≡ record { answer = Ok 0x3ff0_0000_0000_0000; next = record gray_state { offset = 8 } }

abbrev pub double_cut : Type 0
double_cut =
    outcome.read_double (bytes_decoder (0x00 ∷ 0x00 ∷ 0x00 ∷ []) 0)
    ≡ record { answer = Err (IoError UnexpectedEof); next = record gray_state { offset = 0 } }

-- an offset has 4 bytes in a classic file and 8 in BigTIFF
abbrev pub ifd_offset_read : Type 0
ifd_offset_read =
    outcome.read_ifd_offset (bytes_decoder eight 0)
    ≡ record { answer = Ok 0xffff_fffe; next = record gray_state { offset = 4 } }

-- mistake: `read_ifd_offset` reads an offset of 4 bytes in BigTIFF
abbrev pub ifd_offset_big : Type 0
ifd_offset_big =
    outcome.read_ifd_offset (record (bytes_decoder eight 0) { kind = Big; order = BigEndian })
    ≡ record { answer = Ok 0xfeff_ffff_ffff_ffff; next = record gray_state { offset = 8 } }

-- the bytes of an offset as the file contains them; 4 bytes are too few in BigTIFF
abbrev pub offset_read : Type 0
offset_read =
    outcome.read_offset (record (bytes_decoder eight 0) { order = BigEndian })
    ≡ record {
      answer = Ok (0xfe ∷ 0xff ∷ 0xff ∷ 0xff ∷ []);
      next = record gray_state { offset = 4 };
    }

-- mistake: `read_offset` reads an offset of 4 bytes in BigTIFF
abbrev pub offset_big : Type 0
offset_big =
    outcome.read_offset (record (bytes_decoder eight 0) { kind = Big })
    ≡ record {
      answer = Err (FormatError InconsistentSizesEncountered);
      next = record gray_state { offset = 0 };
    }

abbrev pub offset_u64_read : Type 0
offset_u64_read =
    outcome.read_offset_u64 (bytes_decoder eight 0)
    ≡ record { answer = Ok eight; next = record gray_state { offset = 8 } }

abbrev pub offset_u64_cut : Type 0
offset_u64_cut =
    outcome.read_offset_u64 (bytes_decoder eight 1)
    ≡ record { answer = Err (IoError UnexpectedEof); next = record gray_state { offset = 1 } }

-- mistake: `read_string` neither cuts at a zero nor tests for UTF-8 (`string_wild` fails too)
-- a text ends before its first zero, and the offset moves past all its bytes
abbrev pub string_read : Type 0
string_read =
    outcome.read_string (bytes_decoder (0x41 ∷ 0x42 ∷ 0x00 ∷ 0xff ∷ []) 0) 4
    ≡ record { answer = Ok (0x41 ∷ 0x42 ∷ []); next = record gray_state { offset = 4 } }

-- a text that isn't UTF-8, and a text past the end
abbrev pub string_wild : Type 0
string_wild =
    outcome.read_string (bytes_decoder (0x41 ∷ 0xff ∷ []) 0) 2
    ≡ record { answer = Err (FormatError InvalidTag); next = record gray_state { offset = 0 } }

abbrev pub string_cut : Type 0
string_cut =
    outcome.read_string (bytes_decoder (0x41 ∷ 0xff ∷ []) 0) 3
    ≡ record { answer = Err (IoError UnexpectedEof); next = record gray_state { offset = 0 } }

-- a text without bytes can be read at every offset
abbrev pub string_none : Type 0
string_none =
    outcome.read_string (bytes_decoder (0x41 ∷ []) 9) 0
    ≡ record { answer = Ok []; next = record gray_state { offset = 9 } }

-- ---- settings of a decoder

-- mistake: `set_limits` doesn't keep the limits
abbrev pub limits_set : Type 0
limits_set =
    outcome.set_limits gray_decoder unlimited
    ≡ record { answer = Ok tt; next = record gray_state { limits = unlimited } }

abbrev pub limits_same : Type 0
limits_same =
    outcome.set_limits gray_decoder gray_state.limits ≡ record { answer = Ok tt; next = gray_state }

-- a decoder can go to the front of the file
abbrev pub gone_0 : Type 0
gone_0 = outcome.goto_offset gray_decoder 0
    ≡ record { answer = Ok tt; next = record gray_state { offset = 0 } }
