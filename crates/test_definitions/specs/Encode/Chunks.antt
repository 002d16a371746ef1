-- Worked examples of calls that write images.
use Rattle.std.specs.Prelude.{◌≡◌, ℕ, true, List, [], ◌∷◌, ◌++◌, length, take, drop, Some, None, Ok, Err}
use Rattle.tiff_base.specs.declared.error.TiffError.TheVariants.{FormatError, IoError, IntSizeError, UsageError}
use Rattle.tiff_base.specs.declared.error.TiffFormatError.TheVariants.{InvalidDimensions}
use Rattle.tiff_base.specs.declared.error.UsageError.TheVariants.{ReconfiguredAfterImageWrite, WriterFailed}
use Rattle.tiff_base.specs.declared.io.IoKind.TheVariants.{InvalidData, InvalidInput}
use Rattle.tiff_base.specs.declared.tags.CompressionMethod.TheVariants as method
use Rattle.tiff_base.specs.declared.tags.ExtraSamples.TheVariants.{Unspecified, AssociatedAlpha}
use Rattle.tiff_base.specs.declared.tags.FileKind.TheVariants.{Classic, Big}
use Rattle.tiff_base.specs.declared.tags.PhotometricInterpretation.TheVariants.{BlackIsZero, YCbCr}
use Rattle.tiff_base.specs.declared.tags.PlanarConfiguration.TheVariants.{Chunky}
use Rattle.tiff_base.specs.declared.tags.Predictor.TheVariants as predictor
use Rattle.tiff_base.specs.declared.tags.ResolutionUnit.TheVariants as unit
use Rattle.tiff_base.specs.declared.tags.SampleFormat.TheVariants.{Uint}
use Rattle.tiff_base.specs.declared.tags.Tag.TheVariants as tag
use Rattle.tiff_base.specs.Field.{Field}
use Rattle.tiff_value.specs.ColorType.{ColorTypeRecord}
use Rattle.tiff_value.specs.Data.{u16s, u32s, methods, predictors, interpretations, units, formats, rationals}
use Rattle.tiff_encode.specs.declared.encoder.settings.Compression.TheVariants.{Packbits, PackbitsRows}
use Rattle.tiff_value.specs.FileBytes.{header_bytes}
use Rattle.tiff_encode.specs.Machine.{FileState, OpenImage}
use Rattle.tiff_encode.specs.Calls as calls
use Rattle.tiff_encode.specs.Chunks.{parts_left}
use Rattle.tiff_encode.specs.Calls.{new_directory, image_in, with_chunk, strips_of}
use Rattle.tiff_encode.specs.Stored.{unpacked_chunk, AreStored}
use Rattle.test_definitions.specs.OneValue.{short_field, long_field, rational_field, one_to_one}
use Rattle.test_definitions.specs.Files.{gray_file}
use Rattle.test_definitions.specs.Encode.Causes.{new_file, failed_file, file_with, gray, rgb, pixel, written_pixel}
use Rattle.test_definitions.specs.Encode.Calls.{IsSeen, header, with_fields}

-- the fields that a new gray image of one pixel writes, the last one first, and the fields at its
-- end before them
abbrev pub first_fields : List (ℕ × Field)
first_fields =
    (296, short_field 1) ∷ (283, rational_field 16) ∷ (282, rational_field 8) ∷ (277, short_field 1)
    ∷ (278, long_field 1000000) ∷ (262, short_field 1) ∷ (317, short_field 1) ∷ (259, short_field 1)
    ∷ (257, long_field 1) ∷ (256, long_field 1) ∷ []

abbrev pub all_fields : List (ℕ × Field)
all_fields =
    (279, long_field 1) ∷ (273, long_field 24) ∷ (339, short_field 1) ∷ (258, short_field 8)
    ∷ first_fields

-- the open image whose directory has the first fields
abbrev pub new_pixel : OpenImage
new_pixel = record pixel { directory = with_fields (new_directory (Some 4) true) first_fields }

abbrev pub resolutions : List ℕ
resolutions = one_to_one ++ one_to_one

-- mistake: `write_tags` writes only the first tag
-- mistake: `new_image` forgets the tags
-- a new gray image appends both resolutions
abbrev pub gray_begun : Type 0
gray_begun =
    IsSeen (calls.new_image gray 1 1 1 (new_file Classic)) (Ok new_pixel) (header ++ resolutions)

-- a new gray image in BigTIFF has both resolutions in their entries
abbrev pub gray_begun_big : Type 0
gray_begun_big = (calls.new_image gray 1 1 1 (new_file Big)).next.bytes ≡ header_bytes Big

-- an image with a dimension of 0: nothing is written
abbrev pub no_side : Type 0
no_side =
    calls.new_image gray 1 0 5 (new_file Classic)
    ≡ record {
      answer = Err (FormatError (InvalidDimensions 0 5));
      ops = [];
      next = new_file Classic;
    }

-- mistake: `image_in` takes row bytes of one sample
-- the rows per strip for rows of 300 bytes, and for packed data, across rows or row by row
abbrev pub rows_300 : Type 0
rows_300 = (image_in (new_file Classic) (new_directory None true) rgb 1 100 100).form
    ≡ strips_of 100 3334 Chunky

-- mistake: `default_rows` takes packed for not packed
abbrev pub rows_packed : Type 0
rows_packed =
    (image_in (record (new_file Classic) { compression = Packbits }) (new_directory None true) rgb
    1 100 100).form ≡ strips_of 100 1 Chunky

-- mistake: `default_rows` takes what is packed row by row for not packed
abbrev pub rows_alone : Type 0
rows_alone =
    (image_in (record (new_file Classic) { compression = PackbitsRows }) (new_directory None true)
    rgb 1 100 100).form ≡ strips_of 100 1 Chunky

-- mistake: `first_tags` exchanges two
-- the tags of a new image, in this order; YCbCr has a subsampling tag
abbrev pub tags_gray : Type 0
tags_gray =
    calls.first_tags pixel
    ≡ (tag.ImageWidth, u32s (1 ∷ [])) ∷ (tag.ImageLength, u32s (1 ∷ []))
    ∷ (tag.Compression, methods (method.None ∷ []))
    ∷ (tag.Predictor, predictors (predictor.None ∷ []))
    ∷ (tag.PhotometricInterpretation, interpretations (BlackIsZero ∷ []))
    ∷ (tag.RowsPerStrip, u32s (1000000 ∷ [])) ∷ (tag.SamplesPerPixel, u16s (1 ∷ []))
    ∷ (tag.XResolution, rationals ((1, 1) ∷ [])) ∷ (tag.YResolution, rationals ((1, 1) ∷ []))
    ∷ (tag.ResolutionUnit, units (unit.None ∷ [])) ∷ []

-- mistake: `first_tags` writes no subsampling
abbrev pub tags_ycbcr : Type 0
tags_ycbcr =
    take 3 (drop 4
    (calls.first_tags
    (record pixel {
      color = record {
        interpretation = YCbCr;
        bits = 8 ∷ 8 ∷ 8 ∷ [];
        formats = Uint ∷ Uint ∷ Uint ∷ [];
      };
    })))
    ≡ (tag.PhotometricInterpretation, interpretations (YCbCr ∷ []))
    ∷ (tag.ChromaSubsampling, u16s (1 ∷ 1 ∷ []))
    ∷ (tag.RowsPerStrip, u32s (1000000 ∷ [])) ∷ []

-- mistake: `last_tags` takes lengths for offsets
-- the tags at an image's end; with an extra sample the samples per pixel are written again
abbrev pub tags_end : Type 0
tags_end =
    calls.last_tags Classic written_pixel
    ≡ (tag.BitsPerSample, u16s (8 ∷ [])) ∷ (tag.SampleFormat, formats (Uint ∷ []))
    ∷ (tag.StripOffsets, u32s (24 ∷ [])) ∷ (tag.StripByteCounts, u32s (1 ∷ [])) ∷ []

-- mistake: `last_tags` forgets the bits of extra samples
-- mistake: `last_tags` writes no tag again
abbrev pub tags_extra : Type 0
tags_extra =
    take 3 (calls.last_tags Big (record pixel { color = rgb; extra = Unspecified ∷ [] }))
    ≡ (tag.BitsPerSample, u16s (8 ∷ 8 ∷ 8 ∷ 8 ∷ [])) ∷ (tag.SamplesPerPixel, u16s (4 ∷ []))
    ∷ (tag.SampleFormat, formats (Uint ∷ Uint ∷ Uint ∷ Uint ∷ [])) ∷ []

-- mistake: `extra_samples` adds to the earlier list
-- extra samples replace earlier ones
abbrev pub extra_set : Type 0
extra_set =
    IsSeen (calls.extra_samples (record pixel { extra = AssociatedAlpha ∷ AssociatedAlpha ∷ [] })
    (Unspecified ∷ []) (new_file Classic))
    (Ok (record pixel {
      directory = with_fields (new_directory (Some 4) true) ((338, short_field 0) ∷ []);
      extra = Unspecified ∷ [];
    })) header

abbrev pub extra_late : Type 0
extra_late =
    IsSeen (calls.extra_samples written_pixel [] (new_file Classic))
    (Err (UsageError ReconfiguredAfterImageWrite)) header

-- mistake: `set_rows_per_strip` doesn't set the rows
-- explicit rows per strip
abbrev pub rows_set : Type 0
rows_set = IsSeen (calls.set_rows_per_strip pixel 2 (new_file Classic))
    (Ok (record pixel {
      directory = with_fields (new_directory (Some 4) true) ((278, long_field 2) ∷ []);
      form = strips_of 1 2 Chunky;
    })) header

abbrev pub rows_none : Type 0
rows_none =
    IsSeen (calls.set_rows_per_strip pixel 0 (new_file Classic)) (Err (IoError InvalidInput)) header

-- mistake: `resolution` doesn't change the directory
-- mistake: `resolution` has no y
-- the resolution unit and both resolutions, in this order
abbrev pub resolved : Type 0
resolved =
    IsSeen (calls.resolution pixel unit.Inch (300, 1) (new_file Classic))
    (Ok (record pixel {
      directory = with_fields (new_directory (Some 4) true)
          ((283, rational_field 16) ∷ (282, rational_field 8) ∷ (296, short_field 2) ∷ []);
    }))
    (header ++ (44 ∷ 1 ∷ 0 ∷ 0 ∷ 1 ∷ 0 ∷ 0 ∷ 0 ∷ 44 ∷ 1 ∷ 0 ∷ 0 ∷ 1 ∷ 0 ∷ 0 ∷ 0 ∷ []))

-- mistake: `resolution` doesn't test the offset
-- if the second resolution has no valid offset, nothing is written
abbrev pub unresolved : Type 0
unresolved = (bytes : List ℕ) → length bytes ≡ 4294967288
    → (calls.resolution pixel unit.Inch (300, 1) (file_with Classic bytes)).answer
    ≡ Err IntSizeError

-- mistake: `x_resolution` sets another tag
abbrev pub resolved_x : Type 0
resolved_x =
    IsSeen (calls.x_resolution pixel (2, 1) (new_file Classic))
    (Ok (record pixel {
      directory = with_fields (new_directory (Some 4) true)
          ((282, rational_field 8) ∷ []);
    }))
    (header ++ (2 ∷ 0 ∷ 0 ∷ 0 ∷ 1 ∷ 0 ∷ 0 ∷ 0 ∷ []))

-- mistake: `y_resolution` sets another tag
abbrev pub resolved_y : Type 0
resolved_y =
    IsSeen (calls.y_resolution pixel (2, 1) (new_file Classic))
    (Ok (record pixel {
      directory = with_fields (new_directory (Some 4) true)
          ((283, rational_field 8) ∷ []);
    }))
    (header ++ (2 ∷ 0 ∷ 0 ∷ 0 ∷ 1 ∷ 0 ∷ 0 ∷ 0 ∷ []))

abbrev pub stopped_x : Type 0
stopped_x =
    IsSeen (calls.x_resolution pixel (2, 1) failed_file) (Err (UsageError WriterFailed)) header

abbrev pub stopped_y : Type 0
stopped_y =
    IsSeen (calls.y_resolution pixel (2, 1) failed_file) (Err (UsageError WriterFailed)) header

-- mistake: `resolution_unit` sets None in every case
abbrev pub unit_set : Type 0
unit_set = IsSeen (calls.resolution_unit pixel unit.Centimeter (new_file Classic))
    (Ok (record pixel {
      directory = with_fields (new_directory (Some 4) true) ((296, short_field 3) ∷ []);
    })) header

abbrev pub unit_stopped : Type 0
unit_stopped =
    IsSeen (calls.resolution_unit pixel unit.Inch failed_file) (Err (UsageError WriterFailed))
    header

-- ---- strips

-- a strip with its bytes and its offset
abbrev pub strip_written : Type 0
strip_written =
    IsSeen (calls.write_strip pixel 1 (7 ∷ []) (file_with Classic (header ++ resolutions)))
    (Ok written_pixel) (header ++ resolutions ++ (7 ∷ []))

-- an empty strip after the last one changes nothing
abbrev pub strip_behind : Type 0
strip_behind =
    calls.write_strip written_pixel 0 [] (new_file Classic)
    ≡ record { answer = Err (IoError InvalidData); ops = []; next = new_file Classic }

-- two RGB pixels with an extra sample, as differences
abbrev pub two_pixels : OpenImage
two_pixels =
    record pixel {
      width = 2;
      color = rgb;
      extra = Unspecified ∷ [];
      predictor = predictor.Horizontal;
      form = strips_of 2 1 Chunky;
    }

-- mistake: `all_samples` leaves out the extra ones
-- mistake: `unpacked_chunk` takes 1 for the stride
abbrev pub differenced : Type 0
differenced =
    unpacked_chunk two_pixels (1 ∷ 2 ∷ 3 ∷ 9 ∷ 2 ∷ 4 ∷ 6 ∷ 9 ∷ [])
    ≡ (1 ∷ 2 ∷ 3 ∷ 9 ∷ 1 ∷ 2 ∷ 3 ∷ 0 ∷ [])

-- two rows of two 2-byte numbers: the differences begin anew in each row
abbrev pub two_rows : Type 0
two_rows =
    unpacked_chunk
    (record pixel {
      width = 2;
      size = 2;
      predictor = predictor.Horizontal;
      form = strips_of 2 2 Chunky;
    }) (258 ∷ 257 ∷ 5 ∷ 6 ∷ [])
    ≡ (2 ∷ 1 ∷ 0xff ∷ 0xff ∷ 5 ∷ 0 ∷ 1 ∷ 0 ∷ [])

abbrev pub not_differenced : Type 0
not_differenced = unpacked_chunk (record pixel { size = 4 }) (258 ∷ []) ≡ (2 ∷ 1 ∷ 0 ∷ 0 ∷ [])

-- two uncompressed strips, of two rows and of one row
abbrev pub two_strips : OpenImage
two_strips = record pixel { height = 3; form = strips_of 1 2 Chunky }

-- strips are taken from the front of the samples
abbrev pub strips_parted : Type 0
strips_parted = parts_left two_strips (1 ∷ 2 ∷ 3 ∷ 4 ∷ []) ≡ (1 ∷ 2 ∷ []) ∷ (3 ∷ []) ∷ []

-- mistake: `parts_left` counts from the image's first strip
-- after the first strip, the second is taken from the front of the samples
abbrev pub strips_after : Type 0
strips_after = parts_left (with_chunk two_strips 8 2) (1 ∷ 2 ∷ 3 ∷ []) ≡ (1 ∷ []) ∷ []

abbrev pub strips_stored : Type 0
strips_stored = AreStored two_strips ((1 ∷ 2 ∷ []) ∷ (3 ∷ []) ∷ []) ((1 ∷ 2 ∷ []) ∷ (3 ∷ []) ∷ [])

-- the first of two strips is stored alone
abbrev pub one_stored : Type 0
one_stored = AreStored two_strips ((1 ∷ 2 ∷ []) ∷ (3 ∷ []) ∷ []) ((1 ∷ 2 ∷ []) ∷ [])

-- mistake: `AreStored` has bytes for a chunk that isn't there
-- no bytes are stored for a strip that doesn't exist
abbrev pub none_stored : Type 0
none_stored = AreStored pixel ((7 ∷ []) ∷ []) ((7 ∷ []) ∷ [] ∷ []) → ⊥

-- mistake: `with_chunk` puts the chunk before the others
-- mistake: `write_chunks` takes the first for each
abbrev pub strips_taken : Type 0
strips_taken =
    IsSeen (calls.write_chunks two_strips ((1 ∷ 2 ∷ []) ∷ (3 ∷ []) ∷ [])
    ((1 ∷ 2 ∷ []) ∷ (3 ∷ []) ∷ []) (new_file Classic))
    (Ok (with_chunk (with_chunk two_strips 8 2) 10 1)) (header ++ (1 ∷ 2 ∷ 3 ∷ []))

-- ---- whole images

-- the end of the image of one pixel with its strip: the file of 199 bytes
abbrev pub pixel_in_file : OpenImage
pixel_in_file =
    record written_pixel { directory = with_fields (new_directory (Some 4) true) first_fields }

-- mistake: `finish_image` names no strips
abbrev pub pixel_finished : Type 0
pixel_finished =
    IsSeen (calls.finish_image pixel_in_file
    (file_with Classic (header ++ resolutions ++ (7 ∷ []))))
    (Ok (record { pointer = 25; link = 195 })) gray_file

abbrev pub pixel_stopped : Type 0
pixel_stopped =
    IsSeen (calls.finish_image pixel_in_file failed_file) (Err (UsageError WriterFailed)) header

-- the samples of the image of one pixel, and its end
abbrev pub pixel_data : Type 0
pixel_data =
    IsSeen (calls.write_image_data new_pixel (7 ∷ 8 ∷ []) ((7 ∷ []) ∷ [])
    (file_with Classic (header ++ resolutions)))
    (Ok (record { pointer = 25; link = 195 })) gray_file

-- mistake: `write_image_data` allows too few
-- too few samples: nothing more is written
abbrev pub pixel_few : Type 0
pixel_few =
    IsSeen (calls.write_image_data new_pixel [] [] (new_file Classic)) (Err (IoError InvalidData))
    header

-- mistake: `write_image` stores no strip
-- the whole image of one pixel
abbrev pub pixel_written : Type 0
pixel_written =
    IsSeen (calls.write_image gray 1 1 1 (7 ∷ []) ((7 ∷ []) ∷ []) (new_file Classic))
    (Ok (record { pointer = 25; link = 195 })) gray_file

abbrev pub pixel_chain : Type 0
pixel_chain = (calls.write_image gray 1 1 1 (7 ∷ []) ((7 ∷ []) ∷ []) (new_file Classic)).next.chain
    ≡ 195

-- an RGB image of 50 by 50 pixels with three samples: both resolutions stay in the file, unused
abbrev pub rgb_few : Type 0
rgb_few =
    IsSeen (calls.write_image rgb 1 50 50 (1 ∷ 2 ∷ 3 ∷ []) [] (new_file Classic))
    (Err (IoError InvalidData)) (header ++ resolutions)

-- after an image with too few samples, the strip of the next page is at 40
abbrev pub after_few : Type 0
after_few =
    (calls.write_image gray 1 1 1 (7 ∷ []) ((7 ∷ []) ∷ [])
    (file_with Classic (header ++ resolutions))).answer
    ≡ Ok (record { pointer = 41; link = 211 })

-- a packed gray image of 4 by 2 pixels: two strips, with lists of offsets and byte counts
abbrev pub packed_file : FileState
packed_file = calls.with_compression Packbits (new_file Classic)

abbrev pub packed_written : Type 0
packed_written =
    (calls.write_image gray 1 4 2 (1 ∷ 1 ∷ 1 ∷ 1 ∷ 2 ∷ 2 ∷ 2 ∷ 2 ∷ [])
    ((0xfd ∷ 1 ∷ []) ∷ (0xfd ∷ 2 ∷ []) ∷ []) packed_file).answer
    ≡ Ok (record { pointer = 44; link = 214 })

-- mistake: `appends_chunk` takes the count of samples for the stored length
abbrev pub packed_bytes : Type 0
packed_bytes =
    take 20 (drop 24
    (calls.write_image gray 1 4 2 (1 ∷ 1 ∷ 1 ∷ 1 ∷ 2 ∷ 2 ∷ 2 ∷ 2 ∷ [])
    ((0xfd ∷ 1 ∷ []) ∷ (0xfd ∷ 2 ∷ []) ∷ []) packed_file).next.bytes)
    ≡ (0xfd ∷ 1 ∷ 0xfd ∷ 2 ∷ 24 ∷ 0 ∷ 0 ∷ 0 ∷ 26 ∷ 0 ∷ 0 ∷ 0 ∷ 2 ∷ 0 ∷ 0 ∷ 0 ∷ 2 ∷ 0 ∷ 0 ∷ 0 ∷ [])

-- an image after a failed write
abbrev pub stopped_image : Type 0
stopped_image =
    IsSeen (calls.write_image gray 1 1 1 (7 ∷ []) [] failed_file) (Err (UsageError WriterFailed))
    header

-- the same page twice: the second is after a zero, and the first one links to it
abbrev pub page_file : FileState
page_file = record (new_file Classic) { bytes = gray_file; chain = 195 }

abbrev pub second_page : Type 0
second_page =
    (calls.write_image gray 1 1 1 (7 ∷ []) ((7 ∷ []) ∷ []) page_file).answer
    ≡ Ok (record { pointer = 217; link = 387 })

-- a page after a refused image: the resolutions of that image stay unused, and the first page links
-- to the page
abbrev pub third_page : Type 0
third_page =
    (calls.write_image gray 1 1 1 (7 ∷ []) ((7 ∷ []) ∷ [])
    (calls.write_image rgb 1 50 50 (1 ∷ 2 ∷ 3 ∷ []) [] page_file).next).answer
    ≡ Ok (record { pointer = 233; link = 403 })

abbrev pub third_link : Type 0
third_link =
    take 4 (drop 195 (calls.write_image gray 1 1 1 (7 ∷ []) ((7 ∷ []) ∷ [])
    (calls.write_image rgb 1 50 50 (1 ∷ 2 ∷ 3 ∷ []) [] page_file).next).next.bytes)
    ≡ (0xe9 ∷ 0 ∷ 0 ∷ 0 ∷ [])

-- a YCbCr image of one pixel: its lists of three values are after the strip
abbrev pub ycbcr : ColorTypeRecord
ycbcr = record { interpretation = YCbCr; bits = 8 ∷ 8 ∷ 8 ∷ []; formats = Uint ∷ Uint ∷ Uint ∷ [] }

abbrev pub ycbcr_written : Type 0
ycbcr_written =
    (calls.write_image ycbcr 1 1 1 (1 ∷ 2 ∷ 3 ∷ []) ((1 ∷ 2 ∷ 3 ∷ []) ∷ [])
    (new_file Classic)).answer ≡ Ok (record { pointer = 39; link = 221 })
