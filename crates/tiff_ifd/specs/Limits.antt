-- The limits that allow everything.
use Rattle.tiff_ifd.specs.declared.limits.Limits.{Limits}

abbrev pub unlimited : Limits
unlimited =
    record {
      decoding_buffer_size = 0xFFFF_FFFF_FFFF_FFFF;
      ifd_value_size = 0xFFFF_FFFF_FFFF_FFFF;
      intermediate_buffer_size = 0xFFFF_FFFF_FFFF_FFFF;
    }
