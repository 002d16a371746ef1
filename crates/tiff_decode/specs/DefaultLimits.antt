-- The limits of a decoder that was just opened.
use Rattle.tiff_ifd.specs.declared.limits.Limits.{Limits}

-- the default limits: 256 MiB, 1 MiB and 128 MiB
abbrev pub default_limits : Limits
default_limits =
    record {
      decoding_buffer_size = 268435456;
      ifd_value_size = 1048576;
      intermediate_buffer_size = 134217728;
    }
