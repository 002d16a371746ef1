-- The compression method of each compressor.
use Rattle.tiff_base.specs.declared.tags.CompressionMethod.{CompressionMethod}
use Rattle.tiff_base.specs.declared.tags.CompressionMethod.TheVariants as method
use Rattle.tiff_value.specs.declared.encoder.compression.Compressor.{Compressor}
use Rattle.tiff_value.specs.declared.encoder.compression.Compressor.TheVariants as compressor

abbrev pub compressor_method : Compressor → CompressionMethod
compressor_method (compressor.Uncompressed algorithm) = method.None
compressor_method (compressor.Packbits algorithm) = method.PackBits
