-- The worked examples of `Encode.Encoder` hold.
use Rattle.std.specs.Prelude.{refl}
use Rattle.std.proofs.Common.{[], ◌∷◌, Some, lit<}
use Rattle.tiff_base.specs.declared.io.SinkFault.TheVariants as fault
use Rattle.test_definitions.specs.Encode.FileBytes.{at_end}
use Rattle.test_definitions.specs.Encode.Encoder as s

pub header_cut : s.header_cut
header_cut = record {
  last = record at_end { bytes = 1 ∷ 2 ∷ 0x49 ∷ []; fault = Some fault.Device; failures = 1 };
  count = 1;
  within = lit< tt;
  bytes = refl;
  grew = refl;
  cause = fault.Device;
  tells = refl;
  answer = refl;
}

pub ruleset worked = (header_cut)
