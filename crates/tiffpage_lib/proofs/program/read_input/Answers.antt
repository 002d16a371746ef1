use Rattle.std.proofs.Common.{refl, string_bytes}
use Rattle.tiffpage_lib.proofs.Steps.{goes, stops_seen}
use Rattle.tiffpage_lib.proofs.program.read_input.Goals as goal

pub returns-in_err-bytes : goal.returns-in_err-bytes
returns-in_err-bytes g c =
    stops_seen _ _ string_bytes _ _ _ _ c.in_err-bytes.ensures c.from_residual.ensures.1

pub returns : goal.returns
returns g c = goes _ _ _ _ _ _ _ c.in_ok-bytes.ensures (c.text_of.ensures, refl)
