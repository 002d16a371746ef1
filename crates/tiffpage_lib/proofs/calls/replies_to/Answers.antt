use Rattle.std.proofs.Common.{rules, ◌≡◌}
use Rattle.std.specs.Prelude.{None, Ok}
use Rattle.tiff_decode.specs.Outcome.{decoder_of}
use Rattle.tiffpage_lib.proofs.CallsMade.{replies_made}
use Rattle.tiffpage_lib.proofs.calls.replies_to.Goals as goal

pub returns : goal.returns
returns c =
    let opened : decoder_of c.args.file.items 0
    ≡ Ok (record c.in_ok-decoder.decoder { readable = None; failures = 0 }) = search rules in
    replies_made _ _ _ _ _ opened c.lines_of_calls.ensures
