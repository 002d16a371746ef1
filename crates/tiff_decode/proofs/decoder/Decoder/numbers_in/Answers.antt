use Rattle.std.proofs.Common.{arith}
use Rattle.std.proofs.lemmas.Grind.{common_steps}
use Rattle.std.proofs.lemmas.Result.{err_from_is_err_and}
use Rattle.tiff_base.specs.lemmas.Causes.{cause_along}
use Rattle.tiff_ifd.specs.TagLookup.{find}
use Rattle.tiff_ifd.specs.TagQueries.{find_unsigned_vec}
use Rattle.tiff_decode.specs.Outcome.{find_tag, find_tag_unsigned_vec}
use Rattle.tiff_decode.proofs.decoder.Decoder.numbers_in.Goals as goal

pub returns-in_err-value_in-clause-read : goal.returns-in_err-value_in-clause-read
unfolding find find_tag find_tag_unsigned_vec find_unsigned_vec
returns-in_err-value_in-clause-read g c =
    let answered = err_from_is_err_and c.from_residual.result c.from_residual.ensures.1 in
    let read = c.in_err-value_in.ensures.read in
    rw (answered.1, answered.2) (record {
      answer = cause_along c.in_err-value_in.field-0.0 (λ w. w) (λ f. f) (λ h. grind (arith, common_steps, h)) read.answer;
      state = read.state;
      failures = read.failures;
      swallowed = read.swallowed;
    })
