use Rattle.std.proofs.Common.{rules, ◌-◌, ◌^◌, ◌<◌, List, ℕ, length, sym, subst, arith}
use Rattle.tiff_encode.specs.JobSamples.{held_numbers}
use Rattle.tiff_encode.specs.lemmas.JobSamples.{no_more}
use Rattle.tiff_encode.proofs.encoder.job_samples.JobSamples.are_few.Goals as goal

pub returns-in-Bytes : goal.returns-in-Bytes
returns-in-Bytes c =
    let P : List ℕ → Type 0 = λ xs. length xs < 2 ^ 64 - 1 in
    let bytes = c.in-Bytes.bytes.now in
    let bound : length bytes < 2 ^ 64 - 1 = search rules in
    let few = no_more c.in-Bytes._ty bytes in
    subst P c.self.view_is (subst (λ h. P (held_numbers h)) (sym c.in-Bytes.is) (omega (arith, bound, few)))
