use Rattle.std.proofs.Common.{◌+◌, ◌*◌, refl, ap, ◌∙◌, arith}
use Rattle.std.proofs.Math.Nat.{mul_assoc}
use Rattle.tiff_encode.specs.Chunks.{image_page, row_samples}
use Rattle.tiff_encode.specs.lemmas.Data.Offsets.{next_strip}
use Rattle.tiff_encode.proofs.encoder.image.state.ImageState.next_range.Goals as goal

pub overflow_mul-start : goal.overflow_mul-start
overflow_mul-start g c =
    let strip = next_strip _ c.args.self.now c.self.view_is c.self.invariant c.requires.order c.requires.left c.args.written c.requires.known c.requires.fits _ _ _ c.from.ensures refl refl in
    omega (arith, strip.0)

pub overflow_mul-start-2 : goal.overflow_mul-start-2
overflow_mul-start-2 g c =
    let strip = next_strip _ c.args.self.now c.self.view_is c.self.invariant c.requires.order c.requires.left c.args.written c.requires.known c.requires.fits _ _ _ c.from.ensures c.row_samples.ensures.count refl in
    omega (arith, strip.1.1, c.requires.fits)

pub overflow_add-result : goal.overflow_add-result
overflow_add-result g c =
    let strip = next_strip _ c.args.self.now c.self.view_is c.self.invariant c.requires.order c.requires.left c.args.written c.requires.known c.requires.fits _ _ _ c.from.ensures c.row_samples.ensures.count c.next_samples.ensures in
    omega (arith, strip.1.1, c.requires.fits)

pub returns-clause-start : goal.returns-clause-start
returns-clause-start g c =
    let i = c.args.self.now in
    let h = c.from.ensures ∙ ap (λ i. i.form.chunk_height) c.self.view_is in
    (λ j. c.args.written * h j * c.row_samples.ensures.count j)
    ∙ mul_assoc c.args.written i.form.chunk_height (row_samples (image_page i))

pub returns-clause-end : goal.returns-clause-end
returns-clause-end g c =
    let strip = next_strip _ c.args.self.now c.self.view_is c.self.invariant c.requires.order c.requires.left c.args.written c.requires.known c.requires.fits _ _ _ c.from.ensures c.row_samples.ensures.count c.next_samples.ensures in
    ap (λ n. c.args.written * c.from.result * c.row_samples.result + n) strip.1.0

pub returns-clause-count : goal.returns-clause-count
returns-clause-count g c =
    (next_strip _ c.args.self.now c.self.view_is c.self.invariant c.requires.order c.requires.left c.args.written c.requires.known c.requires.fits _ _ _ c.from.ensures refl refl).1.0

pub returns-clause-within : goal.returns-clause-within
returns-clause-within g c =
    (next_strip _ c.args.self.now c.self.view_is c.self.invariant c.requires.order c.requires.left c.args.written c.requires.known c.requires.fits _ _ _ c.from.ensures c.row_samples.ensures.count c.next_samples.ensures).1.1
