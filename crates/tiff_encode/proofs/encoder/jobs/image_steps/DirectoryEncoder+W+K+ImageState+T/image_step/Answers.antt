use Rattle.std.proofs.Common.{◌≡◌, true, Result, Ok, refl, ap, sym, subst, arith}
use Rattle.tiff_base.specs.declared.error.TiffError.{TiffError}
use Rattle.tiff_value.specs.declared.encoder.tiff_value.Rational.{Rational}
use Rattle.tiff_encode.specs.declared.encoder.script.ImageStep.{ImageStep}
use Rattle.tiff_encode.specs.declared.encoder.script.ImageStep.TheVariants as istep
use Rattle.tiff_encode.specs.declared.encoder.script.StepReply.{StepReply}
use Rattle.tiff_encode.specs.declared.encoder.script.StepReply.TheVariants as reply
use Rattle.tiff_encode.specs.Machine.{FileState, OpenImage}
use Rattle.tiff_encode.specs.ImageStepping.{ResolutionDraws, reply_to}
use Rattle.tiff_encode.specs.Jobs.{ImageStepped}
use Rattle.tiff_encode.specs.Stepping.{KeepsImage}
use Rattle.tiff_encode.proofs.Image.Steps.{CallDraws, asked, setting_draws}
use Rattle.tiff_encode.proofs.Image.StepsDirected.{directed}
use Rattle.tiff_encode.proofs.Image.Table.{Extra, Rows, Sides, Planes, Across, Down, Measure, call_of}
use Rattle.tiff_encode.proofs.encoder.jobs.image_steps.DirectoryEncoder+W+K+ImageState+T.image_step.Goals as goal

-- equal steps with equal replies do the same
so : {i j : OpenImage} {old new : FileState} {step one : ImageStep}
    {r said : Result StepReply TiffError} → step ≡ one → r ≡ said
    → KeepsImage i one said old new j → KeepsImage i step r old new j
so {i = i} {j = j} {old = old} {new = new} {one = one} {r = r} s q d =
    subst (λ x. KeepsImage i x r old new j) (sym s) (subst (λ y. KeepsImage i one y old new j) (sym q) d)

pub returns-in-Directory-clause-draws : goal.returns-in-Directory-clause-draws
returns-in-Directory-clause-draws g c =
    let old = c.args.self.now in
    let new = c.step.new.self in
    so c.in-Directory.is refl
    (directed old.state new.state c.in-Directory.step c.step.result old.encoder.now new.encoder.now c.step.ensures.rest c.step.ensures.moves)

pub returns-in-ExtraSamples-clause-draws : goal.returns-in-ExtraSamples-clause-draws
returns-in-ExtraSamples-clause-draws g c =
    let old = c.args.self.now in
    let new = c.extra_samples.new.self in
    let e = c.extra_samples.ensures in
    so c.in-ExtraSamples.is c.replied.ensures
    (subst (λ xs. CallDraws (call_of (Extra xs)) old.state (reply_to c.extra_samples.result) old.encoder.now new.encoder.now new.state) c.deref.ensures.value
    (setting_draws (Extra c.deref.result.now) old.state new.state c.extra_samples.result old.encoder.now new.encoder.now tt e.stays e.answer e.leaves))

pub returns-in-Tiles-clause-draws : goal.returns-in-Tiles-clause-draws
returns-in-Tiles-clause-draws g c =
    let old = c.args.self.now in
    let new = c.tiles.new.self in
    let e = c.tiles.ensures in
    so c.in-Tiles.is c.replied-in-Tiles.ensures (setting_draws (Sides c.in-Tiles.width c.in-Tiles.length) old.state new.state c.tiles.result old.encoder.now new.encoder.now (omega arith, omega arith) e.stays e.answer e.leaves)

pub returns-in-Planar-clause-draws : goal.returns-in-Planar-clause-draws
returns-in-Planar-clause-draws g c =
    let old = c.args.self.now in
    let new = c.planar.new.self in
    let e = c.planar.ensures in
    so c.in-Planar.is c.replied-in-Planar.ensures (setting_draws Planes old.state new.state c.planar.result old.encoder.now new.encoder.now tt e.stays e.answer e.leaves)

pub returns-in-NextStripSampleCount-clause-draws : goal.returns-in-NextStripSampleCount-clause-draws
returns-in-NextStripSampleCount-clause-draws g c =
    let r : Result StepReply TiffError = Ok (reply.Number c.next_strip_sample_count.result) in
    so c.in-NextStripSampleCount.is refl
    (asked c.args.self.now.state (λ s before t after. ImageStepped s before istep.NextStripSampleCount r t after) true c.args.self.now.encoder.now
    (λ s before. (ap (λ n. Ok (reply.Number n)) c.next_strip_sample_count.ensures, (refl, refl))))

pub returns-in-NextChunkSampleCount-clause-draws : goal.returns-in-NextChunkSampleCount-clause-draws
returns-in-NextChunkSampleCount-clause-draws g c =
    let r : Result StepReply TiffError = Ok (reply.Number c.next_chunk_sample_count.result) in
    so c.in-NextChunkSampleCount.is refl
    (asked c.args.self.now.state (λ s before t after. ImageStepped s before istep.NextChunkSampleCount r t after) true c.args.self.now.encoder.now
    (λ s before. (ap (λ n. Ok (reply.Number n)) c.next_chunk_sample_count.ensures, (refl, refl))))

pub returns-in-WriteStrip-clause-draws : goal.returns-in-WriteStrip-clause-draws
returns-in-WriteStrip-clause-draws g c = so c.in-WriteStrip.is refl c.strip_step.ensures.draws

pub returns-in-WriteChunk-clause-draws : goal.returns-in-WriteChunk-clause-draws
returns-in-WriteChunk-clause-draws g c = so c.in-WriteChunk.is refl c.chunk_step.ensures.draws

pub returns-in-Resolution-clause-draws : goal.returns-in-Resolution-clause-draws
returns-in-Resolution-clause-draws g c =
    let old = c.args.self.now in
    let new = c.resolution_step.new.self in
    so c.in-Resolution.is refl
    (subst (λ (v : Rational). ResolutionDraws old.state c.in-Resolution.unit (v.n, v.d) c.resolution_step.result old.encoder.now new.encoder.now new.state)
    c.copied.ensures c.resolution_step.ensures.draws)

pub returns-in-ResolutionUnit-clause-draws : goal.returns-in-ResolutionUnit-clause-draws
returns-in-ResolutionUnit-clause-draws g c =
    let old = c.args.self.now in
    let new = c.resolution_unit.new.self in
    let e = c.resolution_unit.ensures in
    so c.in-ResolutionUnit.is c.replied-in-ResolutionUnit.ensures
    (setting_draws (Measure c.in-ResolutionUnit.unit) old.state new.state c.resolution_unit.result old.encoder.now new.encoder.now tt e.stays e.answer e.leaves)

pub returns-in-XResolution-clause-draws : goal.returns-in-XResolution-clause-draws
returns-in-XResolution-clause-draws g c =
    let old = c.args.self.now in
    let new = c.x_resolution.new.self in
    let e = c.x_resolution.ensures in
    let one : Rational = c.copied-in-XResolution.result in
    so c.in-XResolution.is c.replied-in-XResolution.ensures
    (subst (λ (v : Rational). CallDraws (call_of (Across (v.n, v.d))) old.state (reply_to c.x_resolution.result) old.encoder.now new.encoder.now new.state) c.copied-in-XResolution.ensures
    (setting_draws (Across (one.n, one.d)) old.state new.state c.x_resolution.result old.encoder.now new.encoder.now tt e.stays e.answer e.leaves))

pub returns-in-YResolution-clause-draws : goal.returns-in-YResolution-clause-draws
returns-in-YResolution-clause-draws g c =
    let old = c.args.self.now in
    let new = c.y_resolution.new.self in
    let e = c.y_resolution.ensures in
    let one : Rational = c.copied-in-YResolution.result in
    so c.in-YResolution.is c.replied-in-YResolution.ensures
    (subst (λ (v : Rational). CallDraws (call_of (Down (v.n, v.d))) old.state (reply_to c.y_resolution.result) old.encoder.now new.encoder.now new.state) c.copied-in-YResolution.ensures
    (setting_draws (Down (one.n, one.d)) old.state new.state c.y_resolution.result old.encoder.now new.encoder.now tt e.stays e.answer e.leaves))

pub returns-in-RowsPerStrip-clause-draws : goal.returns-in-RowsPerStrip-clause-draws
returns-in-RowsPerStrip-clause-draws g c =
    let old = c.args.self.now in
    let new = c.rows_per_strip.new.self in
    let e = c.rows_per_strip.ensures in
    so c.in-RowsPerStrip.is c.replied-in-RowsPerStrip.ensures (setting_draws (Rows c.in-RowsPerStrip.rows) old.state new.state c.rows_per_strip.result old.encoder.now new.encoder.now (omega arith) e.stays e.answer e.leaves)
