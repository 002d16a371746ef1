use Rattle.std.proofs.Common.{◌≡◌, ℕ, ◌-◌, length, take, drop, arith}
use Rattle.tiff_encode.specs.Chunks.{chunk_samples, image_page}
use Rattle.tiff_encode.proofs.encoder.image.state.ImageState.slice_out.Goals as goal

pub returns-clause-part : goal.returns-clause-part
returns-clause-part g c =
    let i = c.args.self.now in
    let e = c.next_range-start.ensures in
    let n : ℕ = chunk_samples (image_page i) (length i.chunks) in
    let gap : c.next_range-start.result.1 - c.next_range-start.result.0 ≡ n = omega (arith, e.end) in
    λ j. take (gap j) (drop (e.start j) c.args.samples.now)
