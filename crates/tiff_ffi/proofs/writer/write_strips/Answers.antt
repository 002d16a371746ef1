use Rattle.std.proofs.Common.{rules, ◌≡◌, ◌+◌, ◌<◌, ◌≤◌, List, length, map, take, refl, ap, sym, ◌∙◌, subst, arith}
use Rattle.std.specs.Prelude.{replicate}
use Rattle.tiff_base.specs.Types.{type_size}
use Rattle.tiff_value.specs.ColorType.{sample_number}
use Rattle.tiff_encode.specs.Chunks.{chunks_left, parts_left}
use Rattle.tiff_encode.proofs.Data.Written.{HasWritten}
use Rattle.tiff_ffi.specs.Zeros.{zeros_of}
use Rattle.tiff_ffi.proofs.FrameZeros.{no_zeros, more_zeros, all_zeros, zeros_taken}
use Rattle.tiff_ffi.proofs.writer.write_strips.Goals as goal
use Rattle.tiff_ffi.proofs.writer.write_strips.Goals.{In_ok-write_chunk}

pub strips-init : goal.strips-init
strips-init g c = record {
  reference = refl;
  written = no_zeros c.args.image.now.state c.requires c.args.image.now.encoder.now;
  within =
      (let none : length c.args.image.now.state.chunks ≡ 0 = ap (λ (cs : List _). length cs) c.requires.none in omega (arith, none));
  zeros = c.in_ok-zeros.ensures.zeros ∙ ap (λ n. replicate n 0) (sym c.in_ok-zeros.ensures.len);
}

-- A strip more of zeros is written.
one_more : (g : _) (c : In_ok-write_chunk g)
    → HasWritten c.args.image.now.state (parts_left c.args.image.now.state (zeros_of c.args.image.now.state)) (length c.write_chunk.new.self.state.chunks) c.args.image.now.encoder.now c.write_chunk.new.self.encoder.now c.write_chunk.new.self.state
    × ((length c.write_chunk.new.self.state.chunks ≡ length c.strips.image.state.chunks + 1)
    × (length c.strips.image.state.chunks + 1 ≤ chunks_left c.args.image.now.state))
one_more g c =
    let image = c.args.image.now in
    let now = c.strips.image in
    let sample = sample_number (type_size g.C.Inner.TiffValue.value_type) g.C.Inner.Sample.bits in
    let items = c.deref.result.now in
    let count = c.next_chunk_sample_count-count.result in
    let zeros : map sample items ≡ replicate (length items) 0 =
    subst (λ xs. map sample xs ≡ replicate (length xs) 0) (sym c.deref.ensures.value) c.strips.invariant.zeros in
    let fits : count ≤ length items = search rules in
    let pos : 0 < count =
    (let t = c.strips-test.true in let a = c.next_chunk_sample_count.ensures in let b =
    c.next_chunk_sample_count-count.ensures in omega (arith, t, a, b)) in
    more_zeros image.state c.requires image.encoder.now now.encoder.now now.state c.strips.invariant.written count (map sample (take count items)) c.write_chunk.new.self.encoder.now
    c.write_chunk.new.self.state _ c.next_chunk_sample_count-count.ensures pos
    (zeros_taken sample items count fits zeros) c.in_ok-write_chunk.ensures.answer

pub strips-smaller : goal.strips-smaller
strips-smaller g c =
    let more = one_more g (goal.at.strips-smaller g c).In_ok-write_chunk in
    omega (arith, more.1.0, more.1.1)

pub strips-preserved : goal.strips-preserved
strips-preserved g c =
    let more = one_more g (goal.at.strips-preserved g c).In_ok-write_chunk in
    record {
      reference = c.in_ok-write_chunk.ensures.same_reference ∙ c.strips.invariant.reference;
      written = more.0;
      within = omega (arith, more.1.0, more.1.1);
      zeros = c.strips.invariant.zeros;
    }

pub returns-clause-strips : goal.returns-clause-strips
returns-clause-strips g c =
    all_zeros c.args.image.now.state c.requires c.args.image.now.encoder.now c.strips.image.encoder.now c.strips.image.state c.strips.invariant.written
    (λ l. let t = c.strips-test.false in let e = c.next_chunk_sample_count.ensures in
    absurd (omega (arith, t, e, l))) c.strips.invariant.within
