use Rattle.std.proofs.Common.{ℕ, List, ◌≡◌, ◌*◌, ◌%◌, ◌^◌, MatchResult, arith, length, map, ap, subst, ◌∙◌}
use Rattle.std.proofs.lemmas.List.{length-map}
use Rattle.std.specs.List.{flat_map}
use Rattle.tiff_base.specs.Number.{le}
use Rattle.tiff_base.specs.Types.{type_size}
use Rattle.tiff_base.specs.declared.error.TiffError.{TiffError}
use Rattle.tiff_base.specs.declared.error.TiffError.TheVariants.{OutOfMemory}
use Rattle.tiff_value.specs.ColorType.{sample_number}
use Rattle.tiff_value.specs.Differences.{differences}
use Rattle.tiff_value.specs.Packed.{ArePackedRows}
use Rattle.tiff_encode.proofs.Storing.{whole_bytes, some_bytes, few_bytes, length_differences}
use Rattle.tiff_encode.proofs.encoder.image.chunks.ChunkScratch.pack_rows.Goals as goal

pub overflow_mul-row_bytes : goal.overflow_mul-row_bytes
overflow_mul-row_bytes g c =
    omega (arith, few_bytes g.T.TiffValue.value_type c.args.rows.row c.from.result (c.from.ensures ∙ c.type_and_len-kind.ensures.len) c.requires.few)

pub pack_chunk_rows-requires-clause-some : goal.pack_chunk_rows-requires-clause-some
pack_chunk_rows-requires-clause-some g c =
    some_bytes g.T.TiffValue.value_type c.args.rows.row c.from.result (c.from.ensures
    ∙ c.type_and_len-kind.ensures.len) (omega (arith, c.requires.stride.0, c.requires.stride.1))

pub pack_chunk_rows-requires-clause-whole : goal.pack_chunk_rows-requires-clause-whole
pack_chunk_rows-requires-clause-whole g c =
    let size = type_size g.T.TiffValue.value_type in
    let numbers = map (sample_number size g.T.Sample.bits) c.args.rows.samples.now in
    let kept = differences c.args.rows.predictor (256 ^ size) c.args.rows.row c.args.rows.stride numbers in
    let long =
    length_differences c.args.rows.predictor (256 ^ size) c.args.rows.row c.args.rows.stride numbers
    ∙ length-map c.args.rows.samples.now (sample_number size g.T.Sample.bits) in
    let whole = ap (λ n. n % c.args.rows.row) long ∙ c.requires.whole in
    ap (λ xs. length xs % (c.args.rows.row * c.from.result)) (c.deref.ensures.value
    ∙ c.in_ok-fill.ensures)
    ∙ ap (λ n. length (flat_map (le size) kept) % (c.args.rows.row * n)) (c.from.ensures
    ∙ c.type_and_len-kind.ensures.len)
    ∙ whole_bytes size c.args.rows.row kept whole

pub returns : goal.returns
returns g c =
    let size = type_size g.T.TiffValue.value_type in
    let kept =
    differences c.args.rows.predictor (256 ^ size) c.args.rows.row c.args.rows.stride
    (map (sample_number size g.T.Sample.bits) c.args.rows.samples.now) in
    let Packed : ℕ → List ℕ → Type 0 =
    λ n xs. MatchResult c.pack_chunk_rows.result (λ _. ArePackedRows (c.args.rows.row * n) xs c.pack_chunk_rows.new.out.items) (λ (e : TiffError). e ≡ OutOfMemory) in
    subst (λ n. Packed n (flat_map (le size) kept)) (c.from.ensures
    ∙ c.type_and_len-kind.ensures.len)
    (subst (λ xs. Packed c.from.result xs) (c.deref.ensures.value
    ∙ c.in_ok-fill.ensures) c.pack_chunk_rows.ensures)
