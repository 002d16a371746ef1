use Rattle.std.proofs.Common.{rules, ◌≡◌, ◌%◌, length, ◌∙◌, subst}
use Rattle.tiff_base.specs.Types.{type_size}
use Rattle.tiff_page.specs.Pixels.{numbers_in}
use Rattle.tiff_encode.specs.Given.{StoresBytes}
use Rattle.tiff_encode.proofs.StoredBytes.{some_also}
use Rattle.tiff_encode.proofs.encoder.image.state.ImageState.chunk_bytes.Goals as goal

pub returns-clause-storable : goal.returns-clause-storable
returns-clause-storable g c =
    let size = type_size g.T.TiffValue.value_type in
    let sized : c.from.result ≡ size = c.from.ensures ∙ c.type_and_len-kind.ensures.len in
    let plain : StoresBytes c.args.self.now = search rules in
    some_also c.lent.result (λ b. length b.now % c.from.result ≡ 0) (λ b. StoresBytes c.args.self.now
    × (length b.now % size ≡ 0)) (λ b h. (plain, subst (λ n. length b.now % n ≡ 0) sized h)) c.lent.ensures.whole

pub returns-clause-same : goal.returns-clause-same
returns-clause-same g c =
    let size = type_size g.T.TiffValue.value_type in
    let sized : c.from.result ≡ size = c.from.ensures ∙ c.type_and_len-kind.ensures.len in
    some_also c.lent.result (λ b. c.args.samples.now ≡ numbers_in c.from.result b.now) (λ b. c.args.samples.now
    ≡ numbers_in size b.now) (λ b h. subst (λ n. c.args.samples.now ≡ numbers_in n b.now) sized h) c.lent.ensures.numbers
