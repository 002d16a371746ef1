use Rattle.std.proofs.Common.{rules, ◌≡◌, ◌%◌, true, length}
use Rattle.tiff_base.specs.Types.{type_size}
use Rattle.tiff_encode.specs.Chunks.{is_in_order}
use Rattle.tiff_encode.specs.Given.{IsPlain, StoresBytes}
use Rattle.tiff_encode.proofs.StoredBytes.{some_also}
use Rattle.tiff_encode.proofs.encoder.image.state.ImageState.storable_bytes.Goals as goal

pub returns-clause-storable : goal.returns-clause-storable
returns-clause-storable g c =
    let size = type_size g.T.TiffValue.value_type in
    let i = c.args.self.now in
    let order : is_in_order i.form ≡ true = search rules in
    some_also c.chunk_bytes.result (λ b. StoresBytes i × (length b.now % size ≡ 0)) (λ b. IsPlain i
    × (length b.now % size ≡ 0)) (λ b h. (record { stores = h.0; order = order }, h.1)) c.chunk_bytes.ensures.storable
