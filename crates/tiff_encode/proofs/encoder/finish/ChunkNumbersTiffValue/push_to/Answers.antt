use Rattle.std.proofs.Common.{map}
use Rattle.tiff_encode.specs.LastTags.{number_of_part}
use Rattle.tiff_encode.proofs.Endings.{offsets_pushed}
use Rattle.tiff_encode.proofs.encoder.finish.ChunkNumbersTiffValue.push_to.Goals as goal

pub returns-clause-answer : goal.returns-clause-answer
returns-clause-answer g c =
    offsets_pushed g.K.TiffKind.kind c.file_kind.result (map (number_of_part c.args.self.now.part) c.args.self.now.chunks.now)
    c.args.out.now.items c.push_offsets.new.out.items c.push_offsets.result c.file_kind.ensures c.push_offsets.ensures.answer
