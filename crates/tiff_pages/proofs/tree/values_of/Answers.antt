use Rattle.tiff_decode.specs.Reader.{reader_of}
use Rattle.tiff_pages.proofs.Read.{values_told}
use Rattle.tiff_pages.proofs.tree.values_of.Goals as goal

pub returns-clause-values : goal.returns-clause-values
returns-clause-values g c =
    values_told _ _ (λ v. v.items) c.args.decoder.now _ c.args.directory.now c.args.tag c.get_tag_u64_vec.result c.file_answer.result
    (λ i. reader_of (c.read_directory_tags-tags.ensures.decoder i) (c.read_directory_tags-tags.ensures.other i)) c.file_answer.ensures c.get_tag_u64_vec.ensures.read.answer
