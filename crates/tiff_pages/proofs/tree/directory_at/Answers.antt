use Rattle.tiff_pages.proofs.Read.{read_answer}
use Rattle.tiff_pages.proofs.tree.directory_at.Goals as goal

pub returns-clause-shows : goal.returns-clause-shows
returns-clause-shows g c =
    (read_answer c.read_directory.result c.file_answer.result c.args.place c.args.decoder.now c.read_directory.new.self c.file_answer.ensures c.read_directory.ensures.follows).0

pub returns-clause-directory : goal.returns-clause-directory
returns-clause-directory g c =
    (read_answer c.read_directory.result c.file_answer.result c.args.place c.args.decoder.now c.read_directory.new.self c.file_answer.ensures c.read_directory.ensures.follows).1
