use Rattle.tiff_ffi.proofs.Rewritten.{done_holds, refused_holds, status_shows, tells_done}
use Rattle.tiff_ffi.proofs.rewrite_chunk.Goals as goal

pub returns-clause-answer : goal.returns-clause-answer
returns-clause-answer c =
    tells_done c.rewrite_chunk.result _ c.unit_status.result c.rewrite_chunk.ensures.answer c.unit_status.ensures

pub returns-clause-rewritten : goal.returns-clause-rewritten
returns-clause-rewritten c =
    done_holds c.rewrite_chunk.result c.unit_status.result _ c.rewrite_chunk.ensures.rewritten c.unit_status.ensures

pub returns-clause-refused : goal.returns-clause-refused
returns-clause-refused c =
    refused_holds c.rewrite_chunk.result c.unit_status.result _ c.rewrite_chunk.ensures.refused c.unit_status.ensures

pub returns-clause-shows : goal.returns-clause-shows
returns-clause-shows c =
    status_shows c.args.file.now c.args.plan.now c.args.chunk c.args.samples.now c.args.stored.now c.rewrite_chunk.new.stored c.rewrite_chunk.result c.unit_status.result
    c.rewrite_chunk.ensures.answer c.rewrite_chunk.ensures.rewritten c.unit_status.ensures
