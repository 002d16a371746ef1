use Rattle.std.proofs.Common.{rules, Result, Ok, Err, ap, sym, ◌∙◌}
use Rattle.tiff_base.specs.declared.error.TiffError.{TiffError}
use Rattle.tiff_pages.specs.declared.pages.PageFacts.{PageFacts}
use Rattle.tiff_pages.proofs.Read.{fault, only_reads, shown}
use Rattle.tiff_pages.proofs.Shown.{err_again, ok_again, then_shows}
use Rattle.tiff_pages.proofs.tree.facts_at.Goals as goal

abbrev Facts : Type 0
Facts = Result PageFacts TiffError

abbrev told : PageFacts → Facts
told f = Ok f

pub facts_here-requires : goal.facts_here-requires
facts_here-requires g c =
    let s =
    shown c.show_directory.result c.in_ok-file_answer.field-0 c.in-Ok.field-0 c.args.place c.args.decoder.now c.show_directory.new.self c.in_ok-file_answer.ensures c.in-Ok.is
    c.show_directory.ensures.follows in
    s.page

pub returns-in_err-facts_here-in-Ok-clause-shows : goal.returns-in_err-facts_here-in-Ok-clause-shows
returns-in_err-facts_here-in-Ok-clause-shows g c =
    let s =
    shown c.show_directory.result c.in_ok-file_answer.field-0 c.in-Ok.field-0 c.args.place c.args.decoder.now c.show_directory.new.self c.in_ok-file_answer.ensures c.in-Ok.is
    c.show_directory.ensures.follows in
    let error : Facts = Err c.in_err-facts_here-in-Ok.field-0.0 in
    let refused =
    only_reads error c.show_directory.new.self c.facts_here.new.decoder c.in_err-facts_here-in-Ok.ensures.reads in
    let whole =
    err_again {Y = Facts} c.in_err-facts_here-in-Ok.field-0.0 c.args.decoder.now c.facts_here.new.decoder (then_shows tt error c.args.decoder.now c.show_directory.new.self c.facts_here.new.decoder s.shows refused) in
    search rules

pub returns-in_ok-facts_here-in-Ok-clause-shows : goal.returns-in_ok-facts_here-in-Ok-clause-shows
returns-in_ok-facts_here-in-Ok-clause-shows g c =
    let s =
    shown c.show_directory.result c.in_ok-file_answer.field-0 c.in-Ok.field-0 c.args.place c.args.decoder.now c.show_directory.new.self c.in_ok-file_answer.ensures c.in-Ok.is
    c.show_directory.ensures.follows in
    let read =
    only_reads (Ok c.in_ok-facts_here-in-Ok.field-0) c.show_directory.new.self c.facts_here.new.decoder c.in_ok-facts_here-in-Ok.ensures.reads in
    ok_again c.in_ok-facts_here-in-Ok.field-0 (Ok c.in_ok-facts_here-in-Ok.field-0) c.args.decoder.now c.facts_here.new.decoder
    (then_shows tt (Ok c.in_ok-facts_here-in-Ok.field-0) c.args.decoder.now c.show_directory.new.self c.facts_here.new.decoder s.shows read)

pub returns-in_ok-facts_here-in-Ok-clause-facts : goal.returns-in_ok-facts_here-in-Ok-clause-facts
returns-in_ok-facts_here-in-Ok-clause-facts g c =
    let s =
    shown c.show_directory.result c.in_ok-file_answer.field-0 c.in-Ok.field-0 c.args.place c.args.decoder.now c.show_directory.new.self c.in_ok-file_answer.ensures c.in-Ok.is
    c.show_directory.ensures.follows in
    ap told c.in_ok-facts_here-in-Ok.ensures.facts ∙ sym s.facts

pub returns-in-Err-clause-shows : goal.returns-in-Err-clause-shows
returns-in-Err-clause-shows g c =
    (fault c.show_directory.result c.in_ok-file_answer.field-0 c.in-Err.fault c.args.place c.args.decoder.now c.show_directory.new.self c.in_ok-file_answer.ensures c.in-Err.is
    c.show_directory.ensures.follows).0

pub returns-in-Err-clause-facts : goal.returns-in-Err-clause-facts
returns-in-Err-clause-facts g c =
    (fault c.show_directory.result c.in_ok-file_answer.field-0 c.in-Err.fault c.args.place c.args.decoder.now c.show_directory.new.self c.in_ok-file_answer.ensures c.in-Err.is
    c.show_directory.ensures.follows).1
