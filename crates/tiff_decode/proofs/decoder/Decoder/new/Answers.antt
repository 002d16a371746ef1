use Rattle.std.proofs.Common.{rules, ap, sym, ◌∙◌, arith, Ok, None, Some}
use Rattle.std.proofs.lemmas.Result.{err_from_is_err_and}
use Rattle.tiff_base.specs.Answers.{FailsFrom}
use Rattle.tiff_base.specs.lemmas.Contents.{same_bytes}
use Rattle.tiff_base.specs.Header.{Header}
use Rattle.tiff_page.specs.PageView as view
use Rattle.tiff_decode.proofs.Asked.{opened_page}
use Rattle.tiff_decode.proofs.Opening.{begun_unread, begun_unpaged, begun_page}
use Rattle.tiff_decode.proofs.Refusing.{fails_from}
use Rattle.tiff_decode.proofs.decoder.Decoder.new.Goals as goal

pub returns-in_err-header-clause-answer : goal.returns-in_err-header-clause-answer
returns-in_err-header-clause-answer g c =
    let told =
    begun_unread _ _ (g.R.Source.contents c.args.source).bytes (g.R.Source.failures c.args.source) c.in_err-header.field-0.0
    (fails_from c.in_err-header.ensures.kept) c.in_err-header.ensures.answer in search rules

pub returns-in_err-page-clause-answer : goal.returns-in_err-page-clause-answer
returns-in_err-page-clause-answer g c =
    let header : Header =
    record { order = c.in_ok-header.header.order; kind = c.in_ok-header.header.kind; first = c.in_ok-header.header.first } in
    let told =
    begun_unpaged _ _ (FailsFrom g.R.Source.contents g.R.Source.failures c.args.source)
    (g.R.Source.contents c.args.source).bytes _ _ (g.R.Source.failures c.args.source) header header.first c.in_ok-header.directory c.in_err-page.field-0.0
    (λ grew. record {
      last = c.read_page.new.tags.source;
      contents =
          ap (λ t. t.source) c.in_err-page.ensures.kept.contents
          ∙ c.in_ok-header.ensures.kept.contents;
      grew = omega (arith, c.in_ok-header.ensures.kept.failures, grew);
    })
    (same_bytes c.in_ok-header.ensures.kept.contents) c.default.ensures c.in_ok-header.ensures.answer c.in_err-page.ensures.answer in search rules

pub returns-clause-answer : goal.returns-clause-answer
returns-clause-answer g c =
    let header : Header =
    record { order = c.in_ok-header.header.order; kind = c.in_ok-header.header.kind; first = c.in_ok-header.header.first } in
    begun_page (g.R.Source.contents c.args.source).bytes _ _ _ header header.first c.in_ok-header.directory (view.page c.in_ok-page.page)
    (same_bytes c.in_ok-header.ensures.kept.contents) c.default.ensures c.in_ok-header.ensures.answer c.in_ok-page.ensures.answer
    ∙ (λ i. Ok (record {
      bytes =
          (same_bytes (sym c.in_ok-header.ensures.kept.contents
          ∙ ap (λ t. t.source) (sym c.in_ok-page.ensures.kept.contents))) i;
      readable = None;
      kind = (ap (λ t. t.kind) (sym c.in_ok-page.ensures.kept.contents)) i;
      order = (ap (λ t. t.order) (sym c.in_ok-page.ensures.kept.contents)) i;
      first = c.in_ok-header.header.first;
      failures = g.R.Source.failures c.args.source;
      state = record {
        pointer = Some (record { 0 = c.in_ok-header.header.first });
        more = (sym c.links_on-more.ensures) i;
        page = view.page c.in_ok-page.page;
        directory = (ap (λ t. t.directory) (sym c.in_ok-page.ensures.kept.contents)) i;
        offset = (sym c.header_end.ensures) i;
        limits =
            (sym c.default.ensures ∙ ap (λ t. t.limits) (sym c.in_ok-page.ensures.kept.contents)) i;
      };
    }))

pub returns-in_err-page-clause-asked : goal.returns-in_err-page-clause-asked
returns-in_err-page-clause-asked g c =
    let header : Header =
    record { order = c.in_ok-header.header.order; kind = c.in_ok-header.header.kind; first = c.in_ok-header.header.first } in
    let answered =
    err_from_is_err_and c.from_residual-in_err-page.result c.from_residual-in_err-page.ensures.1 in
    rw (answered.1, answered.2) (opened_page (g.R.Source.contents c.args.source) (g.R.Source.contents c.read_first_directory.new.source) header c.in_ok-header.directory c.in_err-page.field-0.0
    c.in_ok-header.ensures.kept.contents c.in_ok-header.ensures.answer c.in_err-page.ensures.asked)
