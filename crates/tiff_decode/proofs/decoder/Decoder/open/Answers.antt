use Rattle.std.proofs.Common.{rules, ap, sym, ◌∙◌, Ok, None}
use Rattle.tiff_base.specs.Header.{Header}
use Rattle.tiff_base.specs.lemmas.Contents.{same_bytes}
use Rattle.tiff_decode.proofs.Opened.{opened_header, opened_unread}
use Rattle.tiff_decode.proofs.Refusing.{fails_from}
use Rattle.tiff_decode.proofs.decoder.Decoder.open.Goals as goal

pub returns-in_err-header-clause-answer : goal.returns-in_err-header-clause-answer
returns-in_err-header-clause-answer g c =
    let told =
    opened_unread _ _ (g.R.Source.contents c.args.source).bytes (g.R.Source.failures c.args.source) c.in_err-header.field-0.0
    (fails_from c.in_err-header.ensures.kept) c.in_err-header.ensures.answer in search rules

pub returns-clause-answer : goal.returns-clause-answer
returns-clause-answer g c =
    let header : Header =
    record { order = c.in_ok-header.header.order; kind = c.in_ok-header.header.kind; first = c.in_ok-header.header.first } in
    opened_header (g.R.Source.contents c.args.source).bytes (g.R.Source.failures c.args.source) header c.in_ok-header.ensures.answer
    ∙ (λ i. Ok (record {
      bytes = (same_bytes (sym c.in_ok-header.ensures.kept.contents)) i;
      readable = None;
      kind = c.in_ok-header.header.kind;
      order = c.in_ok-header.header.order;
      first = c.in_ok-header.header.first;
      failures = g.R.Source.failures c.args.source;
      state = record {
        pointer = (ap (λ s. s.pointer) (sym c.before_first.ensures)) i;
        more = (ap (λ s. s.more) (sym c.before_first.ensures)) i;
        page = (sym c.in_ok-no_page.ensures) i;
        directory = (sym c.empty.ensures) i;
        offset = (sym c.header_end.ensures) i;
        limits = (sym c.default.ensures) i;
      };
    }))
