use Rattle.std.proofs.Common.{ℕ, List, subst}
use Rattle.tiff_base.specs.Answers.{AnswersWithoutSource}
use Rattle.tiff_ffi.specs.Calls.{page_count}
use Rattle.tiff_ffi.proofs.Counting.{bytes_opened, opened_again}
use Rattle.tiff_ffi.proofs.calls.page_count.Goals as goal

pub count_pages-requires : goal.count_pages-requires
count_pages-requires c =
    opened_again c.walk_opens.ensures c.args.file.now c.in_ok-decoder.decoder c.in_ok-decoder.ensures

pub returns : goal.returns
returns c =
    let P : List ℕ → Type 0 =
    λ b. AnswersWithoutSource {X = ℕ} (λ n. n) c.count_pages.result (page_count b) in
    subst P (bytes_opened c.walk_opens.ensures c.args.file.now c.in_ok-decoder.decoder c.in_ok-decoder.ensures) c.count_pages.ensures
