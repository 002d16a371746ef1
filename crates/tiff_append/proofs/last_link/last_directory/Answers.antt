use Rattle.std.proofs.Common.{◌≡◌, List, ℕ, Ok, subst}
use Rattle.std.specs.Prelude.{IfSome, IsOk}
use Rattle.tiff_base.specs.declared.tags.ByteOrder.TheVariants.{LittleEndian}
use Rattle.tiff_ifd.specs.Chain.{chain, link_from}
use Rattle.tiff_append.specs.LastLink.{last_in}
use Rattle.tiff_append.proofs.LastLink.{ended, last_reads}
use Rattle.tiff_append.proofs.last_link.last_directory.Goals as goal

pub returns-clause-answer : goal.returns-clause-answer
returns-clause-answer c =
    let bytes : List ℕ = c.new.result.items.now in
    let here =
    ended c.args.kind bytes c.args.first c.in_ok-walk.walk c.last.result c.in_ok-walk.ensures.ends c.last.ensures in
    let Told : List ℕ → Type 0 =
    λ b. last_in (chain c.args.kind LittleEndian b c.args.first) ≡ Ok c.last.result in
    subst Told c.new.ensures here

pub returns-clause-reads : goal.returns-clause-reads
returns-clause-reads c =
    let bytes : List ℕ = c.new.result.items.now in
    let here =
    last_reads c.args.kind bytes c.args.first c.in_ok-walk.walk c.last.result c.in_ok-walk.ensures.begins c.last.ensures in
    let Reads : List ℕ → Type 0 =
    λ b. IfSome c.last.result (λ p. IsOk (link_from c.args.kind LittleEndian b p)) in
    subst Reads c.new.ensures here
