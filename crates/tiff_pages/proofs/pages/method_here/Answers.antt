use Rattle.std.proofs.Common.{rules, ap, ◌∙◌}
use Rattle.tiff_base.specs.declared.tags.CompressionMethod.{CompressionMethod}
use Rattle.tiff_base.specs.Tags.{method_of}
use Rattle.tiff_pages.proofs.Facts.{method_default, method_found, number_refused, value_refused}
use Rattle.tiff_pages.proofs.pages.method_here.Goals as goal
use Rattle.tiff_pages.proofs.pages.method_here.Goals.{in-Some+in_ok-number-in-Some, in-None}

pub returns-in_err-value-clause-reads : goal.returns-in_err-value-clause-reads
returns-in_err-value-clause-reads g c =
    let refused =
    value_refused c.page_has_method.ensures c.args.decoder.now c.find_tag.new.self c.requires
    {X = CompressionMethod} c.in_err-value.field-0.0 c.in_err-value.ensures.read in search rules

pub returns-in_err-number-in-Some-clause-reads : goal.returns-in_err-number-in-Some-clause-reads
returns-in_err-number-in-Some-clause-reads g c =
    let refused =
    number_refused c.page_has_method.ensures c.args.decoder.now c.find_tag.new.self c.requires
    {X = CompressionMethod} c.in-Some.value c.in_err-number-in-Some.field-0.0
    (rw c.in-Some.is at c.in_ok-value.ensures.read) c.in_err-number-in-Some.ensures in search rules

pub returns-clause-method : goal.returns-clause-method
returns-clause-method g c =
    elim c.match-branch-2.branch [
      | in-Some+in_ok-number-in-Some w ↦ c.from_u16_exhaustive.ensures ∙ ap method_of w.number-is
          ∙ method_found c.page_has_method.ensures c.args.decoder.now c.find_tag.new.self c.requires w.in-Some.value _
          (rw w.in-Some.is at c.in_ok-value.ensures.read) w.in_ok-number-in-Some.ensures
      | in-None w ↦ c.from_u16_exhaustive.ensures ∙ ap method_of w.number-is
          ∙ method_default c.page_has_method.ensures c.args.decoder.now c.find_tag.new.self c.requires (rw w.in-None.is at c.in_ok-value.ensures.read)
    ]
