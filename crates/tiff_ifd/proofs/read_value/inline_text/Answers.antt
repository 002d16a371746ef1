use Rattle.std.proofs.Common.{subst, ap, sym, ◌∙◌, Result, List, ℕ}
use Rattle.std.specs.Prelude.{if◌then◌else◌, Ok, Err}
use Rattle.std.specs.Str.{is_utf8}
use Rattle.tiff_base.specs.Sparing.{GivesSparingly}
use Rattle.tiff_base.specs.declared.error.TiffError.{TiffError}
use Rattle.tiff_base.specs.declared.error.TiffError.TheVariants.{FormatError}
use Rattle.tiff_base.specs.declared.error.TiffFormatError.TheVariants.{InvalidTag}
use Rattle.tiff_ifd.specs.PlainValue.{PlainValue}
use Rattle.tiff_ifd.specs.PlainValue as f
use Rattle.tiff_ifd.specs.View.{plain_value}
use Rattle.tiff_ifd.proofs.Texts.{inline_is_utf8}
use Rattle.tiff_ifd.proofs.read_value.inline_text.Goals as goal

pub returns : goal.returns
returns c =
    subst (λ (d : Result PlainValue TiffError). GivesSparingly plain_value c.text_from.result d)
    (ap (λ (bs : List ℕ). if is_utf8 bs then
    Ok (f.ascii bs) else Err (FormatError InvalidTag)) c.without_zeros.ensures ∙ inline_is_utf8 c.args.bytes.now (sym c.if-not-is_inline_text.ensures)) c.text_from.ensures
