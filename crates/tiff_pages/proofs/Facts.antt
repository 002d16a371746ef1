-- The facts of a page, as a decoder returns them.
use Rattle.std.proofs.Common.{◌≡◌, ℕ, ◌<◌, ◌≤◌, Option, None, Some, Result, Ok, Err, refl, ap, sym, ◌∙◌}
use Rattle.std.specs.Prelude.{option_map, unwrap_or}
use Rattle.tiff_base.specs.declared.error.TiffError.{TiffError}
use Rattle.tiff_base.specs.declared.tags.CompressionMethod.{CompressionMethod}
use Rattle.tiff_base.specs.declared.tags.Tag.TheVariants.{Compression}
use Rattle.tiff_base.specs.Answers.{◌>>=◌, Gives, IsCause}
use Rattle.tiff_base.specs.Tags.{method_of}
use Rattle.tiff_base.specs.lemmas.Causes.{cause_along}
use Rattle.tiff_ifd.specs.declared.value.Value.{Value}
use Rattle.tiff_ifd.specs.PlainValue.{PlainValue}
use Rattle.tiff_ifd.specs.Into.{into_u16}
use Rattle.tiff_ifd.specs.TagLookup.{find, if_found}
use Rattle.tiff_ifd.specs.View.{plain_value}
use Rattle.tiff_page.specs.Checks.{method_in}
use Rattle.tiff_decode.specs.Machine.{Decoding}
use Rattle.tiff_decode.specs.Outcome.{WantsTag, find_tag, page_tags}
use Rattle.tiff_decode.specs.Reader.{TagsRead}
use Rattle.tiff_laws.specs.Sides.{PageHasMethod}
use Rattle.tiff_pages.specs.Pages.{HasItsPage, OnlyReads}

abbrev Method : Type 0
Method = Result CompressionMethod TiffError

-- the method by the value of its tag
abbrev method_by : Result (Option PlainValue) TiffError → Method
method_by found =
    ((found >>= if_found into_u16) >>= λ n. Ok (unwrap_or n 1)) >>= λ n. Ok (method_of n)

method_told : (d : Decoding) → PageHasMethod → HasItsPage d
    → method_by (find_tag d Compression).answer ≡ Ok d.state.page.method
unfolding find_tag method_in find
method_told d law h = law (page_tags d) d.state.page h

-- A call only reads, and its error is not one of the file.
only_reads : {X : Type 0} (d new : Decoding) (e : TiffError)
    → new ≡ record d { failures = new.failures } → d.failures ≤ new.failures
    → IsCause (Unit {0}) (d.failures < new.failures) e ⊥ → OnlyReads {X = X} (Err e) d new
only_reads d new e kept grew c =
    record { stays = tt; file = record { stands = kept; failures = grew }; refused = c }

no_fault : (r : Result (Option PlainValue) TiffError) (m : CompressionMethod) (e : TiffError)
    → method_by r ≡ Ok m → r ≡ Err e → ⊥
no_fault r m e h k = (let a : method_by (Err e) ≡ Ok m = sym (ap method_by k) ∙ h in cc)

no_wrong : (r : Result (Option PlainValue) TiffError) (m : CompressionMethod) (v : PlainValue)
    (e : TiffError) → method_by r ≡ Ok m → r ≡ Ok (Some v) → into_u16 v ≡ Err e → ⊥
no_wrong r m v e h k w =
    (let a : method_by (Ok (Some v)) ≡ Ok m = sym (ap method_by k) ∙ h in let b : method_by (Ok (Some v)) ≡ Err e = rw w refl in cc)

module _ (law : PageHasMethod) (d new : Decoding) (h : HasItsPage d) where
  abbrev told : Result (Option PlainValue) TiffError
  told = (find_tag d Compression).answer

  abbrev is : method_by told ≡ Ok d.state.page.method
  is = method_told d law h

  -- The value of the tag Compression is refused only by the device or when memory is out.
  pub value_refused : {X : Type 0} (e : TiffError)
      → TagsRead {X = Option Value} (WantsTag d Compression) (option_map plain_value)
      (find_tag d Compression) (Err e) d new → OnlyReads {X = X} (Err e) d new
  value_refused e t =
      only_reads d new e t.state t.failures (cause_along e (λ w. tt) (λ f. f) (no_fault told d.state.page.method e is) t.answer)

  -- The number of the tag Compression is not refused.
  pub number_refused : {X : Type 0} (v : Value) (e : TiffError)
      → TagsRead {X = Option Value} (WantsTag d Compression) (option_map plain_value)
      (find_tag d Compression) (Ok (Some v)) d new
      → Gives {X = ℕ} (λ n. n) (Err e) (into_u16 (plain_value v)) → OnlyReads {X = X} (Err e) d new
  number_refused v e t g =
      only_reads d new e t.state t.failures (cause_along e (λ w. absurd w) (λ f. absurd f) (no_wrong told d.state.page.method (plain_value v) e is t.answer) g)

  -- The number of the tag Compression is that of the page's method.
  pub method_found : (v : Value) (n : ℕ)
      → TagsRead {X = Option Value} (WantsTag d Compression) (option_map plain_value)
      (find_tag d Compression) (Ok (Some v)) d new
      → Gives {X = ℕ} (λ n. n) (Ok n) (into_u16 (plain_value v)) → method_of n ≡ d.state.page.method
  method_found v n t g =
      let a : method_by (Ok (Some (plain_value v))) ≡ Ok d.state.page.method =
      sym (ap method_by t.answer) ∙ is in
      let b : method_by (Ok (Some (plain_value v))) ≡ Ok (method_of n) = rw g refl in cc

  pub method_default : TagsRead {X = Option Value} (WantsTag d Compression) (option_map plain_value)
      (find_tag d Compression) (Ok None) d new → method_of 1 ≡ d.state.page.method
  method_default t =
      (let a : method_by (Ok None) ≡ Ok d.state.page.method = sym (ap method_by t.answer) ∙ is in cc)
