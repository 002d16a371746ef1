-- The value of a required tag, and its conversion.
use Rattle.std.specs.Prelude.{◌≡◌, ℕ, List, Option, None, Some, Result, Ok, Err}
use Rattle.std.proofs.Common.{◌⊎◌, inr, ◌^◌, refl, ap, ◌∙◌}
use Rattle.tiff_base.specs.declared.error.TiffError.{TiffError}
use Rattle.tiff_base.specs.declared.error.TiffError.TheVariants.{FormatError}
use Rattle.tiff_base.specs.declared.error.TiffFormatError.TheVariants.{RequiredTagNotFound}
use Rattle.tiff_base.specs.declared.tags.Tag.{Tag}
use Rattle.tiff_base.specs.Answers.{AnswersBut, IsCause, NoneSwallowed, ◌>>=◌}
use Rattle.tiff_base.specs.Sparing.{IsFoundWithin}
use Rattle.tiff_base.specs.lemmas.Causes.{cause_along}
use Rattle.tiff_ifd.specs.PlainValue.{PlainValue}
use Rattle.tiff_ifd.specs.Fitted.{fitted_numbers}
use Rattle.tiff_ifd.specs.Into.{into_u64_vec}
use Rattle.tiff_ifd.specs.TagQueries.{find_unsigned_vec}
use Rattle.tiff_page.specs.lemmas.PassedChecks.{number_found, required_found}
use Rattle.tiff_decode.specs.Machine.{Decoding}
use Rattle.tiff_decode.specs.declared.ifd_decoder.IfdDecoder.{IfdDecoder}
use Rattle.tiff_decode.specs.Outcome.{find_tag_unsigned_vec, get_tag, page_tags, required_value, WantsTag}
use Rattle.tiff_decode.specs.Reader.{FirstUnfit, ReadsTags, TagsRead, reading}
use Rattle.tiff_ifd.specs.TagLookup.{TagLookup, if_found, find, ok_or_fault, require}

-- a value that is there is the required value
there : {A : Type 0} (fault : TiffError) (x : Result A TiffError)
    → ((x >>= λ y. Ok (Some y)) >>= λ found. ok_or_fault found fault) ≡ x
there fault (Ok y) = refl
there fault (Err e) = refl

-- a conversion of a required value is what the value converts to
by_value : {A : Type 0} (into : PlainValue → Result A TiffError) (fault : TiffError)
    (r : Result (Option PlainValue) TiffError)
    → ((r >>= if_found into) >>= λ found. ok_or_fault found fault)
    ≡ (((r >>= if_found (λ d. Ok d)) >>= λ found. ok_or_fault found fault) >>= into)
by_value into fault (Err e) = refl
by_value into fault (Ok None) = refl
by_value into fault (Ok (Some d)) = there fault (into d)

pub required_by : {A : Type 0} (into : PlainValue → Result A TiffError) (look : TagLookup) (tag : Tag)
    → require into look tag ≡ (require (λ d. Ok d) look tag >>= into)
unfolding require find
required_by into look tag = by_value into (FormatError (RequiredTagNotFound tag)) (look.value tag)

-- a required value that is not found is not converted
pub unconverted : {A : Type 0} (wanting failed : Type 0) (into : PlainValue → Result A TiffError)
    (look : TagLookup) (tag : Tag) (e : TiffError)
    → IsCause wanting failed e (require (λ d. Ok d) look tag ≡ Err e)
    → IsCause wanting failed e (require into look tag ≡ Err e)
unconverted wanting failed into look tag e c =
    cause_along e (λ w. w) (λ f. f) (λ h. required_by into look tag ∙ ap (λ r. r >>= into) h) c

-- a required value and its conversion, which is the call's
pub converted : {X Y : Type 0} (wanting failed : Type 0) (view : X → Y)
    (into : PlainValue → Result Y TiffError) (look : TagLookup) (tag : Tag) (value : PlainValue)
    (r : Result X TiffError) → require (λ d. Ok d) look tag ≡ Ok value
    → AnswersBut wanting ⊥ view r (into value)
    → AnswersBut (IsFoundWithin (look.value tag)) failed view r (require into look tag)
converted wanting failed view into look tag value (Ok x) found h =
    required_by into look tag ∙ ap (λ d. d >>= into) found ∙ h
converted wanting failed view into look tag value (Err e) found h =
    cause_along e (λ w. required_found (λ d. Ok d) look tag value found) (λ f. absurd f)
    (λ g. required_by into look tag ∙ ap (λ d. d >>= into) found ∙ g) h

-- no read failed, whether the conversion did
pub none_failed : {X : Type 0} (r : Result X TiffError) {before after : ℕ} → after ≡ before
    → NoneSwallowed r before after
none_failed (Ok x) h = h
none_failed (Err e) h = λ _. h

-- a call that reads a required value and converts it
pub converted_read : {V X Y : Type 0} (wanting : Type 0) (plain : V → PlainValue) (view : X → Y)
    (into : PlainValue → Result Y TiffError) (tag : Tag) (value : V) (r : Result X TiffError)
    (old new : Decoding) → TagsRead (WantsTag old tag) plain (get_tag old tag) (Ok value) old new
    → AnswersBut wanting ⊥ view r (into (plain value))
    → TagsRead (WantsTag old tag) view (required_value old into tag) r old new
unfolding get_tag
converted_read wanting plain view into tag value r old new read made = record {
  answer = converted wanting _ view into (page_tags old) tag (plain value) r read.answer made;
  state = read.state;
  failures = read.failures;
  swallowed = none_failed r read.swallowed;
}

-- the same of an `IfdDecoder`
pub converted_reading : {R V X Y : Type 0} (wanting : Type 0) (plain : V → PlainValue) (view : X → Y)
    (into : PlainValue → Result Y TiffError) (tag : Tag) (value : V) (r : Result X TiffError)
    (old new : IfdDecoder R)
    → ReadsTags (WantsTag (reading old) tag) plain (get_tag (reading old) tag) (Ok value) old new
    → AnswersBut wanting ⊥ view r (into (plain value))
    → ReadsTags (WantsTag (reading old) tag) view (required_value (reading old) into tag) r old new
unfolding get_tag
converted_reading wanting plain view into tag value r old new read made = record {
  answer =
      converted wanting _ view into (page_tags (reading old)) tag (plain value) r read.answer made;
  kept = record {
    held = read.kept.held;
    other = read.kept.other;
    swallowed = none_failed r read.kept.swallowed;
  };
}

-- ---- where memory is allocated

-- a required value that the call reads is found
pub value_found : (look : TagLookup) (tag : Tag) (d : PlainValue)
    → require (λ d. Ok d) look tag ≡ Ok d → IsFoundWithin (look.value tag)
value_found look tag d h = required_found (λ d. Ok d) look tag d h

found_before : {A B : Type 0} (r : Result (Option A) TiffError) (read : A → Result B TiffError)
    (y : B) → (r >>= if_found read) ≡ Ok (Some y) → (x : A) × (r ≡ Ok (Some x))
found_before (Ok (Some x)) read y h = (x, refl)
found_before (Ok None) read y h = absurd (cc)
found_before (Err e) read y h = absurd (cc)

-- numbers that the call finds belong to a tag that is found
pub numbers_found : (limit : ℕ) (look : TagLookup) (tag : Tag) (ns : List ℕ)
    → find_unsigned_vec limit look tag ≡ Ok (Some ns) → IsFoundWithin (look.value tag)
unfolding find_unsigned_vec
numbers_found limit look tag ns h =
    let numbers = found_before (find into_u64_vec look tag) (fitted_numbers tag limit) ns h in
    number_found into_u64_vec look tag numbers.0 numbers.1

-- the numbers of a tag that a decoder finds belong to a tag that it finds
wanted_by : (d : Decoding) (tag : Tag) (ns : List ℕ)
    → (find_tag_unsigned_vec d tag).answer ≡ Ok (Some ns) → WantsTag d tag
unfolding find_tag_unsigned_vec
wanted_by d tag ns h = numbers_found (2 ^ 64) (page_tags d) tag ns h

-- the first of the numbers that does not fit
pub unfit_found : {X E : Type 0} (gives : ℕ → Result X E → Type 0) (d : Decoding) (failed : Type 0)
    (tag : Tag) (ns : List ℕ) (e : TiffError)
    → (find_tag_unsigned_vec d tag).answer ≡ Ok (Some ns)
    → IsCause (Unit {0}) ⊥ e (FirstUnfit {X = X} gives tag ns e)
    → IsCause (WantsTag d tag) failed e
    (((find_tag_unsigned_vec d tag).answer ≡ Err e)
    ⊎ ((ns : List ℕ) × ((find_tag_unsigned_vec d tag).answer ≡ Ok (Some ns)) × FirstUnfit {X = X} gives tag ns e))
unfit_found gives d failed tag ns e h c =
    cause_along e (λ w. wanted_by d tag ns h) (λ f. absurd f) (λ u. inr (ns, h, u)) c
