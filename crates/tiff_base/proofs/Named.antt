-- The numbers of the enums come back.
use Rattle.std.proofs.Common.{◌≡◌, ℕ, Bool, true, false, List, [], ◌∷◌, Option, Some, None, refl, ap, sym, ◌∙◌, subst}
use Rattle.std.specs.Prelude.{if◌then◌else◌, ◌==◌, unwrap_or}
use Rattle.std.proofs.lemmas.Bool.{eqb-true}
use Rattle.tiff_base.specs.declared.tags.Tag.{Tag}
use Rattle.tiff_base.specs.declared.tags.Tag.TheVariants as t
use Rattle.tiff_base.specs.declared.tags.«Type».{«Type»}
use Rattle.tiff_base.specs.declared.tags.«Type».TheVariants as y
use Rattle.tiff_base.specs.declared.tags.CompressionMethod.{CompressionMethod}
use Rattle.tiff_base.specs.declared.tags.CompressionMethod.TheVariants as m
use Rattle.tiff_base.specs.declared.tags.PhotometricInterpretation.{PhotometricInterpretation}
use Rattle.tiff_base.specs.declared.tags.PhotometricInterpretation.TheVariants as i
use Rattle.tiff_base.specs.declared.tags.PlanarConfiguration.{PlanarConfiguration}
use Rattle.tiff_base.specs.declared.tags.PlanarConfiguration.TheVariants as c
use Rattle.tiff_base.specs.declared.tags.Predictor.{Predictor}
use Rattle.tiff_base.specs.declared.tags.Predictor.TheVariants as p
use Rattle.tiff_base.specs.declared.tags.ResolutionUnit.{ResolutionUnit}
use Rattle.tiff_base.specs.declared.tags.ResolutionUnit.TheVariants as u
use Rattle.tiff_base.specs.declared.tags.SampleFormat.{SampleFormat}
use Rattle.tiff_base.specs.declared.tags.SampleFormat.TheVariants as f
use Rattle.tiff_base.specs.declared.tags.ExtraSamples.{ExtraSamples}
use Rattle.tiff_base.specs.declared.tags.ExtraSamples.TheVariants as e
use Rattle.tiff_base.specs.Tags.{find_by, tag_number, tag_of, named_tag, named_tags, type_number, type_of, method_number, method_of, named_method, named_methods, interpretation_number, interpretation_of, planar_number, planar_of, predictor_number, predictor_of, unit_number, unit_of, format_number, format_of, named_format, named_formats, extra_number, extra_of}
use Rattle.tiff_base.specs.Named.{NumbersComeBack, NamesComeBack}

abbrev is_none : {A : Type 0} → Option A → Type 0
is_none None = Unit {0}
is_none (Some x) = ⊥

none_some : {A : Type 0} (x : A) → None ≡ Some x → ⊥
none_some x h = (let P : Option _ → Type 0 = λ o. is_none o in subst P h tt)

module _ {A : Type 0} (number : A → ℕ) (n : ℕ) where
  -- a value that is found by a number has this number
  by_test : (b : Bool) (x : A) (other : Option A) (y : A) → (n == number x) ≡ b
      → (if b then Some x else other) ≡ Some y
      → (other ≡ Some y → number y ≡ n) → number y ≡ n
  by_test true x other y h e later =
      let same : x ≡ y = cc in
      ap number (sym same) ∙ sym (eqb-true n (number x) h)
  by_test false x other y h e later = later e

  found : (values : List A) (y : A) → find_by number n values ≡ Some y → number y ≡ n
  found [] y e = absurd (none_some y e)
  found (x ∷ rest) y e = by_test (n == number x) x (find_by number n rest) y refl e (found rest y)

  or_other : (o : Option A) (other : A) → ((y : A) → o ≡ Some y → number y ≡ n) → number other ≡ n
      → number (unwrap_or o other) ≡ n
  or_other (Some y) other h k = h y refl
  or_other None other h k = k

  comes_back : (values : List A) (other : A) → number other ≡ n
      → number (unwrap_or (find_by number n values) other) ≡ n
  comes_back values other = or_other (find_by number n values) other (found values)

pub tags : (n : ℕ) → tag_number (tag_of n) ≡ n
unfolding tag_of
tags n = comes_back tag_number n named_tags (t.Unknown n) refl

-- the tag that its own number names
pub tag_again : (n : ℕ) → tag_of n ≡ tag_of (tag_number (tag_of n))
tag_again n = ap tag_of (sym (tags n))

methods : (n : ℕ) → method_number (method_of n) ≡ n
unfolding method_of
methods n = comes_back method_number n named_methods (m.Unknown n) refl

formats : (n : ℕ) → format_number (format_of n) ≡ n
unfolding format_of
formats n = comes_back format_number n named_formats (f.Unknown n) refl

-- The equation for all other values holds of each of them by computing.
tags_named : (x named : Tag) → named_tag x ≡ Some named → named_tag (tag_of (tag_number x)) ≡ Some x
unfolding tag_of
tags_named (t.Unknown n) named h = absurd (none_some named h)
tags_named x named h = refl

types_named : (x : «Type») → type_of (type_number x) ≡ Some x
unfolding type_of
types_named y.BYTE = refl
types_named x = refl

methods_named : (x named : CompressionMethod) → named_method x ≡ Some named
    → named_method (method_of (method_number x)) ≡ Some x
unfolding method_of
methods_named (m.Unknown n) named h = absurd (none_some named h)
methods_named x named h = refl

interpretations_named : (x : PhotometricInterpretation)
    → interpretation_of (interpretation_number x) ≡ Some x
unfolding interpretation_of
interpretations_named i.WhiteIsZero = refl
interpretations_named x = refl

planars_named : (x : PlanarConfiguration) → planar_of (planar_number x) ≡ Some x
unfolding planar_of
planars_named c.Chunky = refl
planars_named x = refl

predictors_named : (x : Predictor) → predictor_of (predictor_number x) ≡ Some x
unfolding predictor_of
predictors_named p.None = refl
predictors_named x = refl

units_named : (x : ResolutionUnit) → unit_of (unit_number x) ≡ Some x
unfolding unit_of
units_named u.None = refl
units_named x = refl

formats_named : (x named : SampleFormat) → named_format x ≡ Some named
    → named_format (format_of (format_number x)) ≡ Some x
unfolding format_of
formats_named (f.Unknown n) named h = absurd (none_some named h)
formats_named x named h = refl

extras_named : (x : ExtraSamples) → extra_of (extra_number x) ≡ Some x
unfolding extra_of
extras_named e.Unspecified = refl
extras_named x = refl

pub numbers_come_back : NumbersComeBack
numbers_come_back = record { tags = tags; methods = methods; formats = formats }

pub names_come_back : NamesComeBack
names_come_back = record {
  tags = tags_named;
  types = types_named;
  methods = methods_named;
  interpretations = interpretations_named;
  planars = planars_named;
  predictors = predictors_named;
  units = units_named;
  formats = formats_named;
  extras = extras_named;
}
