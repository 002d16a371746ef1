-- The number of bytes of written values is their count times the size of their type.
use Rattle.std.proofs.Common.{◌+◌, ◌++◌, length, Result, refl, subst}
use Rattle.std.specs.Int.{w8, w16, w32, w64}
use Rattle.tiff_base.specs.declared.error.TiffError.{TiffError}
use Rattle.tiff_base.specs.declared.tags.«Type».TheVariants as t
use Rattle.tiff_base.specs.Tags.{method_number, interpretation_number, planar_number, predictor_number, unit_number, format_number, extra_number}
use Rattle.tiff_base.specs.Number.{le}
use Rattle.tiff_value.specs.Data.{FieldData, u8s, i8s, u16s, i16s, u32s, i32s, u64s, i64s, bits32s, bits64s, methods, interpretations, planars, predictors, units, formats, extras, ifds, ifd8s, rationals, srationals, signed_le, data_of, DataIsWhole, TextIsWhole}
use Rattle.tiff_value.specs.ValueLaws.{each_whole, text_value}
use Rattle.tiff_value.specs.Values.{IsValue}

pub data_is_whole : DataIsWhole
unfolding data_of
data_is_whole (u8s ns) = each_whole 1 (le 1) (λ n. refl) ns
data_is_whole (i8s ns) = each_whole 1 (signed_le w8) (λ n. refl) ns
data_is_whole (u16s ns) = each_whole 2 (le 2) (λ n. refl) ns
data_is_whole (i16s ns) = each_whole 2 (signed_le w16) (λ n. refl) ns
data_is_whole (u32s ns) = each_whole 4 (le 4) (λ n. refl) ns
data_is_whole (i32s ns) = each_whole 4 (signed_le w32) (λ n. refl) ns
data_is_whole (u64s ns) = each_whole 8 (le 8) (λ n. refl) ns
data_is_whole (i64s ns) = each_whole 8 (signed_le w64) (λ n. refl) ns
data_is_whole (bits32s ns) = each_whole 4 (le 4) (λ n. refl) ns
data_is_whole (bits64s ns) = each_whole 8 (le 8) (λ n. refl) ns
data_is_whole (methods ms) = each_whole 2 (λ m. le 2 (method_number m)) (λ m. refl) ms
data_is_whole (interpretations is) =
    each_whole 2 (λ i. le 2 (interpretation_number i)) (λ i. refl) is
data_is_whole (planars ps) = each_whole 2 (λ p. le 2 (planar_number p)) (λ p. refl) ps
data_is_whole (predictors ps) = each_whole 2 (λ p. le 2 (predictor_number p)) (λ p. refl) ps
data_is_whole (units us) = each_whole 2 (λ u. le 2 (unit_number u)) (λ u. refl) us
data_is_whole (formats fs) = each_whole 2 (λ f. le 2 (format_number f)) (λ f. refl) fs
data_is_whole (extras es) = each_whole 2 (λ e. le 2 (extra_number e)) (λ e. refl) es
data_is_whole (ifds ns) = each_whole 4 (le 4) (λ n. refl) ns
data_is_whole (ifd8s ns) = each_whole 8 (le 8) (λ n. refl) ns
data_is_whole (rationals rs) = each_whole 8 (λ r. le 4 r.0 ++ le 4 r.1) (λ r. refl) rs
data_is_whole (srationals rs) =
    each_whole 8 (λ r. signed_le w32 r.0 ++ signed_le w32 r.1) (λ r. refl) rs

pub text_is_whole : TextIsWhole
text_is_whole text d h =
    (subst (λ (g : Result FieldData TiffError). IsValue t.ASCII (length text
    + 1) g) h (text_value text)).2
