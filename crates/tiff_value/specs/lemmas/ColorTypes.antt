-- Each name is the name of a color type.
use Rattle.std.proofs.Common.{◌^◌, ◌<◌, inl, inr, refl, lit<}
use Rattle.tiff_base.specs.declared.tags.PhotometricInterpretation.TheVariants.{BlackIsZero}
use Rattle.tiff_base.specs.declared.tags.SampleFormat.TheVariants.{Uint}
use Rattle.tiff_base.specs.Types.{type_size}
use Rattle.tiff_value.specs.declared.encoder.colortype.ColorTypeName.TheVariants as n
use Rattle.tiff_value.specs.ColorLaws.{samples_alike, samples_packed}
use Rattle.tiff_value.specs.ColorTypes.{Family, Gray, meaning_of, count_of, format_of_type, family_and_type, color_type, inner_type, AreColorTypes}

-- a pixel of a family has samples, and no more than a count of two bytes can encode
some_samples : (f : Family) → 0 < count_of f
some_samples Gray = lit< tt
some_samples f = lit< tt

few_samples : (f : Family) → count_of f < 2 ^ 16
few_samples Gray = lit< tt
few_samples f = lit< tt

pub are_color_types : AreColorTypes
unfolding color_type inner_type
are_color_types n.Gray1 = samples_packed BlackIsZero 1 Uint (inl refl)
are_color_types n.Gray2 = samples_packed BlackIsZero 2 Uint (inr (inl refl))
are_color_types n.Gray4 = samples_packed BlackIsZero 4 Uint (inr (inr refl))
are_color_types name =
    let f : Family = (family_and_type name).0 in
    let inner = (family_and_type name).1 in
    samples_alike (meaning_of f) (count_of f) (type_size inner) (format_of_type inner)
    (some_samples f) (few_samples f)
