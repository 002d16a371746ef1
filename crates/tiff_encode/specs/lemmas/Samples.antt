-- The numbers of samples, and their compression method.
use Rattle.std.proofs.Common.{◌≡◌, ℕ, zero, suc, ◌^◌, ◌<◌, ◌⊎◌, List, [], ◌∷◌, map, refl, inl, inr, arith, lit<}
use Rattle.std.proofs.Math.Nat.{mod-lt}
use Rattle.tiff_base.specs.declared.tags.CompressionMethod.TheVariants as method
use Rattle.tiff_value.specs.ColorType.{sample_number}
use Rattle.tiff_encode.specs.declared.encoder.settings.Compression.{Compression}
use Rattle.tiff_encode.specs.declared.encoder.settings.Compression.TheVariants.{Uncompressed, Packbits, PackbitsRows}
use Rattle.tiff_encode.specs.Machine.{compression_method}
use Rattle.tiff_encode.specs.ImageData.{AreNumbers}

-- a number of bytes has at least one value
pub some_bytes : (size : ℕ) → 0 < 256 ^ size
some_bytes zero = lit< tt
some_bytes (suc n) = let l = some_bytes n in omega (arith, l)

-- the numbers of samples fit their number of bytes
pub are_numbers : {A : Type 0} (size : ℕ) (bits : A → ℕ) (xs : List A)
    → AreNumbers size (map (sample_number size bits) xs)
are_numbers size bits [] n = some_bytes size
are_numbers size bits (x ∷ xs) zero = mod-lt (bits x) (some_bytes size)
are_numbers size bits (x ∷ xs) (suc n) = are_numbers size bits xs n

-- images have one of two compression methods
pub some_method : (c : Compression)
    → (compression_method c ≡ method.None) ⊎ (compression_method c ≡ method.PackBits)
some_method Uncompressed = inl refl
some_method Packbits = inr refl
some_method PackbitsRows = inr refl
