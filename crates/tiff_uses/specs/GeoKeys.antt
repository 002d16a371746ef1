-- Geographic keys (GeoTIFF 1.0). The directory of the keys begins with four numbers, of which the
-- last is how many keys there are. Four numbers follow for each key: its number, where its values
-- stand (0: the one value is in the entry itself), how many they are, and the value.
use Rattle.std.specs.Prelude.{◌==◌, ◌&&◌, ℕ, zero, suc, List, ◌∷◌, Option, None, Some, Result, Ok, if◌then◌else◌}
use Rattle.tiff_base.specs.declared.error.TiffError.{TiffError}
use Rattle.tiff_base.specs.declared.tags.Tag.TheVariants.{GeoKeyDirectoryTag}
use Rattle.tiff_base.specs.Answers.{◌>>=◌}
use Rattle.tiff.specs.Machine.{Decoding}
use Rattle.tiff.specs.Outcome.{get_tag_u16_vec}

-- the value of the first of `n` entries that has this key with its value in the entry
abbrev pub value_in : ℕ → ℕ → List ℕ → Option ℕ
value_in id zero entries = None
value_in id (suc n) (key ∷ location ∷ count ∷ value ∷ entries) =
    if (key == id) && (location == 0) then Some value else value_in id n entries
value_in id (suc n) entries = None

-- the value of a key in a directory of keys
abbrev pub key_value : ℕ → List ℕ → Option ℕ
key_value id (version ∷ revision ∷ minor ∷ count ∷ entries) = value_in id count entries
key_value id numbers = None

-- the value of a key of the page, or the error of the tag
abbrev pub geo_key : Decoding → ℕ → Result (Option ℕ) TiffError
geo_key d id = do
  numbers ← (get_tag_u16_vec d GeoKeyDirectoryTag).answer
  Ok (key_value id numbers)
