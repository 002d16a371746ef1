-- Room for the field of a tag is made before its value is written (this project's).
use Rattle.std.specs.Prelude.{◌≡◌, Bool, true, false, [], ◌∷◌, Result, Ok, Err, MatchResult}
use Rattle.std.specs.FinMap.{contains_key}
use Rattle.tiff_base.specs.declared.error.TiffError.{TiffError}
use Rattle.tiff_base.specs.declared.tags.Tag.{Tag}
use Rattle.tiff_base.specs.declared.tags.«Type».TheVariants.{BYTE}
use Rattle.tiff_base.specs.Field.{Field}
use Rattle.tiff_base.specs.Tags.{tag_number}
use Rattle.tiff_encode.specs.declared.encoder.directory.state.Room.{Room}
use Rattle.tiff_encode.specs.declared.encoder.directory.state.Room.TheVariants.{Taken, Held, Missing}
use Rattle.tiff_encode.specs.Machine.{FileState, OpenDirectory}
use Rattle.tiff_encode.specs.Calls.{with_field}

-- ---- room

-- the field that holds a place: it has no value
abbrev pub blank_field : Field
blank_field =
    record { field_type = BYTE; count = 0; value = 0 ∷ 0 ∷ 0 ∷ 0 ∷ 0 ∷ 0 ∷ 0 ∷ 0 ∷ [] }

-- the directory when the room is made
abbrev pub with_room : OpenDirectory → Tag → Room → OpenDirectory
with_room d t Taken = d
with_room d t Held = with_field d t blank_field
with_room d t Missing = d

-- The room is that for the field of a tag in a directory.
abbrev pub IsRoomFor : Tag → OpenDirectory → Room → Type 0
IsRoomFor t d Taken = contains_key d.fields (tag_number t) ≡ true
IsRoomFor t d Held = contains_key d.fields (tag_number t) ≡ false
IsRoomFor t d Missing = Unit {0}

abbrev pub is_made : Room → Bool
is_made Taken = true
is_made Held = true
is_made Missing = false

-- An entry was written, and the state has it; or it was refused with the error that is returned,
-- and the state is as it was before the room was made.
abbrev pub IsSettled : {S A : Type 0} → (Field → S) → S → Result Field TiffError
    → Result A TiffError → S → Type 0
IsSettled having s placed r new =
    MatchResult r
    (λ _. (field : Field) × ((placed ≡ Ok field) × (new ≡ having field)))
    (λ e. (placed ≡ Err e) × (new ≡ s))

-- ---- a value in its room

-- The file is as it was, unless a write to the sink failed.
abbrev pub StaysUnlessCut : FileState → FileState → Type 0
StaysUnlessCut old new = new.fault ≡ old.fault → new ≡ old

-- A value is written only if there is room for its entry. After an error, the file is as it was,
-- unless a write to the sink failed.
abbrev pub IsInRoom : {A : Type 0} → Bool → FileState → FileState → Result A TiffError → Type 0
IsInRoom room old new r = MatchResult r (λ _. room ≡ true) (λ _. StaysUnlessCut old new)
