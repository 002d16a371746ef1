-- Worked examples of walks along chains of directories.
use Rattle.std.specs.Prelude.{ℕ, List, [], ◌∷◌, Option, Some, None, Result, Ok, Err, take}
use Rattle.std.specs.FinMap.{from_entries}
use Rattle.tiff_base.specs.declared.error.TiffError.{TiffError}
use Rattle.tiff_base.specs.declared.error.TiffError.TheVariants.{FormatError, IoError}
use Rattle.tiff_base.specs.declared.error.TiffFormatError.TheVariants.{CycleInOffsets}
use Rattle.tiff_base.specs.declared.io.IoKind.TheVariants.{UnexpectedEof}
use Rattle.tiff_base.specs.declared.tags.ByteOrder.TheVariants.{LittleEndian}
use Rattle.tiff_base.specs.declared.tags.FileKind.TheVariants.{Classic}
use Rattle.tiff_base.specs.Field.{DirectoryRecord}
use Rattle.tiff_base.specs.SourceAndSink.{put, SourceRecord}
use Rattle.tiff_ifd.specs.IfdChainWalk as walk
use Rattle.tiff_ifd.specs.IfdChainWalk.{Walked}
use Rattle.test_definitions.specs.Decoders.{three_file}
use Rattle.test_definitions.specs.Ifd.Stretches.{nothing, one_entry}

-- the walk along three directories at 8, 14 and 20, after this number of them
abbrev pub none_entered : Walked
none_entered = record { offsets = []; next = Some 8 }

abbrev pub one_entered : Walked
one_entered = record { offsets = 8 ∷ []; next = Some 14 }

abbrev pub two_entered : Walked
two_entered = record { offsets = 8 ∷ 14 ∷ []; next = Some 20 }

abbrev pub all_entered : Walked
all_entered = record { offsets = 8 ∷ 14 ∷ 20 ∷ []; next = None }

-- `three_file` with a link from the second directory back to the first, and `three_file` without
-- its last byte
abbrev pub back_file : List ℕ
back_file = put three_file 16 (8 ∷ [])

abbrev pub cut_file : List ℕ
cut_file = take 25 three_file

-- a directory without fields and with this next directory
abbrev pub linking : Option ℕ → DirectoryRecord
linking next = record { entries = from_entries []; next = next }

-- ---- steps

-- the step of a walk from one state to another, with this result
abbrev pub Steps : List ℕ → Walked → Result (Option DirectoryRecord) TiffError → Walked → Type 0
Steps bytes before answer after = walk.WalkSteps Classic LittleEndian bytes before answer after

-- the first directory is entered, and then the second
abbrev pub enters_first : Type 0
enters_first =
    walk.Enters Classic LittleEndian three_file none_entered (linking (Some 14)) one_entered

abbrev pub enters_second : Type 0
enters_second =
    walk.Enters Classic LittleEndian three_file one_entered (linking (Some 20)) two_entered

-- mistake: `Enters` puts the offset before the others
abbrev pub enters_in_front : Type 0
enters_in_front =
    walk.Enters Classic LittleEndian three_file one_entered (linking (Some 20))
    (record { offsets = 14 ∷ 8 ∷ []; next = Some 20 }) → ⊥

-- mistake: `Enters` allows any directory
-- a step returns no other directory, and leaves no other next offset
abbrev pub enters_other : Type 0
enters_other = (after : Walked)
    → walk.Enters Classic LittleEndian three_file one_entered (linking None) after → ⊥

-- mistake: `Enters` keeps the old link
abbrev pub enters_same_link : Type 0
enters_same_link =
    walk.Enters Classic LittleEndian three_file one_entered (linking (Some 20))
    (record two_entered { next = Some 14 }) → ⊥

-- mistake: `Enters` doesn't test the directory's link
-- a second directory that links back isn't entered, nor is a third one that is cut off
abbrev pub enters_back : Type 0
enters_back = (directory : DirectoryRecord) (after : Walked)
    → walk.Enters Classic LittleEndian back_file one_entered directory after → ⊥

-- mistake: `NextIsRefused` forgets the offsets
abbrev pub back_refused : Type 0
back_refused =
    walk.NextIsRefused Classic LittleEndian back_file one_entered (FormatError CycleInOffsets)

abbrev pub cut_refused : Type 0
cut_refused = walk.NextIsRefused Classic LittleEndian cut_file two_entered (IoError UnexpectedEof)

-- mistake: `NextIsRefused` allows any error
-- the second of three directories isn't refused, nor is a missing next offset
abbrev pub second_refused : Type 0
second_refused = (e : TiffError) → walk.NextIsRefused Classic LittleEndian three_file one_entered e
    → ⊥

-- mistake: `NextIsRefused` allows any offset
abbrev pub none_refused : Type 0
none_refused = (e : TiffError) → walk.NextIsRefused Classic LittleEndian three_file all_entered e
    → ⊥

-- a step enters the next directory
abbrev pub step_first : Type 0
step_first = Steps three_file none_entered (Ok (Some (linking (Some 14)))) one_entered

-- a step after the last directory returns none, and not before it
abbrev pub step_last : Type 0
step_last = Steps three_file all_entered (Ok None) all_entered

-- mistake: `WalkSteps` allows none at any time
abbrev pub step_early : Type 0
step_early = Steps three_file two_entered (Ok None) two_entered → ⊥

-- an error leaves the walk unchanged
abbrev pub step_back : Type 0
step_back = Steps back_file one_entered (Err (FormatError CycleInOffsets)) one_entered

-- mistake: `WalkSteps` ends the walk at an error
abbrev pub step_back_ends : Type 0
step_back_ends =
    Steps back_file one_entered (Err (FormatError CycleInOffsets))
    (record one_entered { next = None }) → ⊥

-- ---- chains

-- the chain of the file from offset 8 on begins with this walk
abbrev pub Begins : List ℕ → Walked → Type 0
Begins bytes so_far = walk.ChainBegins Classic LittleEndian bytes 8 so_far

abbrev pub Ends : List ℕ → Walked → Option TiffError → Type 0
Ends bytes so_far end = walk.ChainEnds Classic LittleEndian bytes 8 so_far end

abbrev pub begins_none : Type 0
begins_none = Begins three_file none_entered

abbrev pub begins_one : Type 0
begins_one = Begins three_file one_entered

abbrev pub begins_all : Type 0
begins_all = Begins three_file all_entered

-- mistake: `ChainBegins` continues as if no offset was entered
-- the chain begins before a directory that links back
abbrev pub begins_back : Type 0
begins_back = Begins back_file one_entered

-- mistake: `ChainBegins` allows any offsets
-- the chain doesn't begin with the second directory, or with one offset without the link after it
abbrev pub begins_second : Type 0
begins_second = Begins three_file (record { offsets = 14 ∷ []; next = Some 20 }) → ⊥

-- mistake: `ChainBegins` doesn't ask that the chain continues
abbrev pub begins_ended : Type 0
begins_ended = Begins three_file (record one_entered { next = None }) → ⊥

-- all three directories are the chain, and two of them aren't
abbrev pub ends_all : Type 0
ends_all = Ends three_file all_entered None

-- mistake: `ChainEnds` doesn't compare the offsets
abbrev pub ends_early : Type 0
ends_early = Ends three_file two_entered None → ⊥

-- if the second directory links back, the first one is the chain, and the error ends it
abbrev pub ends_back : Type 0
ends_back = Ends back_file one_entered (Some (FormatError CycleInOffsets))

-- mistake: `ChainEnds` doesn't compare the end
abbrev pub ends_plain : Type 0
ends_plain = Ends back_file one_entered None → ⊥

-- ---- bytes that walks need

-- the walk before a directory of one entry at offset 0
abbrev pub before_entry : Walked
before_entry = record { offsets = []; next = Some 0 }

-- mistake: `NextReadable` asks also where there is no next offset
-- without a next offset, no bytes are needed
abbrev pub none_needed : Type 0
none_needed = walk.NextReadable nothing Classic LittleEndian all_entered

-- entering the next directory needs its 18 bytes, with its link and its entry
abbrev pub whole_needed : Type 0
whole_needed = walk.NextReadable (one_entry ((0, 18) ∷ [])) Classic LittleEndian before_entry

-- mistake: `NextReadable` asks for no bytes
abbrev pub whole_needed_link : Type 0
whole_needed_link = walk.NextReadable (one_entry ((0, 14) ∷ [])) Classic LittleEndian before_entry
    → ⊥

-- mistake: `NextReadable` asks for its count and link alone
abbrev pub whole_needed_entry : Type 0
whole_needed_entry =
    walk.NextReadable (one_entry ((0, 2) ∷ (14, 4) ∷ [])) Classic LittleEndian before_entry → ⊥

-- mistake: `NextLinkReadable` asks for its entries too
-- passing the next directory needs its count and its link, but not its entry
abbrev pub link_needed : Type 0
link_needed =
    walk.NextLinkReadable (one_entry ((0, 2) ∷ (14, 4) ∷ [])) Classic LittleEndian before_entry

-- mistake: `NextLinkReadable` asks for no bytes
abbrev pub link_needed_all : Type 0
link_needed_all = walk.NextLinkReadable (one_entry ((0, 14) ∷ [])) Classic LittleEndian before_entry
    → ⊥

-- mistake: `NextLinkReadable` asks also where there is no next offset
abbrev pub no_link_needed : Type 0
no_link_needed = walk.NextLinkReadable nothing Classic LittleEndian all_entered

-- three directories of six bytes, of which the first two are readable
abbrev pub two_of_three : SourceRecord
two_of_three = record { bytes = three_file; readable = Some ((8, 12) ∷ []) }

-- mistake: `WayReadable` asks for all directories
-- the way to the second directory needs the first two directories; the way to the third needs the
-- third too
abbrev pub way_to_second : Type 0
way_to_second = walk.WayReadable two_of_three Classic LittleEndian 8 1

-- mistake: `WayReadable` asks for one directory fewer
abbrev pub way_to_third : Type 0
way_to_third = walk.WayReadable two_of_three Classic LittleEndian 8 2 → ⊥
