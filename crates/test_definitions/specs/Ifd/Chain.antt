-- Worked examples of chains of directories, and of links that are accepted.
use Rattle.std.specs.Prelude.{◌≡◌, ℕ, List, [], ◌∷◌, ◌++◌, true, false, Option, Some, None, Ok, Err}
use Rattle.std.specs.FinMap.{from_entries}
use Rattle.std.specs.Ordering.{nat_cmp}
use Rattle.tiff_base.specs.declared.error.TiffError.TheVariants.{FormatError, IoError}
use Rattle.tiff_base.specs.declared.error.TiffFormatError.TheVariants.{CycleInOffsets}
use Rattle.tiff_base.specs.declared.io.IoKind.TheVariants.{UnexpectedEof}
use Rattle.tiff_base.specs.declared.tags.ByteOrder.TheVariants.{LittleEndian, BigEndian}
use Rattle.tiff_base.specs.declared.tags.FileKind.TheVariants.{Classic, Big}
use Rattle.tiff_ifd.specs.Chain.{link_from, enter_at, AreEntered, IsChain, chain, IsLongest, AreApart}
use Rattle.tiff_ifd.specs.Links.{Links, Inserts}
use Rattle.test_definitions.specs.Files.{gray_file}

-- a file of two directories without entries, at 0 and 6, with these bytes as their links
abbrev pub two_directories : List ℕ → List ℕ → List ℕ
two_directories first second = 0x00 ∷ 0x00 ∷ (first ++ (0x00 ∷ 0x00 ∷ second))

-- the accepted links in a list
abbrev pub accepted : List (ℕ × Option ℕ) → Links
accepted links = from_entries {R = nat_cmp} links

-- the chain of `gray_file`
abbrev pub one_alone : Type 0
one_alone =
    chain Classic LittleEndian gray_file 25
    ≡ record { offsets = 25 ∷ []; end = None }

-- mistake: `chain` loses the rest
-- mistake: `chain` goes no step
-- two directories, of which the second has no next one
abbrev pub two_linked : Type 0
two_linked =
    chain Classic LittleEndian
    (two_directories (0x06 ∷ 0x00 ∷ 0x00 ∷ 0x00 ∷ []) (0x00 ∷ 0x00 ∷ 0x00 ∷ 0x00 ∷ [])) 0
    ≡ record { offsets = 0 ∷ 6 ∷ []; end = None }

-- the chain from the second of two directories on
abbrev pub from_second : Type 0
from_second =
    chain Classic LittleEndian
    (two_directories (0x06 ∷ 0x00 ∷ 0x00 ∷ 0x00 ∷ []) (0x00 ∷ 0x00 ∷ 0x00 ∷ 0x00 ∷ [])) 6
    ≡ record { offsets = 6 ∷ []; end = None }

-- mistake: `enter_at` leaves out the offset itself
-- mistake: `chain` loses the error
-- a first directory that links to itself isn't entered
abbrev pub to_itself : Type 0
to_itself =
    chain Classic LittleEndian
    (0x49 ∷ 0x49 ∷ 0x2a ∷ 0x00 ∷ 0x08 ∷ 0x00 ∷ 0x00 ∷ 0x00 ∷ 0x00 ∷ 0x00 ∷ 0x08 ∷ 0x00 ∷ 0x00
    ∷ 0x00 ∷ []) 8
    ≡ record { offsets = []; end = Some (FormatError CycleInOffsets) }

-- a second directory that links to itself isn't entered
abbrev pub second_to_itself : Type 0
second_to_itself =
    chain Classic LittleEndian
    (two_directories (0x06 ∷ 0x00 ∷ 0x00 ∷ 0x00 ∷ []) (0x06 ∷ 0x00 ∷ 0x00 ∷ 0x00 ∷ [])) 0
    ≡ record { offsets = 0 ∷ []; end = Some (FormatError CycleInOffsets) }

-- mistake: `unless_met` doesn't test the link (`to_itself` fails too)
-- mistake: `chain` forgets the offsets that it has met
-- the second directory links back to the first, at 1
abbrev pub back : Type 0
back =
    chain Classic LittleEndian
    (0xee ∷ two_directories (0x07 ∷ 0x00 ∷ 0x00 ∷ 0x00 ∷ []) (0x01 ∷ 0x00 ∷ 0x00 ∷ 0x00 ∷ [])) 1
    ≡ record { offsets = 1 ∷ []; end = Some (FormatError CycleInOffsets) }

-- mistake: `link_from` reads the directory at 0 in every case
-- the next offset is past the end
abbrev pub next_past_end : Type 0
next_past_end =
    chain Classic LittleEndian
    (two_directories (0x0c ∷ 0x00 ∷ 0x00 ∷ 0x00 ∷ []) (0x00 ∷ 0x00 ∷ 0x00 ∷ 0x00 ∷ [])) 0
    ≡ record { offsets = 0 ∷ []; end = Some (IoError UnexpectedEof) }

-- the second directory's link is cut off by one byte
abbrev pub second_cut : Type 0
second_cut =
    chain Classic LittleEndian
    (two_directories (0x06 ∷ 0x00 ∷ 0x00 ∷ 0x00 ∷ []) (0x00 ∷ 0x00 ∷ 0x00 ∷ [])) 0
    ≡ record { offsets = 0 ∷ []; end = Some (IoError UnexpectedEof) }

-- no directory is read at all
abbrev pub first_cut : Type 0
first_cut =
    chain Classic LittleEndian (0x00 ∷ []) 0
    ≡ record { offsets = []; end = Some (IoError UnexpectedEof) }

-- two directories of a big-endian BigTIFF file
abbrev pub big_linked : Type 0
big_linked =
    chain Big BigEndian
    (0x00 ∷ 0x00 ∷ 0x00 ∷ 0x00 ∷ 0x00 ∷ 0x00 ∷ 0x00 ∷ 0x00 ∷ 0x00 ∷ 0x00 ∷ 0x00 ∷ 0x00 ∷ 0x00
    ∷ 0x00 ∷ 0x00 ∷ 0x10
    ∷ 0x00 ∷ 0x00 ∷ 0x00 ∷ 0x00 ∷ 0x00 ∷ 0x00 ∷ 0x00 ∷ 0x00 ∷ 0x00 ∷ 0x00 ∷ 0x00 ∷ 0x00 ∷ 0x00
    ∷ 0x00 ∷ 0x00 ∷ 0x00 ∷ []) 0
    ≡ record { offsets = 0 ∷ 16 ∷ []; end = None }

-- the link of a directory, a link of 0, and a directory that is cut off
abbrev pub link_6 : Type 0
link_6 =
    link_from Classic LittleEndian (0x00 ∷ 0x00 ∷ 0x06 ∷ 0x00 ∷ 0x00 ∷ 0x00 ∷ []) 0 ≡ Ok (Some 6)

abbrev pub link_0 : Type 0
link_0 =
    link_from Classic LittleEndian (0x00 ∷ 0x00 ∷ 0x00 ∷ 0x00 ∷ 0x00 ∷ 0x00 ∷ []) 0 ≡ Ok None

abbrev pub link_cut : Type 0
link_cut =
    link_from Classic LittleEndian (0x00 ∷ 0x00 ∷ 0x06 ∷ 0x00 ∷ 0x00 ∷ []) 0
    ≡ Err (IoError UnexpectedEof)

-- a directory that links to 6 is entered after one at 8, and isn't after one at 6
abbrev pub entered_6 : Type 0
entered_6 =
    enter_at (λ offset. Ok (Some 6)) (8 ∷ []) 7 ≡ Ok (Some 6)

abbrev pub not_entered : Type 0
not_entered =
    enter_at (λ offset. Ok (Some 6)) (6 ∷ []) 7 ≡ Err (FormatError CycleInOffsets)

-- the first of two directories is entered, and then the second
abbrev pub the_first : Type 0
the_first =
    AreEntered
    (link_from Classic LittleEndian
    (two_directories (0x06 ∷ 0x00 ∷ 0x00 ∷ 0x00 ∷ []) (0x00 ∷ 0x00 ∷ 0x00 ∷ 0x00 ∷ []))) []
    (Some 0) (0 ∷ [])

abbrev pub both : Type 0
both =
    AreEntered
    (link_from Classic LittleEndian
    (two_directories (0x06 ∷ 0x00 ∷ 0x00 ∷ 0x00 ∷ []) (0x00 ∷ 0x00 ∷ 0x00 ∷ 0x00 ∷ []))) []
    (Some 0) (0 ∷ 6 ∷ [])

-- mistake: `AreEntered` allows any offset
-- the second of two directories isn't entered first
abbrev pub not_the_second : Type 0
not_the_second =
    AreEntered
    (link_from Classic LittleEndian
    (two_directories (0x06 ∷ 0x00 ∷ 0x00 ∷ 0x00 ∷ []) (0x00 ∷ 0x00 ∷ 0x00 ∷ 0x00 ∷ []))) []
    (Some 0) (6 ∷ []) → ⊥

-- mistake: `IsChain` allows an offset that isn't the next one
-- both directories are a chain without an error; without a next offset the chain is empty
abbrev pub a_chain : Type 0
a_chain =
    IsChain (link_from Classic LittleEndian
    (two_directories (0x06 ∷ 0x00 ∷ 0x00 ∷ 0x00 ∷ []) (0x00 ∷ 0x00 ∷ 0x00 ∷ 0x00 ∷ []))) []
    (Some 0) (0 ∷ 6 ∷ []) None

-- mistake: `IsChain` allows no end at a link of 0
abbrev pub no_chain : Type 0
no_chain =
    IsChain (link_from Classic LittleEndian (0x00 ∷ 0x00 ∷ 0x00 ∷ 0x00 ∷ 0x00 ∷ 0x00 ∷ [])) [] None
    [] None

-- in an empty file no offset is entered
abbrev pub none_longest : Type 0
none_longest =
    IsLongest Classic LittleEndian [] 0 []

-- mistake: `IsLongest` takes the shortest
-- the first of two directories isn't the longest list
abbrev pub one_not_longest : Type 0
one_not_longest =
    IsLongest Classic LittleEndian
    (two_directories (0x06 ∷ 0x00 ∷ 0x00 ∷ 0x00 ∷ []) (0x00 ∷ 0x00 ∷ 0x00 ∷ 0x00 ∷ [])) 0
    (0 ∷ []) → ⊥

-- two different offsets of a file of seven bytes
abbrev pub offsets_apart : Type 0
offsets_apart =
    AreApart (0x00 ∷ 0x00 ∷ 0x00 ∷ 0x00 ∷ 0x00 ∷ 0x00 ∷ 0x00 ∷ []) (0 ∷ 6 ∷ [])

-- mistake: `AreApart` allows an offset twice
-- a repeated offset, and an offset past the end
abbrev pub offset_twice : Type 0
offset_twice =
    AreApart (0x00 ∷ 0x00 ∷ 0x00 ∷ 0x00 ∷ 0x00 ∷ 0x00 ∷ 0x00 ∷ []) (0 ∷ 0 ∷ []) → ⊥

-- mistake: `AreApart` allows the end of the file
abbrev pub offset_past_end : Type 0
offset_past_end =
    AreApart (0x00 ∷ 0x00 ∷ 0x00 ∷ 0x00 ∷ 0x00 ∷ 0x00 ∷ 0x00 ∷ []) (7 ∷ []) → ⊥

-- mistake: `IsNew` takes a link that closes a cycle for new
-- mistake: `Inserts` doesn't record a link that is accepted
-- the link from 8 to 20 is accepted
abbrev pub first_link : Type 0
first_link =
    Inserts (accepted []) 8 (Some 20) (Ok true) (accepted ((8, Some 20) ∷ []))

-- the link from 8 to 20 again isn't inserted
abbrev pub same_link : Type 0
same_link =
    Inserts (accepted ((8, Some 20) ∷ [])) 8 (Some 20) (Ok false) (accepted ((8, Some 20) ∷ []))

-- mistake: `HasAnother` takes the same link for another
-- a link from 8 to 30 contradicts the link from 8 to 20
abbrev pub other_link : Type 0
other_link =
    Inserts (accepted ((8, Some 20) ∷ [])) 8 (Some 30) (Err (FormatError CycleInOffsets))
    (accepted ((8, Some 20) ∷ []))

-- mistake: `Goes` goes against the links
-- mistake: `Closes` goes from where the link begins to where it leads
-- mistake: `IsNew` allows that the link's offset has a link
-- a link from 20 to 8 closes a cycle
abbrev pub closing_link : Type 0
closing_link =
    Inserts (accepted ((8, Some 20) ∷ [])) 20 (Some 8) (Err (FormatError CycleInOffsets))
    (accepted ((8, Some 20) ∷ []))

-- the link from 20 to none is accepted
abbrev pub last_link : Type 0
last_link =
    Inserts (accepted ((8, Some 20) ∷ [])) 20 None (Ok true)
    (accepted ((20, None) ∷ (8, Some 20) ∷ []))

-- mistake: `link_target` takes 0 for an offset like others
-- the link from 20 to offset 0 is the same as to none
abbrev pub zero_link : Type 0
zero_link =
    Inserts (accepted ((20, None) ∷ (8, Some 20) ∷ [])) 20 (Some 0) (Ok false)
    (accepted ((20, None) ∷ (8, Some 20) ∷ []))

-- the link from 30 to 20 is accepted: two directories may link to one offset
abbrev pub second_parent : Type 0
second_parent =
    Inserts (accepted ((20, None) ∷ (8, Some 20) ∷ [])) 30 (Some 20) (Ok true)
    (accepted ((30, Some 20) ∷ (20, None) ∷ (8, Some 20) ∷ []))

-- mistake: `Goes` lets no offset reach itself
-- a link from 40 to 40 closes a cycle of one
abbrev pub own_link : Type 0
own_link =
    Inserts (accepted ((30, Some 20) ∷ (20, None) ∷ (8, Some 20) ∷ [])) 40 (Some 40)
    (Err (FormatError CycleInOffsets))
    (accepted ((30, Some 20) ∷ (20, None) ∷ (8, Some 20) ∷ []))
