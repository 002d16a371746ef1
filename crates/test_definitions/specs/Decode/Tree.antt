-- Worked examples of the tree of a file's directories: what names one, and what is found there.
use Rattle.std.specs.Prelude.{◌≡◌, ℕ, [], ◌∷◌, Some, true, false, Ok, Err}
use Rattle.std.specs.List.{fold}
use Rattle.tiff_base.specs.declared.error.TiffError.TheVariants.{IoError, LimitsExceeded}
use Rattle.tiff_base.specs.declared.io.IoKind.TheVariants.{UnexpectedEof}
use Rattle.tiff_base.specs.declared.tags.Tag.TheVariants as tag
use Rattle.tiff_base.specs.declared.tags.«Type».TheVariants as y
use Rattle.tiff_pages.specs.declared.tree.DirectoryItem.{DirectoryItem}
use Rattle.tiff_pages.specs.declared.tree.Found.{Found}
use Rattle.tiff_pages.specs.declared.tree.Found.TheVariants.{DirectoryError, ValuesError, Met, TooDeep}
use Rattle.tiff_pages.specs.declared.tree.NamedBy.{NamedBy}
use Rattle.tiff_pages.specs.Listed.{ListingRecord}
use Rattle.tiff_pages.specs.Tree.{expand, found_named, list_offset, list_values, names_directories, values_within}
use Rattle.test_definitions.specs.Decoders.{at, gray_decoder, gray_fields}

-- SubIFDs and the pointers of Exif name directories whatever their type, and any tag of type IFD or
-- IFD8
abbrev pub sub_ifds : Type 0
sub_ifds = names_directories tag.SubIfd y.LONG ≡ true

abbrev pub interoperability : Type 0
interoperability = names_directories (tag.Unknown 40965) y.LONG ≡ true

abbrev pub of_type : Type 0
of_type = names_directories tag.Artist y.IFD8 ≡ true

abbrev pub no_pointer : Type 0
no_pointer = names_directories tag.StripOffsets y.LONG ≡ false

abbrev pub by_sub_ifds : NamedBy
by_sub_ifds = record { directory = at 25; tag = tag.SubIfd }

abbrev pub item : ℕ → ℕ → Found → DirectoryItem
item offset depth found =
    record { place = at offset; depth = depth; by = Some by_sub_ifds; found = found }

-- a list whose only directory is that of the one gray pixel
abbrev pub met_gray : ListingRecord
met_gray = record { items = []; met = 25 ∷ []; left = 4 }

-- three values: an offset past the end, that of the page, and the first one again
abbrev pub named_twice : Type 0
named_twice =
    fold (list_offset gray_decoder by_sub_ifds 1) met_gray (1000 ∷ 25 ∷ 1000 ∷ [])
    ≡ record {
      items = item 1000 1 (DirectoryError (IoError UnexpectedEof)) ∷ item 25 1 Met ∷ item 1000 1 Met
          ∷ [];
      met = 25 ∷ 1000 ∷ [];
      left = 4;
    }

-- values that can't be read
abbrev pub no_values : Type 0
no_values =
    list_values gray_decoder by_sub_ifds 1 met_gray (Err LimitsExceeded)
    ≡ record met_gray { items = item 25 1 (ValuesError LimitsExceeded) ∷ [] }

-- values that a list takes are fewer to take; more of them are not read
abbrev pub values_taken : Type 0
values_taken =
    (list_values gray_decoder by_sub_ifds 1 met_gray (Ok (25 ∷ 25 ∷ 25 ∷ []))).left ≡ 1

abbrev pub values_past_the_list : Type 0
values_past_the_list =
    values_within gray_decoder gray_fields 4 (tag.SubIfd, 5)
    ≡ Err LimitsExceeded

-- the deepest directory, one below it, and one below it that was met
abbrev pub as_deep : Type 0
as_deep = found_named gray_decoder [] 8 1000 ≡ DirectoryError (IoError UnexpectedEof)

abbrev pub too_deep : Type 0
too_deep = found_named gray_decoder [] 9 25 ≡ TooDeep

abbrev pub deep_but_met : Type 0
deep_but_met = found_named gray_decoder (25 ∷ []) 9 25 ≡ Met

-- nothing is listed behind a directory that was met
abbrev pub met_stays : Type 0
met_stays =
    expand gray_decoder 1 met_gray (item 25 1 Met)
    ≡ record met_gray { items = item 25 1 Met ∷ [] }
