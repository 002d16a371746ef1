-- Worked examples of the last link of a file, and of files that an encoder goes on behind.
use Rattle.std.specs.Prelude.{◌≡◌, ℕ, List, [], ◌∷◌, ◌++◌, None, Ok, Err}
use Rattle.tiff_base.specs.declared.error.TiffError.TheVariants.{IoError}
use Rattle.tiff_base.specs.declared.io.IoKind.TheVariants.{UnexpectedEof}
use Rattle.tiff_base.specs.declared.tags.FileKind.TheVariants.{Classic, Big}
use Rattle.tiff_value.specs.FileBytes.{header_bytes}
use Rattle.tiff_encode.specs.LongerChain.{file_chain, last_link_at}

-- a classic header with these bytes as its link
abbrev pub header_to : List ℕ → List ℕ
header_to link = (0x49 ∷ 0x49 ∷ 0x2a ∷ 0x00 ∷ []) ++ link

-- a directory without entries, with these bytes as its link
abbrev pub empty_directory : List ℕ → List ℕ
empty_directory link = (0x00 ∷ 0x00 ∷ []) ++ link

-- a directory of one entry, ImageWidth 5, that links to none
abbrev pub one_entry : List ℕ
one_entry =
    0x01 ∷ 0x00 ∷ 0x00 ∷ 0x01 ∷ 0x04 ∷ 0x00 ∷ 0x01 ∷ 0x00 ∷ 0x00 ∷ 0x00 ∷ 0x05 ∷ 0x00 ∷ 0x00 ∷ 0x00
    ∷ 0x00 ∷ 0x00
    ∷ 0x00 ∷ 0x00 ∷ []

-- a file with a directory at 8, which has these bytes as its link
abbrev pub one_directory : List ℕ → List ℕ
one_directory link = header_to (0x08 ∷ 0x00 ∷ 0x00 ∷ 0x00 ∷ []) ++ empty_directory link

-- without a directory the last link is that of the header
abbrev pub in_header : Type 0
in_header = last_link_at Classic (header_bytes Classic) ≡ Ok 4

abbrev pub in_big_header : Type 0
in_big_header = last_link_at Big (header_bytes Big) ≡ Ok 8

-- mistake: `last_link_at` takes the number of entries for the link
-- the last link is that of the only directory, behind its number of entries
abbrev pub in_directory : Type 0
in_directory = last_link_at Classic (one_directory (0x00 ∷ 0x00 ∷ 0x00 ∷ 0x00 ∷ [])) ≡ Ok 10

-- mistake: `last_link_at` takes the link of the first directory
-- mistake: `last_link_at` leaves out the entries
-- the last link is that of the second directory, at 14, behind its entry
abbrev pub in_second : Type 0
in_second =
    last_link_at Classic (one_directory (0x0e ∷ 0x00 ∷ 0x00 ∷ 0x00 ∷ []) ++ one_entry) ≡ Ok 28

-- mistake: `last_link_at` has a last link in a chain that breaks off
-- a chain that ends with an error has no last link
abbrev pub no_last : Type 0
no_last = last_link_at Classic (one_directory (0x0e ∷ 0x00 ∷ 0x00 ∷ 0x00 ∷ []))
    ≡ Err (IoError UnexpectedEof)

-- the chain of a file without a directory, and that of the file whose last link points behind its
-- former end
abbrev pub none_before : Type 0
none_before = file_chain Classic (header_bytes Classic) ≡ Ok (record { offsets = []; end = None })

abbrev pub one_more : Type 0
one_more =
    file_chain Classic (one_directory (0x0e ∷ 0x00 ∷ 0x00 ∷ 0x00 ∷ []) ++ one_entry)
    ≡ Ok (record { offsets = 8 ∷ 14 ∷ []; end = None })
